use Rattle.std.proofs.Common.{rules, ◌≡◌, ◌≤◌, false, length, arith, below_more}
use Rattle.nm_policy.specs.Awaited.{is_awaited_at}
use Rattle.nm_policy.proofs.Waiting.{none_awaited}
use Rattle.nm_policy.proofs.contacts.Contacts.first_awaited.Goals as goal

pub loop-peer-init : goal.loop-peer-init
loop-peer-init c = λ k l. absurd (omega (arith, l))

pub loop-peer-preserved : goal.loop-peer-preserved
loop-peer-preserved c =
    let here : is_awaited_at c.args.self.now c.loop-peer.peer ≡ false = search rules in
    λ k low. below_more (λ k. is_awaited_at c.args.self.now k ≡ false) c.loop-peer.peer c.loop-peer.invariant here k low

pub returns : goal.returns
returns c =
    let all : length c.args.self.now.peers ≤ c.loop-peer.peer = search rules in
    none_awaited c.args.self.now c.loop-peer.peer all c.loop-peer.invariant
