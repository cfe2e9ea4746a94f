use Rattle.std.proofs.Common.{◌≡◌, false, rules, below_more}
use Rattle.slab.specs.Slab.{get}
use Rattle.nm_replica.specs.Connections.{is_ready}
use Rattle.nm_replica.proofs.Readiness.{none_ready}
use Rattle.nm_replica.proofs.connections.Connections.have_more.Goals as goal

pub loop-key-preserved : goal.loop-key-preserved
loop-key-preserved g c =
    let here : is_ready (get c.args.self.now.open c.loop-key.key) ≡ false = search rules in
    λ k low. below_more (λ k. is_ready (get c.args.self.now.open k) ≡ false) c.loop-key.key c.loop-key.invariant here k low

pub returns-clause-none : goal.returns-clause-none
returns-clause-none g c = λ _. none_ready c.args.self.now.open c.loop-key.key (search rules) c.loop-key.invariant
