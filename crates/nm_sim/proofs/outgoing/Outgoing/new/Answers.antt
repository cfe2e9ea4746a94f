use Rattle.std.proofs.Common.{◌≡◌, ◌+◌, ◌≤◌, [], inl, length, rules}
use Rattle.nm_sim.proofs.Tables.{all_pushed}
use Rattle.nm_sim.proofs.outgoing.Outgoing.new.Goals as goal

pub invariant_of-result : goal.invariant_of-result
invariant_of-result c = λ i x e. inl (c.loop-number.invariant.2 i x e)

pub loop-number-preserved : goal.loop-number-preserved
loop-number-preserved c =
    let count : length c.push.new.self.items ≡ c.loop-number._number + 1 = search rules in (
      count,
      rw (c.in_ok-push.ensures.items) (all_pushed (λ c v. v.messages ≡ []) c.loop-number.channels.items c.in_ok-new.field-0 c.loop-number.invariant.1 c.in_ok-new.ensures.messages),
      rw (c.in_ok-push.ensures.items) (all_pushed (λ c v. 1 ≤ v.spare) c.loop-number.channels.items c.in_ok-new.field-0 c.loop-number.invariant.2 c.in_ok-new.ensures.spare),
    )
