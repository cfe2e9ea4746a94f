use Rattle.std.proofs.Common.{inl, inr, sym, ◌∙◌}
use Rattle.nm_replica.proofs.Finishing.{all_finished}
use Rattle.nm_replica.proofs.staying.may_end.Goals as goal

pub returns-then-may_leave-clause-ends : goal.returns-then-may_leave-clause-ends
returns-then-may_leave-clause-ends g c = λ _. (c.if-not-is_done.false, inl (sym c.may_leave.ensures.leaves ∙ c.if-may_leave.true))

pub returns-clause-ends : goal.returns-clause-ends
returns-clause-ends g c = λ is.
    (c.if-not-is_done.false, inr (all_finished _ _ _ (c.all_are_done.ensures.some is) (c.all_are_done.ensures.all is)))

pub returns-clause-goes_on : goal.returns-clause-goes_on
returns-clause-goes_on g c = λ no. inr (sym c.may_leave.ensures.leaves ∙ c.if-may_leave.false, c.all_are_done.ensures.left no)
