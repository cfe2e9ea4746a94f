use Rattle.std.proofs.Common.{rules, [], ◌≡◌, slice_get, sym, ap, ◌∙◌, ⊎_elim, subst}
use Rattle.nm_measure.specs.declared.lane.Lane.{Lane}
use Rattle.nm_measure.proofs.Lists.{pushed_is}
use Rattle.nm_measure.proofs.watched.lanes_of.Goals as goal

pub loop-number-preserved : goal.loop-number-preserved
loop-number-preserved c = record {
  within = search rules;
  count = search rules;
  none = λ i x at. ⊎_elim
      (λ before. c.loop-number.invariant.none i x before)
      (λ last. subst (λ (l : Lane). (l.line.items ≡ []) × (l.waiting ≡ 0)) (sym last.1) (c.new.ensures.line, c.new.ensures.waiting))
      (pushed_is c.loop-number.all.items c.new.result i x (sym (ap (λ l. slice_get l i) c.in_ok-push.ensures.items) ∙ at));
}
