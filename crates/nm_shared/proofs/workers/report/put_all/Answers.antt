use Rattle.std.proofs.Common.{◌≡◌, length, ap, sym, ◌∙◌, rules}
use Rattle.std.specs.Vec.Iter.{into_iter_items}
use Rattle.nm_shared.specs.Pool.{put_in_places}
use Rattle.nm_shared.proofs.Pools.{put_none}
use Rattle.nm_shared.proofs.workers.report.put_all.Goals as goal

pub loop-done-preserved : goal.loop-done-preserved
unfolding put_in_places
loop-done-preserved g c = record {
  length = search rules;
  put =
      ap (λ s. put_in_places (λ d. d.place) s (into_iter_items c.next.new.self)) c.put.ensures
      ∙ sym (ap (put_in_places (λ d. d.place) c.loop-done.slots.items) c.in-Some.ensures.steps.0) ∙ c.loop-done.invariant.put;
}

pub returns-clause-put : goal.returns-clause-put
returns-clause-put g c =
    let left = into_iter_items c.loop-done.done-iterator in
    let none : length left ≡ 0 = let h = c.in-None.ensures.steps.0 in search rules in
    sym (put_none (λ d. d.place) c.loop-done.slots.items left none) ∙ c.loop-done.invariant.put
