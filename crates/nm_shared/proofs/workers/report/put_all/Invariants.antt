use Rattle.std.proofs.Common.{◌≡◌, vec_len}
use Rattle.std.specs.Vec.Iter.{into_iter_items}
use Rattle.nm_shared.specs.Pool.{put_in_places}
use Rattle.nm_shared.proofs.workers.report.put_all.Given as goal

abbrev pub invariant-loop-done : goal.invariant-loop-done
invariant-loop-done g l = record {
  length : vec_len l.slots ≡ vec_len l.initial.slots;
  put : put_in_places (λ d. d.place) l.slots.items (into_iter_items l.done-iterator) ≡ put_in_places (λ d. d.place) l.fn.slots.items l.fn.all.items;
}
