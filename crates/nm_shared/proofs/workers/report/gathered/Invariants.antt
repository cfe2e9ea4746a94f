use Rattle.std.proofs.Common.{◌≡◌, length, vec_len}
use Rattle.std.specs.Vec.Iter.{into_iter_items}
use Rattle.nm_shared.specs.Pool.{HadMemory, done_by, put_in_places}
use Rattle.nm_shared.proofs.workers.report.gathered.Given as goal

abbrev pub invariant-loop-result : goal.invariant-loop-result
invariant-loop-result g l = record {
  length : vec_len l.slots ≡ length g.J.Jobs.books;
  put : put_in_places (λ d. d.place) l.slots.items (done_by (into_iter_items l.result-iterator)) ≡ put_in_places (λ d. d.place) l.fn.slots.items (done_by l.fn.results.items);
  memory : HadMemory (into_iter_items l.result-iterator) → HadMemory l.fn.results.items;
}
