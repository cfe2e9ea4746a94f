use Rattle.std.proofs.Common.{ℕ, List, sym, subst}
use Rattle.nm_base.specs.declared.event.Event.{Event}
use Rattle.nm_events.specs.Entries.{AreDistinct, heap_pairs}
use Rattle.nm_events.proofs.AnyOrder.{none_distinct}
use Rattle.nm_events.proofs.heap_list.HeapListEventList.new.Goals as goal

pub invariant_of-result : goal.invariant_of-result
invariant_of-result c = (c.new.ensures.heap_order, subst (λ z. AreDistinct (heap_pairs z)) (sym c.new.ensures.items) (none_distinct (Event (List ℕ))))
