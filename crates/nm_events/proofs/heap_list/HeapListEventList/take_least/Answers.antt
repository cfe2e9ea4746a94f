use Rattle.std.proofs.Common.{◌≡◌, ◌∙◌, Some, length, ap, sym, arith}
use Rattle.std.proofs.lemmas.Grind.{common_steps}
use Rattle.std.specs.BinaryHeap.{heap_items}
use Rattle.std.specs.FinMap.{from_entries, remove}
use Rattle.std.specs.Option.{option_map}
use Rattle.nm_base.specs.Key.{key_cmp}
use Rattle.nm_model.specs.EventList.{least}
use Rattle.nm_model.specs.Run.{keyed}
use Rattle.nm_events.specs.Entries.{AreDistinct, entry_key, heap_pairs, pair}
use Rattle.nm_events.proofs.Heaped.{none_least, popped}
use Rattle.nm_events.proofs.heap_list.HeapListEventList.take_least.Goals as goal

pub returns-in_err-entry-clause-least : goal.returns-in_err-entry-clause-least
returns-in_err-entry-clause-least c =
    let none : length (heap_items c.self.inside.heap) ≡ 0 = grind (arith, common_steps, c.in_err-entry.ensures.none) in
    rw (← c.self.view_is) (ap (option_map (λ e. keyed e.0 e.1 e.2)) c.from_residual.ensures ∙ sym (none_least _ none))

taken : (c : goal.After-entry-2-1) → AreDistinct (heap_pairs (heap_items c.pop.new.self))
    × (Some (pair c.in_ok-entry.field-0.0) ≡ least (from_entries (heap_pairs (heap_items c.self.inside.heap))))
    × (from_entries {R = key_cmp} (heap_pairs (heap_items c.pop.new.self)) ≡ remove (from_entries (heap_pairs (heap_items c.self.inside.heap))) (entry_key c.in_ok-entry.field-0.0))
taken c = popped c.in_ok-entry.field-0 _ _ c.in_ok-entry.ensures.permutation (c.in_ok-entry.ensures.below_top c.self.invariant.0) c.self.invariant.1

pub invariant_of-self-2 : goal.invariant_of-self-2
invariant_of-self-2 c = ((c.in_ok-entry.ensures.heap_order c.self.invariant.0).0, (taken c).0)

pub returns-clause-least : goal.returns-clause-least
returns-clause-least c = rw (← c.self.view_is) (taken c).1

pub returns-clause-rest : goal.returns-clause-rest
returns-clause-rest c = rw (← c.self.view_is) (taken c).2
