use Rattle.std.proofs.Common.{◌≡◌, ◌<◌, ◌∙◌, Some, length, ap, sym, arith, rules}
use Rattle.std.proofs.lemmas.Grind.{common_steps}
use Rattle.std.specs.BinaryHeap.{heap_items}
use Rattle.std.specs.List.{slice_index_or}
use Rattle.nm_model.specs.EventList.{is_before}
use Rattle.nm_events.specs.Entries.{pair}
use Rattle.nm_events.proofs.Heaped.{none_least, top_least}
use Rattle.nm_events.proofs.heap_list.HeapListEventList.is_due.Goals as goal

pub returns-in-None : goal.returns-in-None
returns-in-None c =
    let none : length (heap_items c.self.inside.heap) ≡ 0 = grind (arith, common_steps, c.in-None.ensures.variant) in
    rw (← c.self.view_is) (ap (is_before c.args.before) (sym (none_least _ none)))

pub returns-in-Some : goal.returns-in-Some
returns-in-Some c =
    let some : 0 < length (heap_items c.self.inside.heap) = grind (arith, common_steps, c.in-Some.ensures.variant) in
    let is : c.in-Some.entry.now ≡ slice_index_or (heap_items c.self.inside.heap) 0 c.in-Some.entry.now = search rules in
    let due : c.lt.result ≡ is_before c.args.before (Some (pair c.in-Some.entry.now.0)) = search rules in
    rw (← c.self.view_is) (due ∙ ap (is_before c.args.before) (top_least c.in-Some.entry.now _ some is (c.in-Some.ensures.greatest c.self.invariant.0) c.self.invariant.1))
