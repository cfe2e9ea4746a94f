use Rattle.std.proofs.Common.{◌≡◌, ◌<◌, length, ap, sym, arith, rules}
use Rattle.std.proofs.lemmas.Grind.{common_steps}
use Rattle.std.specs.BinaryHeap.{heap_items}
use Rattle.std.specs.List.{slice_index_or}
use Rattle.std.specs.Option.{option_map}
use Rattle.nm_events.proofs.Heaped.{none_least, top_least}
use Rattle.nm_events.proofs.heap_list.HeapListEventList.least.Goals as goal

pub returns-in_err-entry : goal.returns-in_err-entry
returns-in_err-entry c =
    let none : length (heap_items c.self.inside.heap) ≡ 0 = grind (arith, common_steps, c.in_err-entry.ensures.variant) in
    rw (c.from_residual.ensures, ← c.self.view_is) (ap (option_map (λ e. e.0)) (sym (none_least _ none)))

pub returns : goal.returns
returns c =
    let some : 0 < length (heap_items c.self.inside.heap) = grind (arith, common_steps, c.in_ok-entry.ensures.variant) in
    let is : c.in_ok-entry.entry.now ≡ slice_index_or (heap_items c.self.inside.heap) 0 c.in_ok-entry.entry.now = search rules in
    rw (c.key.ensures, ← c.self.view_is) (ap (option_map (λ e. e.0)) (top_least c.in_ok-entry.entry.now _ some is (c.in_ok-entry.ensures.greatest c.self.invariant.0) c.self.invariant.1))
