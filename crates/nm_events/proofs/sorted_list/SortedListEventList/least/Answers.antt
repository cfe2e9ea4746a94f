use Rattle.std.proofs.Common.{◌≡◌, ◌<◌, length, ap, sym, arith, rules}
use Rattle.std.proofs.lemmas.Grind.{common_steps}
use Rattle.std.specs.List.{slice_index_or}
use Rattle.std.specs.Option.{option_map}
use Rattle.nm_events.proofs.Sorted.{front_least, none_least}
use Rattle.nm_events.proofs.sorted_list.SortedListEventList.least.Goals as goal

pub returns-in_err-entry : goal.returns-in_err-entry
returns-in_err-entry c =
    let none : length c.self.inside.entries.items ≡ 0 = grind (arith, common_steps, c.in_err-entry.ensures.item) in
    rw (c.from_residual.ensures, ← c.self.view_is) (ap (option_map (λ e. e.0)) (sym (none_least _ none)))

pub returns : goal.returns
returns c =
    let some : 0 < length c.self.inside.entries.items = grind (arith, common_steps, c.in_ok-entry.ensures.item) in
    let is : c.in_ok-entry.entry.now ≡ slice_index_or c.self.inside.entries.items 0 c.in_ok-entry.entry.now = search rules in
    rw (c.key.ensures, ← c.self.view_is) (ap (option_map (λ e. e.0)) (front_least c.in_ok-entry.entry.now _ some is c.self.invariant))
