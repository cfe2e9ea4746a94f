use Rattle.std.proofs.Common.{◌≡◌, ◌<◌, ◌∙◌, Some, length, ap, sym, arith, rules}
use Rattle.std.proofs.lemmas.Grind.{common_steps}
use Rattle.std.specs.List.{slice_index_or}
use Rattle.nm_model.specs.EventList.{is_before}
use Rattle.nm_events.specs.Entries.{pair}
use Rattle.nm_events.proofs.Sorted.{front_least, none_least}
use Rattle.nm_events.proofs.sorted_list.SortedListEventList.is_due.Goals as goal

pub returns-in-None : goal.returns-in-None
returns-in-None c =
    let none : length c.self.inside.entries.items ≡ 0 = grind (arith, common_steps, c.in-None.ensures.item) in
    rw (← c.self.view_is) (ap (is_before c.args.before) (sym (none_least _ none)))

pub returns-in-Some : goal.returns-in-Some
returns-in-Some c =
    let some : 0 < length c.self.inside.entries.items = grind (arith, common_steps, c.in-Some.ensures.item) in
    let is : c.in-Some.entry.now ≡ slice_index_or c.self.inside.entries.items 0 c.in-Some.entry.now = search rules in
    let due : c.lt.result ≡ is_before c.args.before (Some (pair c.in-Some.entry.now)) = search rules in
    rw (← c.self.view_is) (due ∙ ap (is_before c.args.before) (front_least c.in-Some.entry.now _ some is c.self.invariant))
