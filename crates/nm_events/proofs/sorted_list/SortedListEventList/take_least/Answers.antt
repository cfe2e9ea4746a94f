use Rattle.std.proofs.Common.{◌≡◌, ◌∷◌, ◌∙◌, Some, true, length, ap, sym, arith, rules}
use Rattle.std.proofs.lemmas.Grind.{common_steps}
use Rattle.std.specs.FinMap.{from_entries, is_sorted, remove}
use Rattle.std.specs.Option.{option_map}
use Rattle.nm_base.specs.Key.{key_cmp}
use Rattle.nm_model.specs.EventList.{least}
use Rattle.nm_model.specs.Run.{keyed}
use Rattle.nm_events.specs.Entries.{entry_key, pair, pairs}
use Rattle.nm_events.proofs.Sorted.{none_least, rest_left}
use Rattle.nm_events.proofs.sorted_list.SortedListEventList.take_least.Goals as goal

pub returns-in_err-entry-clause-least : goal.returns-in_err-entry-clause-least
returns-in_err-entry-clause-least c =
    let none : length c.self.inside.entries.items ≡ 0 = grind (arith, common_steps, c.in_err-entry.ensures.variant) in
    rw (← c.self.view_is) (ap (option_map (λ e. keyed e.0 e.1 e.2)) c.from_residual.ensures ∙ sym (none_least _ none))

taken : (c : goal.After-entry-2-1) → (is_sorted key_cmp (pairs c.pop_front.new.self.items) ≡ true) × (Some (pair c.in_ok-entry.entry) ≡ least (from_entries (pairs c.self.inside.entries.items)))
    × (from_entries {R = key_cmp} (pairs c.pop_front.new.self.items) ≡ remove (from_entries (pairs c.self.inside.entries.items)) (entry_key c.in_ok-entry.entry))
taken c =
    let is : c.self.inside.entries.items ≡ c.in_ok-entry.entry ∷ c.pop_front.new.self.items = search rules in
    rest_left c.in_ok-entry.entry _ _ is c.self.invariant

pub invariant_of-self-2 : goal.invariant_of-self-2
invariant_of-self-2 c = (taken c).0

pub returns-clause-least : goal.returns-clause-least
returns-clause-least c = rw (← c.self.view_is) (taken c).1

pub returns-clause-rest : goal.returns-clause-rest
returns-clause-rest c = rw (← c.self.view_is) (taken c).2
