use Rattle.std.proofs.Common.{◌≡◌, ◌==◌, ◌∙◌, length, ap, sym, rules}
use Rattle.nm_events.proofs.Sorted.{count}
use Rattle.nm_events.proofs.sorted_list.SortedListEventList.is_empty.Goals as goal

pub returns : goal.returns
returns c =
    let n : c.is_empty.result ≡ (length c.self.inside.entries.items == 0) = search rules in
    rw (← c.self.view_is) (n ∙ ap (λ m. m == 0) (sym (count _ c.self.invariant)))
