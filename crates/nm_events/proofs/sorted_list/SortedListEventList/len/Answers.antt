use Rattle.std.proofs.Common.{◌≡◌, ◌∙◌, length, sym, rules}
use Rattle.nm_events.proofs.Sorted.{count}
use Rattle.nm_events.proofs.sorted_list.SortedListEventList.len.Goals as goal

pub returns : goal.returns
returns c =
    let n : c.len.result ≡ length c.self.inside.entries.items = search rules in
    rw (← c.self.view_is) (n ∙ sym (count _ c.self.invariant))
