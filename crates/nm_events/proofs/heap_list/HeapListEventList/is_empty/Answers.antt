use Rattle.std.proofs.Common.{◌≡◌, ◌==◌, ◌∙◌, length, ap, sym, rules}
use Rattle.std.specs.BinaryHeap.{heap_items}
use Rattle.nm_events.proofs.Heaped.{count}
use Rattle.nm_events.proofs.heap_list.HeapListEventList.is_empty.Goals as goal

pub returns : goal.returns
returns c =
    let n : c.is_empty.result ≡ (length (heap_items c.self.inside.heap) == 0) = search rules in
    rw (← c.self.view_is) (n ∙ ap (λ m. m == 0) (sym (count _ c.self.invariant.1)))
