use Rattle.std.proofs.Common.{◌≡◌, ◌∙◌, length, sym, rules}
use Rattle.std.specs.BinaryHeap.{heap_items}
use Rattle.nm_events.proofs.Heaped.{count}
use Rattle.nm_events.proofs.heap_list.HeapListEventList.len.Goals as goal

pub returns : goal.returns
returns c =
    let n : c.len.result ≡ length (heap_items c.self.inside.heap) = search rules in
    rw (← c.self.view_is) (n ∙ sym (count _ c.self.invariant.1))
