use Rattle.std.proofs.Common.{◌≡◌, ◌∷◌, ◌∙◌, None, ap, rules}
use Rattle.std.specs.BinaryHeap.{heap_items, IsHeap}
use Rattle.std.specs.FinMap.{from_entries, get, insert}
use Rattle.std.specs.List.Sorted.{IsPermutation}
use Rattle.nm_base.specs.Event.{event_place}
use Rattle.nm_base.specs.Key.{key_cmp, key_of}
use Rattle.nm_events.specs.Entries.{AreDistinct, entry_key, heap_cmp, heap_pairs}
use Rattle.nm_events.proofs.Heaped.{pushed}
use Rattle.nm_events.proofs.heap_list.HeapListEventList.put.Goals as goal

joined : (c : goal.After-unwrap) → AreDistinct (heap_pairs (heap_items c.push.new.self))
    × (from_entries {R = key_cmp} (heap_pairs (heap_items c.push.new.self))
    ≡ insert (from_entries (heap_pairs (heap_items c.self.inside.heap))) (key_of c.args.time (event_place c.args.event) c.args.number) c.args.event)
joined c =
    let fresh : get (from_entries (heap_pairs (heap_items c.self.inside.heap))) (key_of c.args.time (event_place c.args.event) c.args.number) ≡ None = rw (← c.self.view_is) at c.requires.fresh in
    let all : IsPermutation (record { 0 = c.new-entry.result } ∷ heap_items c.self.inside.heap) (heap_items c.push.new.self) = search rules in
    let key : entry_key c.new-entry.result ≡ key_of c.args.time (event_place c.args.event) c.args.number =
    λ k. key_of (c.new-entry.ensures.time k) (event_place (c.new-entry.ensures.event k)) (c.new-entry.ensures.number k) in
    let at = pushed _ _ _ all (ap (get (from_entries (heap_pairs (heap_items c.self.inside.heap)))) key ∙ fresh) c.self.invariant.1 in (
      at.0,
      at.1 ∙ (λ k. insert (from_entries (heap_pairs (heap_items c.self.inside.heap))) (key k) (c.new-entry.ensures.event k)),
    )

pub invariant_of-self : goal.invariant_of-self
invariant_of-self c =
    let heap : IsHeap heap_cmp (heap_items c.self.inside.heap) → IsHeap heap_cmp (heap_items c.push.new.self) = search rules in
    (heap c.self.invariant.0, (joined c).0)

pub returns-clause-pending : goal.returns-clause-pending
returns-clause-pending c = rw (← c.self.view_is) (joined c).1
