use Rattle.std.proofs.Common.{◌≡◌, ◌∙◌, None, true, ap, rules}
use Rattle.std.specs.FinMap.{from_entries, get, insert, is_sorted}
use Rattle.std.specs.List.{insert as insert_at}
use Rattle.nm_base.specs.Event.{event_place}
use Rattle.nm_base.specs.Key.{key_cmp, key_of}
use Rattle.nm_events.specs.Entries.{entry_key, pairs}
use Rattle.nm_events.proofs.Sorted.{put_in}
use Rattle.nm_events.proofs.sorted_list.SortedListEventList.put.Goals as goal

joined : (c : goal.After-unwrap) → (is_sorted key_cmp (pairs c.insert.new.self.items) ≡ true)
    × (from_entries {R = key_cmp} (pairs c.insert.new.self.items) ≡ insert (from_entries (pairs c.self.inside.entries.items)) (key_of c.args.time (event_place c.args.event) c.args.number) c.args.event)
joined c =
    let entry = c.new-entry.result in
    let key : entry_key entry ≡ key_of c.args.time (event_place c.args.event) c.args.number =
    λ k. key_of (c.new-entry.ensures.time k) (event_place (c.new-entry.ensures.event k)) (c.new-entry.ensures.number k) in
    let fresh : get (from_entries (pairs c.self.inside.entries.items)) (key_of c.args.time (event_place c.args.event) c.args.number) ≡ None = rw (← c.self.view_is) at c.requires.fresh in
    let items : c.insert.new.self.items ≡ insert_at c.self.inside.entries.items c.place_of-place.result entry = search rules in
    let at = put_in entry c.self.inside.entries.items c.insert.new.self.items c.place_of-place.result items c.self.invariant (ap (get (from_entries (pairs c.self.inside.entries.items))) key ∙ fresh)
    (rw (← c.self.view_is) at c.place_of-place.ensures.bound) (rw (← c.self.view_is, c.key.ensures) at c.place_of-place.ensures.parted) in (
      at.0,
      at.1 ∙ (λ k. insert (from_entries (pairs c.self.inside.entries.items)) (key k) (c.new-entry.ensures.event k)),
    )

pub invariant_of-self : goal.invariant_of-self
invariant_of-self c = (joined c).0

pub returns-clause-pending : goal.returns-clause-pending
returns-clause-pending c = rw (← c.self.view_is) (joined c).1
