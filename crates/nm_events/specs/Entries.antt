-- The entries of an event list, and their keys.
use Rattle.std.specs.Prelude.{ℕ, List, map}
use Rattle.std.specs.declared.cmp.Ordering.{Ordering}
use Rattle.std.specs.declared.cmp.Reverse.{Reverse}
use Rattle.std.specs.Cmp.{IsTotalOrder, on_total}
use Rattle.std.specs.List.{IsDistinct}
use Rattle.std.specs.Ordering.{eq_by_cmp, on}
use Rattle.nm_base.specs.declared.event.Event.{Event}
use Rattle.nm_base.specs.declared.key.Key.{Key}
use Rattle.nm_base.specs.Event.{event_place}
use Rattle.nm_base.specs.Key.{key_cmp, key_cmp_total, key_of}
use Rattle.nm_events.specs.declared.entry.Entry.{Entry}

-- the key of an entry, with the place of the event
abbrev pub entry_key : Entry → Key
entry_key e = key_of e.time (event_place e.event) e.number

-- entries in the order of their keys
abbrev pub by_key : Entry → Entry → Ordering
by_key = on entry_key key_cmp

pub by_key_total : IsTotalOrder by_key
by_key_total = on_total entry_key key_cmp_total

-- in a heap the entry of the lesser key is the greater
abbrev pub heap_cmp : Reverse Entry → Reverse Entry → Ordering
heap_cmp a b = by_key b.0 a.0

abbrev pub pair : Entry → Key × Event (List ℕ)
pair e = (entry_key e, e.event)

abbrev pub pairs : List Entry → List (Key × Event (List ℕ))
pairs es = map pair es

abbrev pub heap_pairs : List (Reverse Entry) → List (Key × Event (List ℕ))
heap_pairs es = map (λ e. pair e.0) es

-- no two have one key
abbrev pub AreDistinct : List (Key × Event (List ℕ)) → Type 0
AreDistinct es = IsDistinct (eq_by_cmp key_cmp) (map (λ e. e.0) es)
