-- What contracts see of an event list.
use Rattle.std.specs.Prelude.{ℕ, List}
use Rattle.std.specs.FinMap.{FinMap, from_entries}
use Rattle.nm_base.specs.declared.event.Event.{Event}
use Rattle.nm_base.specs.declared.key.Key.{Key}
use Rattle.nm_base.specs.Key.{key_cmp}

-- the events that are still to come by their keys, and for how many more there is room
pub record Held : Type 0 where
  pub entries : List (Key × Event (List ℕ))
  pub room : ℕ

abbrev pub pending_of : Held → FinMap key_cmp (Event (List ℕ))
pending_of h = from_entries h.entries
