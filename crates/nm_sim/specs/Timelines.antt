-- What contracts see of a timeline.
use Rattle.std.specs.Prelude.{◌≡◌, ℕ, ◌^◌, ◌<◌, Bool, true, List, length, slice_index, Some, None}
use Rattle.std.specs.FinMap.{FinMap, get}
use Rattle.nm_base.specs.declared.event.Event.{Event}
use Rattle.nm_base.specs.declared.key.Key.{Key}
use Rattle.nm_base.specs.declared.key.Place.{Place}
use Rattle.nm_base.specs.Key.{key_cmp}
use Rattle.nm_model.specs.Lists.{nth}
use Rattle.nm_topology.specs.TopologyValue.{TopologyValue}

-- the event list, and how many packets were put on each interface
pub record TimelineValue (L : Type 0) : Type 0 where
  pub events : L
  pub sent : List ℕ

-- the counts of a timeline are those of what was put on the interfaces
pub record TimelineRepresents {L : Type 0} (t : TopologyValue) (line : TimelineValue L)
    (sent : ℕ → List (ℕ × List ℕ)) : Type 0 where
  pub count : length line.sent ≡ length t.ifaces
  pub numbers : (c : ℕ) → c < length t.ifaces → slice_index line.sent c ≡ length (sent c)

-- none of these events has a key that is pending
abbrev pub AreFresh : FinMap key_cmp (Event (List ℕ)) → List (Key × Event (List ℕ)) → Type 0
AreFresh pending events =
    (m : ℕ) (f : Key × Event (List ℕ)) → nth events m ≡ Some f → get pending f.0 ≡ None

abbrev pub everywhere : Place → Bool
everywhere q = true

-- so few that a number of 64 bits counts them
abbrev pub IsFew : (ℕ → List (ℕ × List ℕ)) → Type 0
IsFew sent = (c : ℕ) → length (sent c) < 2 ^ 63
