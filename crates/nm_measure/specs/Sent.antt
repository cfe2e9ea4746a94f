-- How many packets sources have made in a run.
use Rattle.std.specs.Prelude.{◌≡◌, ℕ, zero, suc, ◌+◌, ◌==◌, Bool, false, if◌then◌else◌, List, length, slice_get, slice_index_or, slice_set, Option, None, Some}
use Rattle.nm_base.specs.Count.{saturated}
use Rattle.nm_base.specs.declared.event.Event.{Event}
use Rattle.nm_base.specs.declared.key.Key.{Key}
use Rattle.nm_base.specs.declared.key.Place.{Place}
use Rattle.nm_base.specs.declared.key.Place.TheVariants.{Arrive, Complete, Fire}
use Rattle.nm_model.specs.EventList.{least}
use Rattle.nm_model.specs.Network.{Net}
use Rattle.nm_model.specs.Run.{one_list}
use Rattle.nm_topology.specs.TopologyValue.{TopologyValue}
use Rattle.nm_sim.specs.Network.{net_of}

-- an event at this place is source j's, which makes a packet
abbrev pub is_fire : ℕ → Place → Bool
is_fire j (Arrive i) = false
is_fire j (Complete i) = false
is_fire j (Fire i) = i == j

-- how many packets source j makes in the next event, if there is one
abbrev pub made_by : {P : Type 0} → ℕ → Option (Key × Event P) → ℕ
made_by j None = 0
made_by j (Some e) = if is_fire j e.0.place then 1 else 0

-- how many it makes in the first n events of the one event list
abbrev pub sent_in : {P N : Type 0} → Net P N → ℕ → ℕ → ℕ
sent_in net j zero = 0
sent_in net j (suc n) = sent_in net j n + made_by j (least (one_list net n).pending)

-- of each source, after n events; a number stops at the greatest of 64 bits
pub record AreSent (t : TopologyValue) (n : ℕ) (sent : List ℕ) : Type 0 where
  pub count : length sent ≡ length t.sources
  pub each : (j k : ℕ) → slice_get sent j ≡ Some k → k ≡ saturated (sent_in (net_of t) j n)

-- one packet more of source j
abbrev pub with_sent : ℕ → List ℕ → List ℕ
with_sent j sent = slice_set sent j (saturated (slice_index_or sent j 0 + 1))

-- after an event at this place
abbrev pub sent_later : Place → List ℕ → List ℕ
sent_later (Arrive i) sent = sent
sent_later (Complete i) sent = sent
sent_later (Fire j) sent = with_sent j sent
