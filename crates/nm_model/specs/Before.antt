-- The network before a time, its traces and histories, and what a partition can know and do.
use Rattle.std.specs.Prelude.{◌≡◌, ℕ, zero, suc, ◌<◌, Bool, true, false, if◌then◌else◌, ◌==◌, List, [], Option, Some, None}
use Rattle.nm_base.specs.declared.key.Place.{Place}
use Rattle.nm_base.specs.declared.key.Place.TheVariants.{Arrive, Complete, Fire}
use Rattle.nm_base.specs.declared.key.Key.{Key}
use Rattle.nm_base.specs.declared.event.Event.{Event}
use Rattle.nm_base.specs.declared.record.Record.{Record}
use Rattle.nm_model.specs.Lists.{keep_where}
use Rattle.nm_model.specs.EventList.{least}
use Rattle.nm_model.specs.Network.{Net}
use Rattle.nm_model.specs.Run.{State, run, start, one_list, pends_before}
use Rattle.nm_model.specs.Knowledge.{Knowledge, IsValid}
use Rattle.nm_model.specs.Partition.{in_part, comes_in, is_own_record}
use Rattle.nm_model.specs.Replica.{inbox_events, safe_time}

-- from state s, n events leave nothing before t pending, and fewer leave something
pub record Drains {P N : Type 0} (net : Net P N) (here : Place → Bool) (s : State P N)
    (t n : ℕ) : Type 0 where
  pub over : pends_before t (run net here n s) ≡ false
  pub first : (m : ℕ) → m < n → pends_before t (run net here m s) ≡ true

abbrev pub is_at : {P : Type 0} → (Place → Bool) → Option (Key × Event P) → Bool
is_at here None = false
is_at here (Some e) = here e.0.place

abbrev pub same_place : Place → Place → Bool
same_place (Arrive i) (Arrive j) = i == j
same_place (Arrive i) (Complete j) = false
same_place (Arrive i) (Fire j) = false
same_place (Complete i) (Arrive j) = false
same_place (Complete i) (Complete j) = i == j
same_place (Complete i) (Fire j) = false
same_place (Fire i) (Arrive j) = false
same_place (Fire i) (Complete j) = false
same_place (Fire i) (Fire j) = i == j

module _ {P N : Type 0} (net : Net P N) where
  -- the whole network before t is one_list after n events
  abbrev pub IsBefore : ℕ → ℕ → Type 0
  IsBefore t n = Drains net (λ q. true) (start net (λ q. true) []) t n

  -- the history of a channel: all that is put on it before stop, which the network reaches
  -- after last events
  abbrev pub history : ℕ → ℕ → List (ℕ × P)
  history last c = (one_list net last).sent c

  -- how many of the network's first n events are here
  abbrev pub events_at : (Place → Bool) → ℕ → ℕ
  events_at here zero = 0
  events_at here (suc n) =
      if is_at here (least (one_list net n).pending)
      then suc (events_at here n)
      else events_at here n

  module _ (p : ℕ) where
    -- K is valid for the histories of the partition's channels
    abbrev pub IsKnowledge : Knowledge P → Type 0
    IsKnowledge K = (last : ℕ) → IsBefore net.stop last → (c : ℕ) → comes_in net p c ≡ true
        → IsValid (K c) (history last c)

    -- over K, k events of the partition are before its safe time
    abbrev pub IsCount : Knowledge P → ℕ → Type 0
    IsCount K k = Drains net (in_part net p) (start net (in_part net p) (inbox_events net p K))
        (safe_time net p K) k

    -- the trace of the partition: the records at its interfaces among the network's first n events
    abbrev pub trace : ℕ → List (Record P)
    trace n = keep_where (is_own_record net p) (one_list net n).records
