-- A run of a whole network that shows its trace event by event.
use Rattle.std.specs.Prelude.{◌≡◌, ℕ, ◌+◌, ◌<◌, Bool, true, false, List, [], drop, length, take, None, Result, Ok, Err}
use Rattle.std.specs.FinMap.{FinMap}
use Rattle.std.specs.declared.alloc.AllocError.{AllocError}
use Rattle.nm_base.specs.declared.event.Event.{Event}
use Rattle.nm_base.specs.declared.record.Record.{Record}
use Rattle.nm_base.specs.Key.{key_cmp}
use Rattle.nm_topology.specs.TopologyValue.{TopologyValue}
use Rattle.nm_model.specs.Run.{one_list, pends_before}
use Rattle.nm_sim.specs.Network.{net_of}
use Rattle.nm_sim.specs.Part.{PartValue, Represents}
use Rattle.nm_sim.specs.Records.{RecordsValue}

-- the part is the whole network after some events of its one event list, all of them before stop
pub record IsTracing {L : Type 0} (pending : L → FinMap key_cmp (Event (List ℕ)))
    (t : TopologyValue) (p : PartValue L) : Type 0 where
  pub events : ℕ
  pub early : (m : ℕ) → m < events → pends_before t.stop (one_list (net_of t) m) ≡ true
  pub represents : Represents pending t None p (one_list (net_of t) events)

-- what is shown of this trace, after the first records were dropped: those that come next; at the
-- end and if memory was refused nothing, and at the end all were dropped
abbrev pub ShowsAt : List (Record (List ℕ)) → Result Bool AllocError → RecordsValue → Type 0
ShowsAt trace (Ok true) now =
    now.kept ≡ take (length now.kept) (drop now.keeping.handed trace)
ShowsAt trace (Ok false) now = (now.kept ≡ []) × (now.keeping.handed ≡ length trace)
ShowsAt trace (Err e) now = now.kept ≡ []

-- a run goes on: what it showed of this trace is dropped, and it shows what comes next
abbrev pub ShowsNext : List (Record (List ℕ)) → RecordsValue → Result Bool AllocError → RecordsValue
    → Type 0
ShowsNext trace before outcome after =
    (after.keeping ≡ record before.keeping {
      handed = before.keeping.handed + length before.kept;
    }) × ShowsAt trace outcome after
