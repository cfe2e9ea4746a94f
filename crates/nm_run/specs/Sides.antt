-- What replicas that have run hold.
use Rattle.std.specs.Prelude.{◌≡◌, ◌⊎◌, Bool, ℕ, if◌then◌else◌, Option}
use Rattle.nm_base.specs.Sink.{SinkSeen}
use Rattle.nm_files.specs.Files.{AreCounted}
use Rattle.nm_files.specs.Outputs.{Files}
use Rattle.nm_replica.specs.declared.served.Served.TheVariants.{Ended}
use Rattle.nm_run.specs.declared.sides.SideEnd.{SideEnd}
use Rattle.nm_run.specs.declared.sides.TheConstants.{EVENTS_ALONE, OWN_EVENTS}
use Rattle.nm_run.specs.declared.stop.Stop.{Stop}
use Rattle.nm_run.specs.declared.stop.Stop.TheVariants as stop

-- the trace files of one that was done are counted
abbrev pub StillCounts : {S : Type 0} → (S → SinkSeen) → Option Files → SideEnd S → Type 0
StillCounts seen made end =
    end.served ≡ Ended → AreCounted seen made end.files.files.items

-- how many events a replica does itself after a poll
abbrev pub own_events : (has_pool : Bool) → ℕ
own_events has_pool = if has_pool then OWN_EVENTS else EVENTS_ALONE

-- why threads of a run were not begun, or not all of their answers kept
abbrev pub IsStartFault : Stop → Type 0
IsStartFault s = (s ≡ stop.Net) ⊎ (s ≡ stop.Memory)
