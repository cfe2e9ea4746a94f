-- How the run ends, given how its replicas ended.
use Rattle.std.specs.Prelude.{◌≡◌, ◌≢◌, ◌⊎◌, ℕ, ◌<◌, All, List, slice_get, Option, Some, None, Result, Ok, Err}
use Rattle.nm_replica.specs.declared.served.Served.{Served}
use Rattle.nm_replica.specs.declared.served.Served.TheVariants as served
use Rattle.nm_run.specs.declared.stop.Stop.{Stop}
use Rattle.nm_run.specs.declared.stop.Stop.TheVariants as stop

-- why a run stops if a replica ended so, or nothing if it need not
abbrev pub fault_of : Served → Option Stop
fault_of served.Ended = None
fault_of served.Net = Some stop.Net
fault_of served.Memory = Some stop.Memory
fault_of (served.File iface written) = Some (stop.File iface written)
fault_of (served.Stalled polls) = Some (stop.Stalled polls)

-- a replica that was done, or that ended with `Net`, as after another told it to end
abbrev pub GivesNoReason : Served → Type 0
GivesNoReason s = (fault_of s ≡ None) ⊎ (fault_of s ≡ Some stop.Net)

-- the first replica that gives a reason, and why the run stops then
pub record IsFirstReason (ends : List Served) (why : Stop) : Type 0 where
  pub number : ℕ
  pub ended : Served
  pub place : slice_get ends number ≡ Some ended
  pub reason : fault_of ended ≡ Some why
  pub is_own : why ≢ stop.Net
  pub before : (i : ℕ) (s : Served) → i < number → slice_get ends i ≡ Some s → GivesNoReason s

-- no replica gives a reason, and one was not done
pub record IsWithoutReason (ends : List Served) : Type 0 where
  pub number : ℕ
  pub ended : Served
  pub place : slice_get ends number ≡ Some ended
  pub failed : fault_of ended ≡ Some stop.Net
  pub all : All GivesNoReason ends

-- all replicas were done; or why the run stops: for the first reason that one gives, or else `Net`
abbrev pub AreEndings : List Served → Result Unit Stop → Type 0
AreEndings ends (Ok u) = All (λ s. s ≡ served.Ended) ends
AreEndings ends (Err why) = IsFirstReason ends why ⊎ ((why ≡ stop.Net) × IsWithoutReason ends)
