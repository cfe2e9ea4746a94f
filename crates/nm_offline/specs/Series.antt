-- The word `series`: what interfaces or sources do over time.
use Rattle.std.specs.Prelude.{◌≡◌, ◌⊎◌, ℕ, ◌*◌, ◌<◌, ◌≤◌, List, length, Ok, codes}
use Rattle.nm_topology.specs.Topology.{topology_of}
use Rattle.nm_topology.specs.TopologyValue.{TopologyValue}
use Rattle.nm_command.specs.declared.status.Status.{Status}
use Rattle.nm_command.specs.declared.status.Status.TheVariants.{Done, Rows, File, Memory}
use Rattle.nm_command.specs.declared.view.Subject.{Subject}
use Rattle.nm_command.specs.declared.view.Subject.TheVariants.{Interfaces, Sources}
use Rattle.nm_series.specs.Flows.{IsFlowStep}
use Rattle.nm_series.specs.Rows.{IsIfaceStep}
use Rattle.nm_series.specs.Steps.{AreAllSteps, AreSteps, steps_in}
use Rattle.nm_series.specs.declared.steps.TheConstants.{MAX_ROWS}
use Rattle.nm_offline.specs.Input.{HasTopology, IsRefused}
use Rattle.nm_offline.specs.Output.{Exchange, FailsOfInput, IsCutOff, IsWritten, OutputSeen}

-- the names of the columns
abbrev pub columns_of : Subject → List ℕ
columns_of Interfaces =
    codes "from_nanoseconds,interface,packets_in,octets_in,packets_out,octets_out,dropped,longest_queue,mean_queue_thousandths,longest_queue_octets,mean_queue_octets,busy_thousandths\n"
columns_of Sources =
    codes "from_nanoseconds,source,sent,delivered,lost,octets,mean_delay_nanoseconds,greatest_delay_nanoseconds,jitter_nanoseconds\n"

-- the text of a step: the rows of interfaces, or whole lines of sources
abbrev pub IsStepOf : Subject → TopologyValue → (from until : ℕ) → List ℕ → Type 0
IsStepOf Interfaces t from until text = IsIfaceStep t from until text
IsStepOf Sources t from until text = IsFlowStep t from until text

-- rows of this kind are the text of a step
abbrev pub TellsOf : (AreRows : TopologyValue → (from until : ℕ) → List ℕ → Type 0) → Subject
    → TopologyValue → Type 0
TellsOf AreRows subject t = (from until : ℕ) (text : List ℕ) → AreRows t from until text
    → IsStepOf subject t from until text

-- the names of the columns, and the first so many steps
abbrev pub TellsSteps : Subject → (step : ℕ) → TopologyValue → ℕ → List ℕ → Type 0
TellsSteps subject step t = AreSteps (IsStepOf subject t) (columns_of subject) step t.stop

-- and all steps up to stop
abbrev pub TellsAll : Subject → (step : ℕ) → TopologyValue → List ℕ → Type 0
TellsAll subject step t = AreAllSteps (IsStepOf subject t) (columns_of subject) step t.stop

-- how many rows a step has
abbrev pub rows_in : Subject → TopologyValue → ℕ
rows_in Interfaces t = length t.ifaces
rows_in Sources t = length t.sources

-- there are at most so many rows as may be written
abbrev pub HasFewRows : Subject → (step : ℕ) → TopologyValue → Type 0
HasFewRows subject step t = steps_in step t.stop * rows_in subject t ≤ MAX_ROWS

-- why there is no series: the text is refused, or there would be so many rows
abbrev pub HasManyRows : Subject → (step : ℕ) → List ℕ → Status → Type 0
HasManyRows subject step text status = IsRefused text status
    ⊎ ((rows : ℕ) × (status ≡ Rows rows) × (MAX_ROWS < rows)
    × ((network : TopologyValue) × (topology_of text ≡ Ok network)
    × (rows ≡ steps_in step network.stop * rows_in subject network)))

-- What the sink took: all; or a part of the first so many steps, if it failed; or nothing, or
-- those, if memory was refused.
module _ {S : Type 0} (old new : OutputSeen S)
    (subject : Subject) (step : ℕ) (t : TopologyValue) where
  abbrev pub WritesSteps : Status → Type 0
  WritesSteps status =
      ((status ≡ Done) × ((octets : List ℕ) × TellsAll subject step t octets
      × IsWritten old new octets))
      ⊎ ((status ≡ File) × ((steps : ℕ) × (octets : List ℕ)
      × TellsSteps subject step t steps octets × IsCutOff old new octets))
      ⊎ ((status ≡ Memory) × ((new ≡ old) ⊎ ((steps : ℕ) × (octets : List ℕ)
      × TellsSteps subject step t steps octets × IsWritten old new octets)))

-- the meaning of each status
module _ {S : Type 0} (before after : Exchange S) where
  abbrev pub EndsSeries : List ℕ → ℕ → Subject → Status → Type 0
  EndsSeries topology step subject status =
      ((network : TopologyValue) × HasTopology before.inputs topology network
      × HasFewRows subject step network
      × WritesSteps before.output after.output subject step network status)
      ⊎ (FailsOfInput before.inputs after.inputs topology (HasManyRows subject step) status
      × (after.output ≡ before.output))
