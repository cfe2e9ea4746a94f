-- The word `script`: the steps of a script.
use Rattle.std.specs.Prelude.{◌≡◌, ◌⊎◌, ℕ, List, Ok}
use Rattle.nm_topology.specs.Topology.{topology_of}
use Rattle.nm_topology.specs.TopologyValue.{TopologyValue}
use Rattle.nm_book.specs.Book.{BookValue}
use Rattle.nm_rounds.specs.Headline.{Headline}
use Rattle.nm_rounds.specs.Replay.{IsReplay}
use Rattle.nm_rounds.specs.declared.replay.ReplayEnd.{ReplayEnd}
use Rattle.nm_rounds.specs.declared.replay.ReplayEnd.TheVariants.{Ended, NoSuch}
use Rattle.nm_rounds.specs.declared.step.StepAnswer.{StepAnswer}
use Rattle.nm_rounds.specs.declared.step.WorldStep.{WorldStep}
use Rattle.nm_script.specs.Printed.{report_text}
use Rattle.nm_script.specs.Script.{IsFirstFault, IsScript}
use Rattle.nm_command.specs.declared.status.Status.{Status}
use Rattle.nm_command.specs.declared.status.Status.TheVariants.{Done, ScriptLine, Step}
use Rattle.nm_offline.specs.Input.{IsRefused}
use Rattle.nm_offline.specs.Output.{EndsWord, Exchange, FailsOfInputs, SaysOfInputs}

-- The topology is read, and the steps of the script end so, with these answers and these books, as
-- the model's world has them.
pub record Replays (text script : List ℕ) (network : TopologyValue) (answers : List StepAnswer)
    (books : List BookValue) (ending : ReplayEnd) : Type 0 where
  pub read : topology_of text ≡ Ok network
  pub steps : List WorldStep
  pub means : IsScript script steps
  pub replay : IsReplay network steps answers books ending

-- The text has the answers to all steps of the script, and the books that they left. So the
-- headline holds of them.
pub record SaysReport (text script octets : List ℕ) : Type 0 where
  pub network : TopologyValue
  pub answers : List StepAnswer
  pub books : List BookValue
  pub replays : Replays text script network answers books Ended
  pub headline : Headline network answers books
  pub said : octets ≡ report_text answers books

-- this step of the script, counted from 0, names nothing
pub record StopsAt (text script : List ℕ) (step : ℕ) : Type 0 where
  pub network : TopologyValue
  pub answers : List StepAnswer
  pub books : List BookValue
  pub replays : Replays text script network answers books (NoSuch step)

-- the topology is read, and this line of the script, counted from 1, is its first bad one
pub record HasBadLine (text script : List ℕ) (line : ℕ) : Type 0 where
  pub network : TopologyValue
  pub read : topology_of text ≡ Ok network
  pub bad : IsFirstFault script line

-- it is printed once the steps are done
abbrev pub SaysScript : List ℕ → List ℕ → Status → List ℕ → Type 0
SaysScript text script status octets = (status ≡ Done) × SaysReport text script octets

-- why nothing is printed: the topology is refused, or a line or a step of the script is at fault
abbrev pub FailsScript : List ℕ → List ℕ → Status → Type 0
FailsScript text script status = IsRefused text status
    ⊎ ((line : ℕ) × (status ≡ ScriptLine line) × HasBadLine text script line)
    ⊎ ((step : ℕ) × (status ≡ Step step) × StopsAt text script step)

-- the meaning of each status
module _ {S : Type 0} (before after : Exchange S) where
  abbrev pub EndsScript : List ℕ → List ℕ → Status → Type 0
  EndsScript topology steps status =
      EndsWord before after (SaysOfInputs before.inputs topology steps SaysScript)
      (FailsOfInputs before.inputs after.inputs topology steps FailsScript) status
