-- What a replay of a list of steps reports.
use Rattle.std.specs.Prelude.{◌≡◌, ℕ, ◌<◌, List, [], ◌∷◌, ◌++◌, length, map, take, slice_get, Option, Some, None, Result, Ok, Err}
use Rattle.nm_topology.specs.Topology.{topology_of}
use Rattle.nm_topology.specs.TopologyValue.{TopologyValue}
use Rattle.std.specs.Arc.{arc_value}
use Rattle.std.specs.declared.sync.Arc.{Arc}
use Rattle.std.specs.declared.alloc.Global.{Global}
use Rattle.nm_topology.specs.declared.fault.Refusal.{Refusal}
use Rattle.nm_base.specs.declared.fault.Fault.{Fault}
use Rattle.nm_base.specs.declared.fault.Fault.TheVariants.{Refused, Memory as NoMemory}
use Rattle.nm_knowledge.specs.Octets.{same_octets}
use Rattle.nm_model.specs.World as model
use Rattle.nm_sim.specs.Network.{net_of}
use Rattle.nm_book.specs.Book.{BookValue}
use Rattle.nm_rounds.specs.World.{AreReplicas, happens, outcome_of, step_of}
use Rattle.nm_rounds.specs.declared.step.StepAnswer.{StepAnswer}
use Rattle.nm_rounds.specs.declared.step.WorldStep.{WorldStep}
use Rattle.nm_rounds.specs.declared.step.WorldStep.TheVariants as step
use Rattle.nm_rounds.specs.declared.replay.WorldReport.{WorldReport}
use Rattle.nm_rounds.specs.declared.replay.ReplayEnd.{ReplayEnd}
use Rattle.nm_rounds.specs.declared.replay.ReplayEnd.TheVariants.{Ended, NoSuch, Memory}

-- the model's steps of the first n steps
abbrev pub first_steps : TopologyValue → List WorldStep → ℕ → List model.Step
first_steps t steps n = map (step_of t) (take n steps)

-- the world after these steps, and what they answer
abbrev pub world_after : TopologyValue → List model.Step → model.World (List ℕ)
world_after t did = model.world (net_of t) same_octets did model.opening

abbrev pub answers_of : TopologyValue → List model.Step → List model.Outcome
answers_of t did = model.answers (net_of t) same_octets did model.opening

-- Memory was refused at a step, before which these were done: nothing more was, but of a run so
-- many whole events.
abbrev pub IsInterrupted : Option WorldStep → List model.Step → List model.Step → Type 0
IsInterrupted None before did = ⊥
IsInterrupted (Some (step.Run p r limit)) before did =
    (n : ℕ) × (n < limit) × (did ≡ before ++ model.Run p r n ∷ [])
IsInterrupted (Some (step.Data p r c n)) before did = did ≡ before
IsInterrupted (Some (step.Resend p r c n)) before did = did ≡ before
IsInterrupted (Some (step.Null p r c)) before did = did ≡ before
IsInterrupted (Some (step.OldNull p r c)) before did = did ≡ before
IsInterrupted (Some (step.Deliver i r)) before did = did ≡ before
IsInterrupted (Some (step.Merge p r)) before did = did ≡ before
IsInterrupted (Some (step.Restart p r)) before did = did ≡ before

-- the step names what is not there
abbrev pub NamesNothing : TopologyValue → model.World (List ℕ) → Option WorldStep → Type 0
NamesNothing t w None = ⊥
NamesNothing t w (Some s) = (happens t w s).1 ≡ model.NoSuch

-- which steps were done by the ending, of which so many were answered
abbrev pub Ends : TopologyValue → List WorldStep → ℕ → ReplayEnd → List model.Step → Type 0
Ends t steps answered Ended did = (answered ≡ length steps) × (did ≡ first_steps t steps answered)
Ends t steps answered (NoSuch k) did =
    (answered ≡ k) × (did ≡ first_steps t steps k)
    × NamesNothing t (world_after t did) (slice_get steps k)
Ends t steps answered (Memory k) did =
    (answered ≡ k) × IsInterrupted (slice_get steps k) (first_steps t steps k) did

-- The steps that were done are answered, and the books left, as the model says of these steps.
pub record IsReplay (t : TopologyValue) (steps : List WorldStep) (answers : List StepAnswer)
    (books : List BookValue) (ending : ReplayEnd) : Type 0 where
  pub did : List model.Step
  pub ends : Ends t steps (length answers) ending did
  pub answered : map (outcome_of t) answers
      ≡ map Some (answers_of t (first_steps t steps (length answers)))
  pub replicas : AreReplicas t books (world_after t did)

-- a text is read to a topology, or refused; or memory was
abbrev pub Reads : List ℕ → Result (Arc TopologyValue Global) (Fault Refusal) → Type 0
Reads text (Ok shared) = topology_of text ≡ Ok (arc_value shared)
Reads text (Err (Refused r)) = topology_of text ≡ Err r
Reads text (Err NoMemory) = Unit {0}

-- A text is read to the report's topology, of which it is a replay; or the text is refused; or
-- memory was refused before the first step.
abbrev pub Reports : List ℕ → List WorldStep → Result WorldReport (Fault Refusal) → Type 0
Reports text steps (Ok report) =
    (topology_of text ≡ Ok (arc_value report.topology))
    × IsReplay (arc_value report.topology) steps report.answers.items report.books.items
    report.ending
Reports text steps (Err (Refused r)) = topology_of text ≡ Err r
Reports text steps (Err NoMemory) = Unit {0}
