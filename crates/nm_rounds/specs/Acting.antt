-- What a step does, and the null messages that make one promise or the other.
use Rattle.std.specs.Prelude.{ℕ, List, Result}
use Rattle.nm_topology.specs.TopologyValue.{TopologyValue}
use Rattle.nm_model.specs.Promise.{Promising, Plain, Tight}
use Rattle.nm_model.specs.World as model
use Rattle.nm_book.specs.Book.{BookValue}
use Rattle.nm_book.specs.declared.message.ChannelMessage.{ChannelMessage}
use Rattle.nm_rounds.specs.World.{IsWorld, Steps}
use Rattle.nm_rounds.specs.declared.acting.Promise.{Promise}
use Rattle.nm_rounds.specs.declared.acting.Promise.TheVariants as made
use Rattle.nm_rounds.specs.declared.step.StepAnswer.{StepAnswer}
use Rattle.nm_rounds.specs.declared.step.WorldStep.{WorldStep}
use Rattle.nm_rounds.specs.declared.step.WorldStep.TheVariants.{Null, OldNull}
use Rattle.nm_rounds.specs.declared.world.Stop.{Stop}

-- the books and messages are those of some world
abbrev pub HaveWorld : TopologyValue → List BookValue → List ChannelMessage → Type 0
HaveWorld t books bag = (w : model.World (List ℕ)) × IsWorld t books bag w

-- over each world of these books and messages the step answers so, and leaves those
abbrev pub DoesStep : TopologyValue → List BookValue × List ChannelMessage → WorldStep
    → Result StepAnswer Stop → List BookValue × List ChannelMessage → Type 0
DoesStep t old s result new =
    (w : model.World (List ℕ)) → IsWorld t old.0 old.1 w → Steps t w s result new.0 new.1

-- the promise in the model's words, and the step that sends such a message
abbrev pub kind_of : Promise → Promising
kind_of made.Tight = Tight
kind_of made.Plain = Plain

abbrev pub null_step : Promise → ℕ → ℕ → ℕ → WorldStep
null_step made.Tight p r c = Null p r c
null_step made.Plain p r c = OldNull p r c
