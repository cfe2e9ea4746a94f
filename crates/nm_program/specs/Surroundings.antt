-- What the program has to do with.
use Rattle.std.specs.Prelude.{Option}
use Rattle.nm_base.specs.Sink.{SinkSeen}
use Rattle.nm_files.specs.Outputs.{Files}
use Rattle.nm_offline.specs.Input.{CountedInputs, InputTexts}
use Rattle.nm_offline.specs.Output.{Exchange, FilesSeen, exchange}

-- before it or after it: the inputs and the output, and the files that were placed so far, if it is
-- known
pub record Surroundings (S : Type 0) : Type 0 where
  pub exchange : Exchange S
  pub made : Option Files

abbrev pub surroundings : {I S F : Type 0} → (texts : I → InputTexts)
    → (seen : S → SinkSeen) → (made : F → Option Files)
    → CountedInputs I → S → F → Surroundings S
surroundings texts seen made inputs sink outputs =
    record { exchange = exchange texts seen inputs sink; made = made outputs }

-- the same without the output
abbrev pub files_of : {S : Type 0} → Surroundings S → FilesSeen
files_of s = record { inputs = s.exchange.inputs; made = s.made }
