-- The output of a word, and how the program ends with it.
use Rattle.std.specs.Prelude.{◌≡◌, ◌⊎◌, ℕ, List, Option}
use Rattle.nm_base.specs.Sink.{SinkSeen, WroteAll, WrotePrefix}
use Rattle.nm_command.specs.declared.status.Status.{Status}
use Rattle.nm_command.specs.declared.status.Status.TheVariants.{File}
use Rattle.nm_files.specs.Outputs.{Files}
use Rattle.nm_files.specs.Writing.{WrotePart}
use Rattle.nm_offline.specs.Input.{CountedInputs, InputTexts, InputsSeen, IsInput, IsUnread, inputs_seen}

-- the sink for the output of a word, and what is seen of it
pub record OutputSeen (S : Type 0) : Type 0 where
  pub sink : S
  pub seen : SinkSeen

abbrev pub output_seen : {S : Type 0} → (seen : S → SinkSeen) → S → OutputSeen S
output_seen seen sink = record { sink = sink; seen = seen sink }

-- what a word has to do with, before it or after it
pub record Exchange (S : Type 0) : Type 0 where
  pub inputs : InputsSeen
  pub output : OutputSeen S

abbrev pub exchange : {I S : Type 0} → (texts : I → InputTexts) → (seen : S → SinkSeen)
    → CountedInputs I → S → Exchange S
exchange texts seen inputs sink =
    record { inputs = inputs_seen texts inputs; output = output_seen seen sink }

-- what a word that makes files has to do with, before it or after it: the inputs, and the files
-- that were placed so far, if they are known
pub record FilesSeen : Type 0 where
  pub inputs : InputsSeen
  pub made : Option Files

abbrev pub files_seen : {I F : Type 0} → (texts : I → InputTexts) → (made : F → Option Files)
    → CountedInputs I → F → FilesSeen
files_seen texts made inputs outputs =
    record { inputs = inputs_seen texts inputs; made = made outputs }

-- these octets are printed with this status, for the text of the input of a name
abbrev pub SaysOfInput : InputsSeen → (name : List ℕ) → (List ℕ → Status → List ℕ → Type 0)
    → Status → List ℕ → Type 0
SaysOfInput inputs name Says status octets =
    (text : List ℕ) × IsInput (inputs.text name) text × Says text status octets

-- why there is no output for an input: it was not read, or its text is at fault
abbrev pub FailsOfInput : (before after : InputsSeen) (name : List ℕ)
    → (List ℕ → Status → Type 0) → Status → Type 0
FailsOfInput before after name Fails status =
    IsUnread before after name status
    ⊎ ((text : List ℕ) × IsInput (before.text name) text × Fails text status)

-- The same of two inputs. Both are read before anything else is looked at; if the first is not
-- read, the second is not opened.
abbrev pub SaysOfInputs : InputsSeen → (one two : List ℕ)
    → (List ℕ → List ℕ → Status → List ℕ → Type 0) → Status → List ℕ → Type 0
SaysOfInputs inputs one two Says status octets = (first : List ℕ) × (second : List ℕ)
    × (IsInput (inputs.text one) first × IsInput (inputs.text two) second)
    × Says first second status octets

abbrev pub FailsOfInputs : (before after : InputsSeen) (one two : List ℕ)
    → (List ℕ → List ℕ → Status → Type 0) → Status → Type 0
FailsOfInputs before after one two Fails status =
    IsUnread before after one status ⊎ IsUnread before after two status
    ⊎ ((first : List ℕ) × (second : List ℕ)
    × (IsInput (before.text one) first × IsInput (before.text two) second)
    × Fails first second status)

module _ {S : Type 0} (old new : OutputSeen S) where
  -- all the octets were written
  abbrev pub IsWritten : List ℕ → Type 0
  IsWritten octets = WroteAll old.seen new.seen octets

  -- the sink failed after it took a part of the octets, from the front
  abbrev pub IsCutOff : List ℕ → Type 0
  IsCutOff octets = WrotePrefix old.seen new.seen octets

  -- it took a part of the octets, from the front, and did not fail
  abbrev pub IsPartWritten : List ℕ → Type 0
  IsPartWritten octets = WrotePart old.seen new.seen octets

  -- the octets were written, and the status is the one that was asked for; or the sink failed
  abbrev pub IsPut : List ℕ → Status → Status → Type 0
  IsPut octets asked status =
      ((status ≡ asked) × IsWritten octets) ⊎ ((status ≡ File) × IsCutOff octets)

-- The output for the status was written; or the sink failed as it was written; or there is none,
-- and the output is as it was.
abbrev pub EndsWord : {S : Type 0} → (before after : Exchange S) → (Status → List ℕ → Type 0)
    → (Status → Type 0) → Status → Type 0
EndsWord before after Says Fails status =
    ((octets : List ℕ) × Says status octets × IsWritten before.output after.output octets)
    ⊎ ((status ≡ File) × ((asked : Status) × (octets : List ℕ)
    × Says asked octets × IsCutOff before.output after.output octets))
    ⊎ (Fails status × (after.output ≡ before.output))
