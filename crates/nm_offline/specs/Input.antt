-- What contracts see of inputs.
use Rattle.std.specs.Prelude.{◌≡◌, ◌⊎◌, ℕ, ◌+◌, ◌<◌, ◌≤◌, if◌then◌else◌, List, length, Option, IfSome, Ok, Err, codes}
use Rattle.std.specs.Str.{bytes_eq}
use Rattle.std.specs.declared.io.ErrorKind.{ErrorKind}
use Rattle.std.specs.declared.io.ErrorKind.TheVariants.{OutOfMemory}
use Rattle.nm_topology.specs.Topology.{topology_of}
use Rattle.nm_topology.specs.TopologyValue.{TopologyValue}
use Rattle.nm_topology.specs.declared.fault.Refusal.{Refusal}
use Rattle.nm_command.specs.declared.status.Status.{Status}
use Rattle.nm_command.specs.declared.status.Status.TheVariants.{Topology, File, Memory}
use Rattle.nm_base.specs.declared.limits.TheConstants.{MAX_INPUT_OCTETS}
use Rattle.nm_offline.specs.declared.input.InputFault.{InputFault}
use Rattle.nm_offline.specs.declared.input.InputFault.TheVariants.{Failed, Memory as NoMemory}

-- What is seen of where inputs come from: the texts of standard input and of the file of each name,
-- if they are known.
pub record InputTexts : Type 0 where
  pub standard : Option (List ℕ)
  pub file : List ℕ → Option (List ℕ)

-- inputs that are read by their names: where they come from, and how often one of them could not be
-- opened or read
pub record CountedInputs (I : Type 0) : Type 0 where
  pub inputs : I
  pub failures : ℕ

-- what is seen of them: the text of each, if it is known, and that count
pub record InputsSeen : Type 0 where
  pub text : List ℕ → Option (List ℕ)
  pub failures : ℕ

-- standard input is `-`, and each other name is a file's
abbrev pub text_of : InputTexts → (name : List ℕ) → Option (List ℕ)
text_of texts name = if bytes_eq name (codes "-") then texts.standard else texts.file name

abbrev pub inputs_seen : {I : Type 0} → (texts : I → InputTexts) → CountedInputs I → InputsSeen
inputs_seen texts i = record { text = text_of (texts i.inputs); failures = i.failures }

-- the meaning of the kind of an error: memory was refused, or else the opening or the read failed
abbrev pub IsFaultOf : ErrorKind → InputFault → Type 0
IsFaultOf kind fault =
    ((kind ≡ OutOfMemory) × (fault ≡ NoMemory)) ⊎ ((kind ≡ OutOfMemory → ⊥) × (fault ≡ Failed))

-- the text that was read from an input, if its text is known
pub record IsInput (told : Option (List ℕ)) (text : List ℕ) : Type 0 where
  pub whole : IfSome told (λ t. text ≡ t)
  pub most : length text ≤ MAX_INPUT_OCTETS

-- the input of a name could not be opened or read, or it is too long
abbrev pub IsNotRead : (before after : InputsSeen) (name : List ℕ) → Type 0
IsNotRead before after name =
    (after.failures ≡ before.failures + 1)
    ⊎ IfSome (before.text name) (λ t. MAX_INPUT_OCTETS < length t)

-- why there is no such text
abbrev pub IsUnread : (before after : InputsSeen) (name : List ℕ) → Status → Type 0
IsUnread before after name status =
    ((status ≡ File) × IsNotRead before after name) ⊎ (status ≡ Memory)

-- why a text gives no topology
abbrev pub IsRefused : List ℕ → Status → Type 0
IsRefused text status =
    ((refusal : Refusal) × (status ≡ Topology refusal) × (topology_of text ≡ Err refusal))
    ⊎ (status ≡ Memory)

-- this is the topology of the text that the input of a name has
abbrev pub HasTopology : InputsSeen → (name : List ℕ) → TopologyValue → Type 0
HasTopology inputs name network =
    (text : List ℕ) × IsInput (inputs.text name) text × (topology_of text ≡ Ok network)
