-- What is said of a replica that is served.
use Rattle.std.proofs.Common.{◌≡◌, ◌⊎◌, ℕ, List, Option, Result, Ok, Err, IfOk, inl, inr, refl, subst}
use Rattle.nm_command.specs.declared.status.Status.{Status}
use Rattle.nm_command.specs.declared.status.Status.TheVariants.{File, Memory, Stalled}
use Rattle.nm_topology.specs.Topology.{topology_of}
use Rattle.nm_topology.specs.TopologyValue.{TopologyValue}
use Rattle.nm_book.specs.Book.{BookValue, state_of}
use Rattle.nm_peers.specs.Listeners.{AreListeners}
use Rattle.nm_peers.specs.declared.listener.Listener.{Listener}
use Rattle.nm_process.specs.Process.{IsDoneReplica}
use Rattle.nm_files.specs.Outputs.{Files, HasMade}
use Rattle.nm_program.specs.Node.{HasListeners, NodeAsked, SaysLines, SaysServed, StopsNode, node_files, own_lines}
use Rattle.nm_offline.specs.Input.{InputsSeen}
use Rattle.nm_offline.specs.Output.{SaysOfInputs}

-- what is said of it, of texts that give this network and these listeners
abbrev pub SaysOfTexts : TopologyValue → NodeAsked → List Listener → Option Files → Option Files → Status → List ℕ → Type 0
SaysOfTexts t asked listeners before after status octets = (text addresses : List ℕ) → topology_of text ≡ Ok t
    → AreListeners addresses t.partitions asked.partition asked.replica listeners → SaysServed asked (before, after) text addresses status octets

module _ (t : TopologyValue) (asked : NodeAsked) (listeners : List Listener) (before after : Option Files) where
  -- its files have the trace of its book, and their lines are said, or nothing
  pub says_served : (seen : TopologyValue) (book : BookValue) (lines : List ℕ) (status : Status) (octets : List ℕ) → seen ≡ t
      → IsDoneReplica t asked.partition asked.replica book
      → HasMade before after (node_files seen asked.partition asked.folder asked.keeps book)
      → lines ≡ own_lines seen asked.partition (state_of book).records
      → SaysLines lines status octets → SaysOfTexts t asked listeners before after status octets
  says_served seen book lines status octets same done made are says = λ text addresses read mean. (
    lines,
    node_files t asked.partition asked.folder asked.keeps book,
    record {
      network = t;
      read = read;
      listeners = listeners;
      mean = mean;
      book = book;
      done = done;
      made = refl;
      lines_are = subst (λ z. lines ≡ own_lines z asked.partition (state_of book).records) same are;
    },
    subst (λ z. HasMade before after (node_files z asked.partition asked.folder asked.keeps book)) same made,
    says,
  )

module _ {V E : Type 0} (items : V → List ℕ) (status_of : V → Status) (t : TopologyValue) (asked : NodeAsked) (listeners : List Listener) (before after : Option Files) where
  -- the texts are those of two inputs
  pub says_of_inputs : (inputs : InputsSeen) (served : Result V E) → HasListeners inputs asked t listeners
      → IfOk served (λ v. SaysOfTexts t asked listeners before after (status_of v) (items v))
      → IfOk served (λ v. SaysOfInputs inputs asked.topology asked.addresses (SaysServed asked (before, after)) (status_of v) (items v))
  says_of_inputs inputs (Ok v) (text, addresses, had, read, mean) says = (text, addresses, had, says text addresses read mean)
  says_of_inputs inputs (Err e) there says = tt

-- a book whose files were not all made, since one failed or memory was refused
pub stops_writing : (before after : Option Files) (status : Status) → (status ≡ File) ⊎ (status ≡ Memory) → StopsNode before after status
stops_writing before after status (inl file) = inl file
stops_writing before after status (inr memory) = inr (inl memory)

-- a replica that is not done, whose files have no names
pub stops_serving : (before after : Option Files) (status : Status) → after ≡ before → (status ≡ File) ⊎ (status ≡ Memory) ⊎ (status ≡ Stalled) → StopsNode before after status
stops_serving before after status same (inl file) = inl file
stops_serving before after status same (inr (inl memory)) = inr (inl memory)
stops_serving before after status same (inr (inr stalled)) = inr (inr (stalled, same))
