-- The word `check`: where a topology is at fault, or what it has.
use Rattle.std.specs.Prelude.{◌≡◌, ◌⊎◌, ℕ, List, Ok, Err}
use Rattle.nm_topology.specs.Topology.{topology_of}
use Rattle.nm_topology.specs.TopologyValue.{TopologyValue}
use Rattle.nm_topology.specs.declared.fault.Refusal.{Refusal}
use Rattle.nm_check.specs.Lines.{EndsLine}
use Rattle.nm_command.specs.declared.status.Status.{Status}
use Rattle.nm_command.specs.declared.status.Status.TheVariants.{Done, Topology}
use Rattle.nm_offline.specs.Input.{IsUnread}
use Rattle.nm_offline.specs.Output.{EndsWord, Exchange, SaysOfInput}

-- What is printed with a status: an accepted topology is done; of a refused one the status has the
-- first refusal, with a line on it.
abbrev pub SaysOf : List ℕ → Status → List ℕ → Type 0
SaysOf text status octets =
    ((status ≡ Done) × ((network : TopologyValue) × (topology_of text ≡ Ok network)))
    ⊎ ((refusal : Refusal) × (status ≡ Topology refusal) × (topology_of text ≡ Err refusal)
    × EndsLine octets)

-- the meaning of each status
abbrev pub EndsCheck : {S : Type 0} → (before after : Exchange S) → List ℕ → Status → Type 0
EndsCheck before after topology status =
    EndsWord before after (SaysOfInput before.inputs topology SaysOf)
    (IsUnread before.inputs after.inputs topology) status
