-- The word `path`: the way of a packet from a node to an address.
use Rattle.std.specs.Prelude.{◌≡◌, ◌⊎◌, ℕ, List, [], ◌∷◌, ◌++◌, position, Option, Some, None, Ok}
use Rattle.std.specs.Str.{bytes_eq}
use Rattle.nm_topology.specs.Parse.Forms.{usable_address_of}
use Rattle.nm_topology.specs.PartValues.{NodeValue}
use Rattle.nm_topology.specs.Topology.{topology_of}
use Rattle.nm_topology.specs.TopologyValue.{TopologyValue}
use Rattle.nm_command.specs.declared.status.Status.{Status}
use Rattle.nm_command.specs.declared.status.Status.TheVariants.{Done, Usage}
use Rattle.nm_offline.specs.Input.{IsRefused}
use Rattle.nm_offline.specs.Output.{EndsWord, Exchange, FailsOfInput, SaysOfInput}

-- the number of the node of this name
abbrev pub node_named : List NodeValue → List ℕ → Option ℕ
node_named nodes name = position (λ n. bytes_eq n.name name) nodes

-- the text of the way from the node of this name to this address, which is no martian, is whole
-- lines
pub record IsPathSaid (node address text octets : List ℕ) : Type 0 where
  pub network : TopologyValue
  pub read : topology_of text ≡ Ok network
  pub from : ℕ
  pub named : node_named network.nodes node ≡ Some from
  pub to : ℕ
  pub aimed : usable_address_of address ≡ Some to
  pub front : List ℕ
  pub lines : octets ≡ front ++ 10 ∷ []

-- it is printed once it is made
abbrev pub SaysPath : List ℕ → List ℕ → List ℕ → Status → List ℕ → Type 0
SaysPath node address text status octets = (status ≡ Done) × IsPathSaid node address text octets

-- why there is no such way: the text is refused, its topology has no such node, or the address is
-- none
abbrev pub HasNoEnds : List ℕ → List ℕ → List ℕ → Status → Type 0
HasNoEnds node address text status = IsRefused text status
    ⊎ ((status ≡ Usage) × ((network : TopologyValue) × (topology_of text ≡ Ok network)
    × ((node_named network.nodes node ≡ None) ⊎ (usable_address_of address ≡ None))))

-- The meaning of each status.
module _ {S : Type 0} (before after : Exchange S) where
  abbrev pub EndsPath : List ℕ → List ℕ → List ℕ → Status → Type 0
  EndsPath topology node address status =
      EndsWord before after (SaysOfInput before.inputs topology (SaysPath node address))
      (FailsOfInput before.inputs after.inputs topology (HasNoEnds node address)) status
