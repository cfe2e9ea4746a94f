-- The word `packets`: the ways of the packets of a source.
use Rattle.std.specs.Prelude.{◌≡◌, ◌⊎◌, ℕ, ◌<◌, ◌≤◌, List, length, Ok}
use Rattle.nm_topology.specs.Topology.{topology_of}
use Rattle.nm_topology.specs.TopologyValue.{TopologyValue}
use Rattle.nm_command.specs.declared.status.Status.{Status}
use Rattle.nm_command.specs.declared.status.Status.TheVariants.{Done, Usage}
use Rattle.nm_series.specs.Packets.{ArePacketRows}
use Rattle.nm_offline.specs.Input.{IsRefused}
use Rattle.nm_offline.specs.Output.{EndsWord, Exchange, FailsOfInput, SaysOfInput}

-- the rows of the packets of the source with this number, which there is
pub record ArePacketsOf (source : ℕ) (text octets : List ℕ) : Type 0 where
  pub network : TopologyValue
  pub read : topology_of text ≡ Ok network
  pub there : source < length network.sources
  pub rows : ArePacketRows network source octets

-- it is printed once it is made
abbrev pub SaysPackets : ℕ → List ℕ → Status → List ℕ → Type 0
SaysPackets source text status octets = (status ≡ Done) × ArePacketsOf source text octets

-- why there are none: the text is refused, or its topology has no such source
abbrev pub HasNoSource : ℕ → List ℕ → Status → Type 0
HasNoSource source text status = IsRefused text status
    ⊎ ((status ≡ Usage)
    × ((network : TopologyValue) × (topology_of text ≡ Ok network)
    × (length network.sources ≤ source)))

-- The meaning of each status.
module _ {S : Type 0} (before after : Exchange S) where
  abbrev pub EndsPackets : List ℕ → ℕ → Status → Type 0
  EndsPackets topology source status =
      EndsWord before after (SaysOfInput before.inputs topology (SaysPackets source))
      (FailsOfInput before.inputs after.inputs topology (HasNoSource source)) status
