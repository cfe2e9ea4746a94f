-- Packets that are sent on, lowered where they lie.
use Rattle.std.specs.Prelude.{◌≡◌, ℕ, ◌≤◌, List, None}
use Rattle.nm_packet.specs.Ipv4.{IsPacket, cut_of, fields_of, header_fault, payload_of}
use Rattle.nm_forward.specs.declared.row.Row.TheVariants.{Forward}
use Rattle.nm_forward.specs.Row.{packet_row}
use Rattle.nm_forward.specs.State.{NodeStateValue}

-- a node in this state sends the packet on by interface via, and nothing follows the packet
pub record Passes (n : NodeStateValue) (via : ℕ) (x : List ℕ) : Type 0 where
  pub passed : header_fault x ≡ None
  pub whole : cut_of x ≡ x
  pub is_packet : IsPacket x
  pub live : 1 ≤ (fields_of x).time_to_live
  pub row : packet_row n.table (fields_of x) (payload_of x) ≡ Forward via
