-- Transmissions that start.
use Rattle.std.specs.Prelude.{◌≡◌, ℕ, ◌+◌, List, Option, Some, None}
use Rattle.std.specs.Option.{IsSome}
use Rattle.nm_base.specs.declared.packet.Twin.{Twin}
use Rattle.nm_iface.specs.declared.port.Start.{Start}
use Rattle.nm_iface.specs.declared.port.Offered.{Offered}
use Rattle.nm_iface.specs.declared.port.Offered.TheVariants.{Started, Queued, Dropped}
use Rattle.nm_iface.specs.declared.port.OfferedAlone.{OfferedAlone}
use Rattle.nm_iface.specs.declared.port.OfferedAlone.TheVariants as alone
use Rattle.nm_model.specs.declared.offering.Offering.{Offering}
use Rattle.nm_model.specs.declared.offering.Offering.TheVariants as became
use Rattle.nm_iface.specs.PortValue.{takes}

-- of this packet at this time, over a link with this rate and delay
pub record IsTransmission (rate delay now : ℕ) (octets : List ℕ) (s : Start) : Type 0 where
  pub packet : s.item.packet ≡ octets
  pub completes : s.completes ≡ now + takes rate octets
  pub arrives : s.arrives ≡ now + takes rate octets + delay

-- its packet has a copy
abbrev pub HasCopy : Start → Type 0
HasCopy s = IsSome s.item.copy

-- the packet that starts, if one does
abbrev pub transmitted_packet : Option Start → Option (List ℕ)
transmitted_packet None = None
transmitted_packet (Some s) = Some s.item.packet

abbrev pub transmission_in : Offered → Option Start
transmission_in (Started s) = Some s
transmission_in Queued = None
transmission_in (Dropped t) = None

-- the packet that is given back
abbrev pub handed_back : Offered → Option Twin
handed_back (Started s) = None
handed_back Queued = None
handed_back (Dropped t) = Some t

-- what became of a packet that was offered to interface i
abbrev pub offering_by : ℕ → Offered → Offering
offering_by i (Started s) = became.Started i
offering_by i Queued = became.Waits i
offering_by i (Dropped t) = became.Dropped i

-- the same of a packet without a record
abbrev pub offering_alone : ℕ → OfferedAlone → Offering
offering_alone i (alone.Started s) = became.Started i
offering_alone i alone.Queued = became.Waits i
offering_alone i alone.Dropped = became.Dropped i

abbrev pub start_alone : OfferedAlone → Option Start
start_alone (alone.Started s) = Some s
start_alone alone.Queued = None
start_alone alone.Dropped = None
