-- What the sources of a topology within the limits have in common.
use Rattle.std.specs.Prelude.{◌≡◌, ℕ, suc, ◌+◌, ◌<◌, ◌≤◌, All, List, length, slice_get, Some, None}
use Rattle.nm_base.specs.declared.limits.TheConstants.{MAX_PACKET_OCTETS}
use Rattle.nm_topology.specs.declared.traffic.Source.{Source}
use Rattle.nm_topology.specs.declared.traffic.Traffic.{Traffic}
use Rattle.nm_topology.specs.declared.traffic.Traffic.TheVariants.{Cbr, Echo, Raw}
use Rattle.nm_topology.specs.Limits.{HasOctets, IsWithinLimits}
use Rattle.nm_topology.specs.TopologyValue.{TopologyValue}
use Rattle.nm_traffic.specs.Source.{source_at}

-- each packet of a source comes later than the one before
abbrev pub TimesRise : TopologyValue → Type 0
TimesRise t = (j n : ℕ) (a b : ℕ × List ℕ)
    → source_at t j n ≡ Some a → source_at t j (suc n) ≡ Some b → a.0 < b.0

-- after its last packet before stop a source has none
abbrev pub EndForGood : TopologyValue → Type 0
EndForGood t = (j n : ℕ) → source_at t j n ≡ None → source_at t j (suc n) ≡ None

abbrev pub ComeBeforeStop : TopologyValue → Type 0
ComeBeforeStop t = (j n : ℕ) (a : ℕ × List ℕ) → source_at t j n ≡ Some a → a.0 < t.stop

abbrev pub HaveOctets : TopologyValue → Type 0
HaveOctets t = (j n : ℕ) (a : ℕ × List ℕ) → source_at t j n ≡ Some a → 1 ≤ length a.1

abbrev pub ArePackets : TopologyValue → Type 0
ArePackets t = (j n : ℕ) (a : ℕ × List ℕ)
    → source_at t j n ≡ Some a → length a.1 ≤ MAX_PACKET_OCTETS

-- so many octets fit the mtu: data behind an IPv4 header of 20 octets and a UDP header of 8, a
-- message behind an IPv4 header, a raw packet as it is
abbrev pub FitsMtu : ℕ → Traffic → ℕ → Type 0
FitsMtu mtu (Cbr c) octets = octets + 28 ≤ mtu
FitsMtu mtu (Echo e) octets = octets + 20 ≤ mtu
FitsMtu mtu (Raw r) octets = octets ≤ mtu

abbrev pub FitTheMtu : TopologyValue → Type 0
FitTheMtu t = (j n : ℕ) (s : Source) (a : ℕ × List ℕ) → slice_get t.sources j ≡ Some s
    → source_at t j n ≡ Some a → FitsMtu t.mtu s.traffic (length a.1)

-- how the sources of a network within the limits send
pub record SendsWithinLimits (t : TopologyValue) : Type 0 where
  pub rise : TimesRise t
  pub end : EndForGood t
  pub fit : FitTheMtu t
  pub greatest : ArePackets t

-- how the sources of any network send: if no raw packet is empty, no packet is
pub record SendsOrderly (t : TopologyValue) : Type 0 where
  pub before : ComeBeforeStop t
  pub limits : IsWithinLimits t → SendsWithinLimits t
  pub least : All (λ s. HasOctets s.traffic) t.sources → HaveOctets t
