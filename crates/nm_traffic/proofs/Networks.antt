-- The packets of the sources of a network.
use Rattle.std.proofs.Common.{◌≡◌, All, ℕ, suc, List, length, Option, Some, None, refl, sym, ap, ◌∙◌, arith}
use Rattle.std.specs.Prelude.{option_map, slice_get}
use Rattle.std.specs.Option.{option_and_then}
use Rattle.nm_topology.specs.declared.traffic.Source.{Source}
use Rattle.nm_topology.specs.Limits.{FitsTraffic, HasOctets, IsWithinLimits}
use Rattle.nm_topology.specs.TopologyValue.{TopologyValue}
use Rattle.nm_traffic.specs.Source.{packet_at, source_of, source_at}
use Rattle.nm_traffic.specs.SourceValues.{SourceValue}
use Rattle.nm_traffic.specs.Orderly.{TimesRise, EndForGood, ComeBeforeStop, HaveOctets, ArePackets, FitTheMtu}
use Rattle.nm_traffic.proofs.Options.{none_or, element-has}
use Rattle.nm_traffic.proofs.Rising.{packet-rises, packet-ends, packet-early}
use Rattle.nm_traffic.proofs.Packets.{packet-fits, packet-octets, fits-greatest}

-- the packet n of a source that is there
source_at-is : (t : TopologyValue) (j n : ℕ) (s : Source) → slice_get t.sources j ≡ Some s → source_at t j n ≡ packet_at t.stop s.traffic n
unfolding source_at source_of
source_at-is t j n s h =
    ap (λ o. option_and_then (λ v. packet_at v.stop v.traffic n) (option_map (λ (p : Source). let v : SourceValue = record { stop = t.stop; traffic = p.traffic } in v) o)) h

source_at-none : (t : TopologyValue) (j n : ℕ) → slice_get t.sources j ≡ None → source_at t j n ≡ None
unfolding source_at source_of
source_at-none t j n h =
    ap (λ o. option_and_then (λ v. packet_at v.stop v.traffic n) (option_map (λ (p : Source). let v : SourceValue = record { stop = t.stop; traffic = p.traffic } in v) o)) h

-- a packet of a network is one of a source
source_at-some : (t : TopologyValue) (j n : ℕ) (a : ℕ × List ℕ) → source_at t j n ≡ Some a → (s : Source) × (slice_get t.sources j ≡ Some s) × (packet_at t.stop s.traffic n ≡ Some a)
source_at-some t j n a e = found (slice_get t.sources j) refl
  where
    found : (o : Option Source) → slice_get t.sources j ≡ o → (s : Source) × (slice_get t.sources j ≡ Some s) × (packet_at t.stop s.traffic n ≡ Some a)
    found None h = let none = source_at-none t j n h in cc
    found (Some s) h = (s, h, sym (source_at-is t j n s h) ∙ e)

fits : (t : TopologyValue) (j : ℕ) (s : Source) → IsWithinLimits t → slice_get t.sources j ≡ Some s → FitsTraffic t.mtu s.traffic
fits t j s w h = element-has (λ p. FitsTraffic t.mtu p.traffic) t.sources j s w.sources h

pub times_rise : (t : TopologyValue) → IsWithinLimits t → TimesRise t
times_rise t w j n a b e g =
    let x = source_at-some t j n a e in
    packet-rises t.mtu t.stop x.0.traffic n a b (fits t j x.0 w x.1) x.2 (sym (source_at-is t j (suc n) x.0 x.1) ∙ g)

pub end_for_good : (t : TopologyValue) → IsWithinLimits t → EndForGood t
end_for_good t w j n e =
    none_or (source_at t j (suc n))
    (λ b g. let x = source_at-some t j (suc n) b g in
    let none = packet-ends t.mtu t.stop x.0.traffic n (fits t j x.0 w x.1) (sym (source_at-is t j n x.0 x.1) ∙ e) in
    let some = x.2 in
    cc)

pub come_before_stop : (t : TopologyValue) → ComeBeforeStop t
come_before_stop t j n a e = let x = source_at-some t j n a e in packet-early t.stop x.0.traffic n a x.2

pub have_octets : (t : TopologyValue) → All (λ s. HasOctets s.traffic) t.sources → HaveOctets t
have_octets t h j n a e =
    let x = source_at-some t j n a e in
    packet-octets t.stop x.0.traffic n a (element-has (λ p. HasOctets p.traffic) t.sources j x.0 h x.1) x.2

pub fit_the_mtu : (t : TopologyValue) → IsWithinLimits t → FitTheMtu t
fit_the_mtu t w j n s a h e =
    packet-fits t.mtu t.stop s.traffic n a (omega (arith, w.least_mtu)) (fits t j s w h) (sym (source_at-is t j n s h) ∙ e)

pub are_packets : (t : TopologyValue) → IsWithinLimits t → ArePackets t
are_packets t w j n a e =
    let x = source_at-some t j n a e in
    omega (arith, w.greatest_mtu, fits-greatest t.mtu x.0.traffic (length a.1) (fit_the_mtu t w j n x.0 a x.1 e))
