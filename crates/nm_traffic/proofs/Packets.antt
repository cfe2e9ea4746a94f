-- How long the packets of one source are.
use Rattle.std.proofs.Common.{◌≡◌, ℕ, zero, suc, ◌+◌, ◌-◌, ◌≤◌, ◌==◌, Bool, true, false, cond, List, [], ◌∷◌, length, Some, refl, ap, subst, arith}
use Rattle.std.specs.Prelude.{slice_get}
use Rattle.std.proofs.lemmas.Bool.Decides.{nat_tests}
use Rattle.std.proofs.lemmas.List.{length-replicate}
use Rattle.nm_topology.specs.declared.traffic.Flow.{Flow}
use Rattle.nm_topology.specs.declared.traffic.Echo.{Echo as EchoSource}
use Rattle.nm_topology.specs.declared.traffic.RawPacket.{RawPacket}
use Rattle.nm_topology.specs.declared.traffic.Traffic.{Traffic}
use Rattle.nm_topology.specs.declared.traffic.Traffic.TheVariants.{Cbr, Echo, Raw}
use Rattle.nm_topology.specs.Limits.{AreRising, FitsTraffic, HasOctets}
use Rattle.nm_traffic.specs.Flow.{flow_data, cbr_octets, echo_message}
use Rattle.nm_traffic.specs.Source.{packet_at}
use Rattle.nm_traffic.specs.Orderly.{FitsMtu}
use Rattle.nm_traffic.proofs.Options.{same_some, element-has}
use Rattle.nm_traffic.proofs.Rising.{of_flow-some, raw-some}

data-length : (f : Flow) → length (flow_data f) ≡ f.size
data-length f = length-replicate f.size f.fill

cbr-length : (f : Flow) (most : ℕ) → 1 ≤ most → f.size ≤ most → (1 ≤ length (cbr_octets f)) × (length (cbr_octets f) ≤ most)
cbr-length f most h g = decided (f.size == 0) refl
  where
    decided : (b : Bool) → (f.size == 0) ≡ b → (1 ≤ length (cond b (0 ∷ []) (flow_data f))) × (length (cond b (0 ∷ []) (flow_data f)) ≤ most)
    decided true e = (omega arith, omega arith)
    decided false e = let some : f.size ≡ 0 → ⊥ = grind (arith, nat_tests) in let n = data-length f in (omega (arith, n, some), omega (arith, n))

echo-length : (e : EchoSource) (n : ℕ) → length (echo_message e n) ≡ 8 + e.flow.size
unfolding echo_message
echo-length e n = omega (arith, data-length e.flow)

raw-length : (mtu least n : ℕ) (ps : List RawPacket) (p : RawPacket) → AreRising mtu least ps → slice_get ps n ≡ Some p → length p.packet ≤ mtu
raw-length mtu least n [] p h e = cc
raw-length mtu least zero (q ∷ qs) p h e = subst (λ r. length r.packet ≤ mtu) (same_some q p e) h.2
raw-length mtu least (suc n) (q ∷ qs) p h e = raw-length mtu (q.at + 1) n qs p h.3 e

pub packet-fits : (mtu stop : ℕ) (traffic : Traffic) (n : ℕ) (a : ℕ × List ℕ) → 29 ≤ mtu → FitsTraffic mtu traffic → packet_at stop traffic n ≡ Some a → FitsMtu mtu traffic (length a.1)
unfolding FitsTraffic packet_at
packet-fits mtu stop (Cbr c) n a m h e =
    let x = of_flow-some stop c.flow n (cbr_octets c.flow) a e in
    let k = cbr-length c.flow (mtu - 28) (omega arith) (omega (arith, h.0)) in
    omega (arith, ap length x.3, k.1)
packet-fits mtu stop (Echo c) n a m h e =
    let x = of_flow-some stop c.flow n (echo_message c n) a e in
    omega (arith, ap length x.3, echo-length c n, h.0)
packet-fits mtu stop (Raw r) n a m h e =
    let x = raw-some stop r.packets n a e in
    omega (arith, ap length x.4, raw-length mtu 0 n r.packets x.0 h.0 x.1)

pub fits-greatest : (mtu : ℕ) (traffic : Traffic) (octets : ℕ) → FitsMtu mtu traffic octets → octets ≤ mtu
fits-greatest mtu (Cbr c) octets h = omega arith
fits-greatest mtu (Echo c) octets h = omega arith
fits-greatest mtu (Raw r) octets h = h

pub packet-octets : (stop : ℕ) (traffic : Traffic) (n : ℕ) (a : ℕ × List ℕ) → HasOctets traffic → packet_at stop traffic n ≡ Some a → 1 ≤ length a.1
unfolding HasOctets packet_at
packet-octets stop (Cbr c) n a h e =
    let x = of_flow-some stop c.flow n (cbr_octets c.flow) a e in
    let k = cbr-length c.flow (c.flow.size + 1) (omega arith) (omega arith) in
    omega (arith, ap length x.3, k.0)
packet-octets stop (Echo c) n a h e =
    let x = of_flow-some stop c.flow n (echo_message c n) a e in
    omega (arith, ap length x.3, echo-length c n)
packet-octets stop (Raw r) n a h e =
    let x = raw-some stop r.packets n a e in
    omega (arith, ap length x.4, element-has (λ p. 1 ≤ length p.packet) r.packets n x.0 h x.1)
