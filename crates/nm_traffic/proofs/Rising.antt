-- The packets of one source come at rising times before stop, with no gap in their numbers.
use Rattle.std.proofs.Common.{◌≡◌, ℕ, zero, suc, ◌+◌, ◌<◌, ◌≤◌, true, cond, List, [], ◌∷◌, Some, None, refl, sym, ap, ◌∙◌, subst, arith}
use Rattle.std.specs.Prelude.{nat_lt, slice_get}
use Rattle.std.specs.Option.{option_and_then}
use Rattle.std.proofs.lemmas.Bool.Decides.{nat_tests}
use Rattle.nm_topology.specs.declared.traffic.Flow.{Flow}
use Rattle.nm_topology.specs.declared.traffic.RawPacket.{RawPacket}
use Rattle.nm_topology.specs.declared.traffic.Traffic.{Traffic}
use Rattle.nm_topology.specs.declared.traffic.Traffic.TheVariants.{Cbr, Echo, Raw}
use Rattle.nm_topology.specs.Limits.{AreRising, FitsTraffic}
use Rattle.nm_traffic.specs.Flow.{flow_time, cbr_octets, echo_message}
use Rattle.nm_traffic.specs.Source.{before, of_flow, packet_at}
use Rattle.nm_traffic.proofs.Options.{none_or, same_some, kept, bound-some}

-- what comes before stop is as it was
before-some : (stop : ℕ) (p a : ℕ × List ℕ) → before stop p ≡ Some a → (p.0 < stop) × (p ≡ a)
before-some stop p a e =
    let k = kept (nat_lt p.0 stop) (Some p) a e in
    (grind (arith, nat_tests, k.0), same_some p a k.1)

before-is : (stop : ℕ) (p : ℕ × List ℕ) → p.0 < stop → before stop p ≡ Some p
before-is stop p h = let e : nat_lt p.0 stop ≡ true = grind (arith, nat_tests) in ap (λ b. cond b (Some p) None) e

-- a packet of a flow
pub of_flow-some : (stop : ℕ) (f : Flow) (n : ℕ) (octets : List ℕ) (a : ℕ × List ℕ) → of_flow stop f n octets ≡ Some a → (n < f.count) × (flow_time f n < stop) × (flow_time f n ≡ a.0) × (octets ≡ a.1)
of_flow-some stop f n octets a e =
    let k = kept (nat_lt n f.count) (before stop (flow_time f n, octets)) a e in
    let b = before-some stop (flow_time f n, octets) a k.1 in
    (grind (arith, nat_tests, k.0), b.0, ap (λ z. z.0) b.1, ap (λ z. z.1) b.1)

of_flow-is : (stop : ℕ) (f : Flow) (n : ℕ) (octets : List ℕ) → n < f.count → flow_time f n < stop → of_flow stop f n octets ≡ Some (flow_time f n, octets)
of_flow-is stop f n octets h g =
    let e : nat_lt n f.count ≡ true = grind (arith, nat_tests) in
    ap (λ b. cond b (before stop (flow_time f n, octets)) None) e ∙ before-is stop (flow_time f n, octets) g

flow-rises : (f : Flow) (n : ℕ) → 1 ≤ f.interval → flow_time f n < flow_time f (suc n)
flow-rises f n h = omega arith

-- a flow that has packet n + 1 has packet n
flow-prior : (stop : ℕ) (f : Flow) (n : ℕ) (x y : List ℕ) → 1 ≤ f.interval → of_flow stop f n x ≡ None → of_flow stop f (suc n) y ≡ None
flow-prior stop f n x y h e =
    none_or (of_flow stop f (suc n) y)
    (λ b g. let k = of_flow-some stop f (suc n) y b g in
    let rise = flow-rises f n h in
    let there = of_flow-is stop f n x (omega (arith, k.0)) (omega (arith, k.1, rise)) in
    cc)

-- raw packets
pub raw-some : (stop : ℕ) (ps : List RawPacket) (n : ℕ) (a : ℕ × List ℕ) → option_and_then (λ p. before stop (p.at, p.packet)) (slice_get ps n) ≡ Some a → (p : RawPacket) × (slice_get ps n ≡ Some p) × (p.at < stop) × (p.at ≡ a.0) × (p.packet ≡ a.1)
raw-some stop ps n a e =
    let k = bound-some (λ p. before stop (p.at, p.packet)) (slice_get ps n) a e in
    let b = before-some stop (k.0.at, k.0.packet) a k.2 in
    (k.0, k.1, b.0, ap (λ z. z.0) b.1, ap (λ z. z.1) b.1)

-- the packet before one
raw-prior : (mtu least n : ℕ) (ps : List RawPacket) (q : RawPacket) → AreRising mtu least ps → slice_get ps (suc n) ≡ Some q → (p : RawPacket) × (slice_get ps n ≡ Some p) × (p.at < q.at)
raw-prior mtu least n [] q h e = cc
raw-prior mtu least zero (p ∷ []) q h e = cc
raw-prior mtu least zero (p ∷ r ∷ rs) q h e =
    let same : r ≡ q = same_some r q e in
    (p, refl, subst (λ s. p.at < s.at) same (omega (arith, h.3.0)))
raw-prior mtu least (suc n) (p ∷ ps) q h e = raw-prior mtu (p.at + 1) n ps q h.3 e

pub packet-rises : (mtu stop : ℕ) (traffic : Traffic) (n : ℕ) (a b : ℕ × List ℕ) → FitsTraffic mtu traffic → packet_at stop traffic n ≡ Some a → packet_at stop traffic (suc n) ≡ Some b → a.0 < b.0
unfolding FitsTraffic packet_at
packet-rises mtu stop (Cbr c) n a b h e g =
    let x = of_flow-some stop c.flow n (cbr_octets c.flow) a e in
    let y = of_flow-some stop c.flow (suc n) (cbr_octets c.flow) b g in
    omega (arith, x.2, y.2, flow-rises c.flow n h.2)
packet-rises mtu stop (Echo c) n a b h e g =
    let x = of_flow-some stop c.flow n (echo_message c n) a e in
    let y = of_flow-some stop c.flow (suc n) (echo_message c (suc n)) b g in
    omega (arith, x.2, y.2, flow-rises c.flow n h.2)
packet-rises mtu stop (Raw r) n a b h e g =
    let x = raw-some stop r.packets n a e in
    let y = raw-some stop r.packets (suc n) b g in
    let z = raw-prior mtu 0 n r.packets y.0 h.0 y.1 in
    let same : z.0 ≡ x.0 = same_some z.0 x.0 (sym z.1 ∙ x.1) in
    omega (arith, x.3, y.3, z.2, ap (λ p. p.at) same)

pub packet-ends : (mtu stop : ℕ) (traffic : Traffic) (n : ℕ) → FitsTraffic mtu traffic → packet_at stop traffic n ≡ None → packet_at stop traffic (suc n) ≡ None
unfolding FitsTraffic packet_at
packet-ends mtu stop (Cbr c) n h e = flow-prior stop c.flow n (cbr_octets c.flow) (cbr_octets c.flow) h.2 e
packet-ends mtu stop (Echo c) n h e = flow-prior stop c.flow n (echo_message c n) (echo_message c (suc n)) h.2 e
packet-ends mtu stop (Raw r) n h e =
    none_or (option_and_then (λ p. before stop (p.at, p.packet)) (slice_get r.packets (suc n)))
    (λ b g. let y = raw-some stop r.packets (suc n) b g in
    let z = raw-prior mtu 0 n r.packets y.0 h.0 y.1 in
    let there : option_and_then (λ p. before stop (p.at, p.packet)) (slice_get r.packets n) ≡ Some (z.0.at, z.0.packet) =
    ap (option_and_then (λ p. before stop (p.at, p.packet))) z.1 ∙ before-is stop (z.0.at, z.0.packet) (omega (arith, z.2, y.2)) in
    cc)

pub packet-early : (stop : ℕ) (traffic : Traffic) (n : ℕ) (a : ℕ × List ℕ) → packet_at stop traffic n ≡ Some a → a.0 < stop
unfolding packet_at
packet-early stop (Cbr c) n a e = let x = of_flow-some stop c.flow n (cbr_octets c.flow) a e in omega (arith, x.1, x.2)
packet-early stop (Echo c) n a e = let x = of_flow-some stop c.flow n (echo_message c n) a e in omega (arith, x.1, x.2)
packet-early stop (Raw r) n a e = let x = raw-some stop r.packets n a e in omega (arith, x.2, x.3)
