-- The laws of transmissions, over the network of a topology.
use Rattle.std.proofs.Common.{◌≡◌, ℕ, ◌+◌, ◌≤◌, List, length, map, max, true, Option, Some, None, refl, ap, subst, arith, slice_get}
use Rattle.nm_base.specs.declared.event.Origin.TheVariants.{Arrival, Source as FromSource}
use Rattle.nm_base.specs.declared.event.Origin.{Origin}
use Rattle.nm_base.specs.declared.limits.TheConstants.{MAX_PACKET_OCTETS}
use Rattle.nm_base.specs.declared.record.Dir.TheVariants.{Out}
use Rattle.nm_base.specs.declared.record.Record.{Record}
use Rattle.nm_topology.specs.declared.traffic.Source.{Source}
use Rattle.nm_topology.specs.declared.traffic.Traffic.{Traffic}
use Rattle.nm_topology.specs.declared.traffic.Traffic.TheVariants.{Cbr, Echo, Raw}
use Rattle.nm_topology.specs.Limits.{IsWithinLimits}
use Rattle.nm_topology.specs.TopologyValue.{TopologyValue}
use Rattle.nm_model.specs.Lists.{nth}
use Rattle.nm_model.specs.Network.{IsNet}
use Rattle.nm_model.specs.Orderly.{IsOrderly}
use Rattle.nm_model.specs.Run.{one_list}
use Rattle.nm_model.specs.Trace.{passed}
use Rattle.nm_forward.specs.State.{NodeStateValue}
use Rattle.nm_forward.specs.Reaction.{FitsHeaders, FitsOrigin, FitsSource, reaction}
use Rattle.nm_iface.specs.Transmission.{transmission_time}
use Rattle.nm_traffic.specs.Orderly.{ArePackets, FitsMtu, FitTheMtu, HaveOctets}
use Rattle.nm_traffic.specs.Source.{source_at}
use Rattle.nm_sim.specs.Network.{far_of, net_of}
use Rattle.nm_laws.specs.Transmissions.{AreOfPackets, arrivals_due, time_to_transmit}
use Rattle.nm_laws.proofs.Packets.{Came, recorded}
use Rattle.nm_laws.proofs.Passings.{arrival_after, map_same, passed_from}

abbrev IsPacket : List ℕ → Type 0
IsPacket x = (1 ≤ length x) × (length x ≤ MAX_PACKET_OCTETS)

module _ (t : TopologyValue) where
  -- what a source hands over fits a packet
  module _ (limits : IsWithinLimits t) (fit : FitTheMtu t) where
    fits_headers : (traffic : Traffic) (x : List ℕ) → FitsMtu t.mtu traffic (length x) → FitsHeaders traffic x
    fits_headers (Cbr c) x h = let m = limits.greatest_mtu in omega arith
    fits_headers (Echo e) x h = let m = limits.greatest_mtu in omega arith
    fits_headers (Raw r) x h = tt

    fits_origin : (j n : ℕ) (a : ℕ × List ℕ) → source_at t j n ≡ Some a → FitsOrigin t (FromSource j) a.1
    fits_origin j n a e = go (slice_get t.sources j) refl
      where
        go : (o : Option Source) → slice_get t.sources j ≡ o → FitsSource o a.1
        go None f = tt
        go (Some s) f = fits_headers s.traffic a.1 (fit j n s a f e)

  -- all packets of the run have octets, and not too many
  module _ (ok : IsNet (net_of t)) (limits : IsWithinLimits t) (fit : FitTheMtu t) (least : HaveOctets t) (greatest : ArePackets t)
      (fits : (t : TopologyValue) (v : ℕ) (n : NodeStateValue) (o : Origin) (x : List ℕ) (s : ℕ × List ℕ) → 1 ≤ length x → length x ≤ MAX_PACKET_OCTETS → FitsOrigin t o x
      → (reaction t v n o x).1 ≡ Some s → (1 ≤ length s.1) × (length s.1 ≤ MAX_PACKET_OCTETS))
      (orderly : (n : ℕ) → IsOrderly (net_of t) (λ q. true) (one_list (net_of t) n)) (came : (n : ℕ) → Came (net_of t) (one_list (net_of t) n)) (n : ℕ) where
    forwarded : (v : ℕ) (n : NodeStateValue) (i : ℕ) (x : List ℕ) (s : ℕ × List ℕ) → IsPacket x → ((net_of t).react v n (Arrival i) x).1 ≡ Some s → IsPacket s.1
    unfolding net_of
    forwarded v n i x s p e = fits t v n (Arrival i) x s p.0 p.1 tt e

    handed : (v : ℕ) (n : NodeStateValue) (j m u : ℕ) (x : List ℕ) (s : ℕ × List ℕ) → (net_of t).source j m ≡ Some (u, x) → ((net_of t).react v n (FromSource j) x).1 ≡ Some s → IsPacket s.1
    unfolding net_of
    handed v n j m u x s e f = fits t v n (FromSource j) x s (least j m (u, x) e) (greatest j m (u, x) e) (fits_origin limits fit j m (u, x) e) f

    packets : (m : ℕ) (r : Record (List ℕ)) → nth (one_list (net_of t) n).records m ≡ Some r → IsPacket r.packet
    packets = recorded (net_of t) IsPacket ok forwarded handed orderly came n

    pub have_octets : AreOfPackets (one_list (net_of t) n).records
    have_octets = record { least = λ m r e. (packets m r e).0; greatest = λ m r e. (packets m r e).1 }

  -- so the time that a transmission takes is that of its octets
  pub takes_its_octets : (i : ℕ) (x : List ℕ) → 1 ≤ length x → (net_of t).tx i x ≡ time_to_transmit t i x
  unfolding net_of
  takes_its_octets i x h = let e : max 1 (length x) ≡ length x = omega arith in ap (transmission_time (far_of t i).rate) e

  delay_is : (i : ℕ) → (net_of t).delay i ≡ (far_of t i).delay
  unfolding net_of
  delay_is i = refl

  -- and arrivals are due as the model says
  pub due_is : (records : List (Record (List ℕ))) → AreOfPackets records → (i : ℕ) → map (arrival_after (net_of t) ((net_of t).far_end i)) (passed Out ((net_of t).far_end i) records) ≡ arrivals_due t records i
  unfolding net_of
  due_is records octets i = map_same _ _ (passed Out (far_of t i).iface records) (λ n a e.
      let r = passed_from Out (far_of t i).iface records n a e in
      let h : 1 ≤ length a.1 = subst (λ (z : ℕ × List ℕ). 1 ≤ length z.1) r.3 (octets.least r.0 r.1 r.2) in
      ap (λ z. (a.0 + z + (far_of t (far_of t i).iface).delay, a.1)) (takes_its_octets (far_of t i).iface a.1 h))
