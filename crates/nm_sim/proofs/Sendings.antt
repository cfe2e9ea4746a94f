-- What a node sends is offered to a port.
use Rattle.std.proofs.Common.{◌≡◌, ℕ, ◌+◌, ◌<◌, Bool, true, false, cond, not, List, [], ◌∷◌, ◌++◌, length, Option, Some, None, slice_get, slice_set, refl, sym, ap, ◌∙◌, subst, arith}
use Rattle.std.specs.Option.{IfSome}
use Rattle.std.proofs.lemmas.Option.{slice_get_within}
use Rattle.nm_topology.specs.TopologyValue.{TopologyValue}
use Rattle.nm_base.specs.Count.{saturated}
use Rattle.nm_model.specs.Port.{Busy, Port, is_refused, offered}
use Rattle.nm_model.specs.Offers.{offering_at}
use Rattle.nm_model.specs.Run.{at_iface}
use Rattle.nm_model.specs.declared.offering.Offering.TheVariants.{Nothing, Waits, Dropped}
use Rattle.nm_sim.specs.declared.sending.Sending.{Sending}
use Rattle.nm_iface.specs.PortValue.{PortValue, has_room, takes, with_port}
use Rattle.nm_iface.specs.declared.port.Start.{Start}
use Rattle.nm_base.specs.Wanted.{is_wanted}
use Rattle.nm_base.specs.declared.wanted.Wanted.{Wanted}
use Rattle.nm_iface.specs.Offers.{HasCopy, IsTransmission, transmitted_packet}
use Rattle.nm_sim.specs.Network.{is_iface_here, net_of}
use Rattle.nm_sim.specs.Devices.{DeviceStates, DevicesValue, DevicesRepresent, IsPortOf}
use Rattle.nm_sim.specs.Effects.{IsCopied, Sends, TransmitsAt, transmission_at, transmission_of}
use Rattle.nm_sim.proofs.Tables.{at_there}
use Rattle.nm_sim.proofs.Represents.{same_offer, same_offering, port_after, port_turned}

pub transmission_of_at : (i : ℕ) (start : Option Start) → transmission_of (transmission_at i start) ≡ at_iface i (transmitted_packet start)
transmission_of_at i None = refl
transmission_of_at i (Some s) = refl

-- what starts has its copy where it is wanted
pub copied_at : (wanted : Wanted) (i : ℕ) (start : Option Start) → (is_wanted wanted i ≡ true → IfSome start HasCopy) → IfSome (transmission_at i start) (IsCopied wanted)
copied_at wanted i None h = tt
copied_at wanted i (Some s) h = h

-- the transmission of a port that is here
pub transmits_here : (t : TopologyValue) (states : DeviceStates) (d : DevicesValue) → DevicesRepresent t states d
    → (time i : ℕ) (w : PortValue) → slice_get d.ports i ≡ Some (Some w)
    → (o : Option Start) → IfSome o (λ z. IsTransmission w.rate w.delay time z.item.packet z) → IfSome (transmission_at i o) (TransmitsAt t states.part time)
transmits_here t states d s time i w here None h = tt
transmits_here t states d s time i w here (Some z) h =
    let p = at_there (is_iface_here t states.part) (λ j v. IsPortOf t j v (states.port j)) d.ports s.ports i w here in
    let within : i < length t.ifaces = omega (arith, s.port_count, slice_get_within d.ports i (Some w) here) in
    ((within, p.0), subst (λ (y : ℕ × ℕ). IsTransmission y.0 y.1 time z.item.packet z) (λ k. (p.1.rate k, p.1.delay k)) h)

-- a busy port without room for a packet drops it
refused_is : (w : PortValue) (x : List ℕ) (time : ℕ) → is_refused (has_room w.limit) x w.busy ≡ true
    → (with_port w (offered (has_room w.limit) (takes w.rate) time x w.dropped w.busy).0 w.room ≡ record w { dropped = saturated (w.dropped + 1) })
    × (None ≡ (offered (has_room w.limit) (takes w.rate) time x w.dropped w.busy).1)
refused_is w x time refused = go w.busy refl refused
  where
    go : (o : Option (Busy (List ℕ))) → w.busy ≡ o → is_refused (has_room w.limit) x o ≡ true
        → (with_port w (offered (has_room w.limit) (takes w.rate) time x w.dropped o).0 w.room ≡ record w { dropped = saturated (w.dropped + 1) })
        × (None ≡ (offered (has_room w.limit) (takes w.rate) time x w.dropped o).1)
    go None e r = cc
    go (Some b) e r = full (has_room w.limit b.waiting x) r
      where
        full : (q : Bool) → not q ≡ true
            → (with_port w (cond {A = Port (List ℕ) × Option (List ℕ)} q (record { busy = Some (record { completes = b.completes; waiting = b.waiting ++ x ∷ [] }); dropped = w.dropped }, None)
            (record { busy = Some b; dropped = w.dropped + 1 }, None)).0 w.room ≡ record w { dropped = saturated (w.dropped + 1) })
            × (None ≡ (cond {A = Port (List ℕ) × Option (List ℕ)} q (record { busy = Some (record { completes = b.completes; waiting = b.waiting ++ x ∷ [] }); dropped = w.dropped }, None)
            (record { busy = Some b; dropped = w.dropped + 1 }, None)).1)
        full true r = cc
        full false r = (λ k. record w { busy = sym e k; dropped = saturated (w.dropped + 1) }, refl)

refused_offering : (i : ℕ) (w : PortValue) (x : List ℕ) → is_refused (has_room w.limit) x w.busy ≡ true → Dropped i ≡ offering_at (has_room w.limit) i x w.busy
refused_offering i w x refused = go w.busy refused
  where
    go : (o : Option (Busy (List ℕ))) → is_refused (has_room w.limit) x o ≡ true → Dropped i ≡ offering_at (has_room w.limit) i x o
    go None r = cc
    go (Some b) r = full (has_room w.limit b.waiting x) r
      where
        full : (q : Bool) → not q ≡ true → Dropped i ≡ cond q (Waits i) (Dropped i)
        full true r = cc
        full false r = refl

module _ (t : TopologyValue) (states : DeviceStates) (d e : DevicesValue) (s : DevicesRepresent t states d) (time : ℕ) where
  -- nothing is sent
  pub sends_nothing : e ≡ d → Sends t states time None e (record { offering = Nothing; start = None })
  sends_nothing same = record {
    represented = λ n came follows. subst (λ z. DevicesRepresent t states z) (sym same) s;
    transmission = λ n came follows. refl;
    transmits = tt;
    offered = refl;
  }

  module _ (i : ℕ) (x : List ℕ) (w : PortValue) (room : ℕ) (start : Option Start) (here : slice_get d.ports i ≡ Some (Some w)) where
    own_packet : (o : Option Start) → IfSome o (IsTransmission w.rate w.delay time x) → IfSome o (λ z. IsTransmission w.rate w.delay time z.item.packet z)
    own_packet None h = tt
    own_packet (Some z) h = subst (λ y. IsTransmission w.rate w.delay time y z) (sym h.packet) h

    pub sends_by : e.nodes ≡ d.nodes
        → e.ports ≡ slice_set d.ports i (Some (with_port w (offered (has_room w.limit) (takes w.rate) time x w.dropped w.busy).0 room))
        → e.sources ≡ d.sources
        → transmitted_packet start ≡ (offered (has_room w.limit) (takes w.rate) time x w.dropped w.busy).1
        → IfSome start (IsTransmission w.rate w.delay time x)
        → (sending : Sending) → sending.start ≡ transmission_at i start → sending.offering ≡ offering_at (has_room w.limit) i x w.busy
        → Sends t states time (Some (i, x)) e sending
    sends_by nodes ports sources packet transmits sending starts becomes =
        let p = at_there (is_iface_here t states.part) (λ j v. IsPortOf t j v (states.port j)) d.ports s.ports i w here in
        let same = same_offer t i w (states.port i) p.1 time x in
        let after = port_after t i w (states.port i) p.1 time (offered (has_room w.limit) (takes w.rate) time x w.dropped w.busy)
        (offered ((net_of t).room i) ((net_of t).tx i) time x (states.port i).dropped (states.port i).busy) room same in
        record {
          represented = λ n came follows. port_turned t states d e s i _ _ nodes ports sources p.0 after;
          transmission = λ n came follows. ap transmission_of starts ∙ transmission_of_at i start ∙ ap (at_iface i) (packet ∙ same.2);
          transmits = subst (λ z. IfSome z (TransmitsAt t states.part time)) (sym starts) (transmits_here t states d s time i w here start (own_packet start transmits));
          offered = becomes ∙ same_offering t i w (states.port i) p.1 time x;
        }

  -- it is dropped
  pub drops_by : (i : ℕ) (x : List ℕ) (w : PortValue) → slice_get d.ports i ≡ Some (Some w)
      → is_refused (has_room w.limit) x w.busy ≡ true → e.nodes ≡ d.nodes
      → e.ports ≡ slice_set d.ports i (Some (record w { dropped = saturated (w.dropped + 1) }))
      → e.sources ≡ d.sources → Sends t states time (Some (i, x)) e (record { offering = Dropped i; start = None })
  drops_by i x w here refused nodes ports sources =
      let is = refused_is w x time refused in
      sends_by i x w w.room None here nodes (ports ∙ ap (λ v. slice_set d.ports i (Some v)) (sym is.0)) sources is.1 tt (record { offering = Dropped i; start = None }) refl (refused_offering i w x refused)
