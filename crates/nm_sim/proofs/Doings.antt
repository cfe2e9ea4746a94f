-- An event is done: its node reacts, and what it sends is offered to a port; or a transmission is complete.
use Rattle.std.proofs.Common.{◌≡◌, ℕ, suc, List, Option, Some, None, slice_get, slice_set, refl, sym, ap, ◌∙◌, subst}
use Rattle.std.specs.Option.{IfSome}
use Rattle.nm_base.specs.declared.key.Place.{Place}
use Rattle.nm_base.specs.declared.key.Place.TheVariants.{Fire}
use Rattle.nm_base.specs.declared.event.Event.{Event}
use Rattle.nm_base.specs.declared.event.Event.TheVariants.{Delivery, Completion}
use Rattle.nm_base.specs.declared.event.Origin.{Origin}
use Rattle.nm_base.specs.declared.event.Origin.TheVariants.{Arrival, Source}
use Rattle.nm_base.specs.Event.{event_place}
use Rattle.nm_topology.specs.TopologyValue.{TopologyValue}
use Rattle.nm_model.specs.Lists.{set_at}
use Rattle.nm_model.specs.Network.{Net}
use Rattle.nm_model.specs.Port.{Port, completed}
use Rattle.nm_model.specs.Run.{Effect, at_iface, by_source, effect, keyed, sent_on, turned}
use Rattle.nm_forward.specs.State.{NodeStateValue}
use Rattle.nm_forward.specs.Reaction.{reaction}
use Rattle.nm_iface.specs.declared.port.Start.{Start}
use Rattle.nm_traffic.specs.Source.{source_at}
use Rattle.nm_sim.specs.Network.{is_iface_here, net_of}
use Rattle.nm_sim.specs.Devices.{DeviceStates, DevicesValue, DevicesRepresent, IsPortOf}
use Rattle.nm_sim.specs.Effects.{IsBusy, Does, Done, IsEffect, Reacts, Sends, TransmitsAt, states_reacted, transmission_at, transmission_of}
use Rattle.nm_iface.specs.PortValue.{PortValue, takes, with_port}
use Rattle.nm_iface.specs.Offers.{IsTransmission, transmitted_packet}
use Rattle.nm_sim.proofs.Sendings.{transmission_of_at, transmits_here}
use Rattle.nm_sim.specs.declared.sending.Sending.{Sending}
use Rattle.nm_sim.specs.Tables.{IsMember}
use Rattle.nm_sim.proofs.Tables.{at_there}
use Rattle.nm_sim.proofs.Represents.{port_after, port_turned, same_done, set_same}

module _ (net : Net (List ℕ) NodeStateValue) (ports : ℕ → Port (List ℕ)) (time : ℕ) (came : Option (ℕ × List ℕ)) (n : NodeStateValue) (follows : Option (ℕ × ℕ × List ℕ)) where
  after_is : (sent : Option (ℕ × List ℕ)) → (sent_on net ports time came n sent follows).after ≡ n
  after_is None = refl
  after_is (Some s) = refl

  came_is : (sent : Option (ℕ × List ℕ)) → (sent_on net ports time came n sent follows).came ≡ came
  came_is None = refl
  came_is (Some s) = refl

  pub follows_is : (sent : Option (ℕ × List ℕ)) → (sent_on net ports time came n sent follows).follows ≡ follows
  follows_is None = refl
  follows_is (Some s) = refl

-- what holds of the place of an event holds of the source whose packet follows
pub follows_at : (net : Net (List ℕ) NodeStateValue) (nodes : ℕ → NodeStateValue) (ports : ℕ → Port (List ℕ)) (time number : ℕ) (P : Place → Type 0) (e : Event (List ℕ))
    → P (event_place e) → IfSome (effect net nodes ports time number e).follows (λ f. P (Fire f.0))
follows_at net nodes ports time number P (Delivery (Arrival i) x) p =
    let r = net.react (net.owner i) (nodes (net.owner i)) (Arrival i) x in
    subst (λ o. IfSome o (λ f. P (Fire f.0))) (sym (follows_is net ports time (Some (i, x)) r.0 None r.1)) tt
follows_at net nodes ports time number P (Delivery (Source j) x) p =
    let r = net.react (net.source_node j) (nodes (net.source_node j)) (Source j) x in
    subst (λ o. IfSome o (λ f. P (Fire f.0))) (sym (follows_is net ports time None r.0 (by_source j (net.source j (suc number))) r.1)) (go (net.source j (suc number)))
  where
    go : (o : Option (ℕ × List ℕ)) → IfSome (by_source j o) (λ f. P (Fire f.0))
    go None = tt
    go (Some f) = p
follows_at net nodes ports time number P (Completion i) p = tt

module _ (t : TopologyValue) (states : DeviceStates) (time v : ℕ) (o : Origin) (x : List ℕ) (d e : DevicesValue)
    (sent : Option (ℕ × List ℕ)) (sending : Sending) (r : Reacts t states v (o, x) d sent)
    (s : Sends t (states_reacted t states v (o, x)) time sent e sending) (came : Option (ℕ × List ℕ)) (follows : Option (ℕ × ℕ × List ℕ)) where
  abbrev effect_is : Effect (List ℕ) NodeStateValue
  effect_is = sent_on (net_of t) states.port time came (reaction t v (states.node v) o x).0 (reaction t v (states.node v) o x).1 follows

  reacted_stand : DevicesRepresent t (record states { node = set_at states.node v effect_is.after; port = turned states.port effect_is.turn }) e
  reacted_stand =
      let a = after_is (net_of t) states.port time came (reaction t v (states.node v) o x).0 follows (reaction t v (states.node v) o x).1 in
      subst (λ n. DevicesRepresent t (record states { node = set_at states.node v n; port = turned states.port effect_is.turn }) e) (sym a)
      (subst (λ z. DevicesRepresent t (record states { node = set_at states.node v (reaction t v (states.node v) o x).0; port = turned states.port (sent_on (net_of t) states.port time came (reaction t v (states.node v) o x).0 z follows).turn }) e)
      r.sends (s.represented (reaction t v (states.node v) o x).0 came follows))

  reacted_does : (done : Done) → done.came ≡ came → done.transmission ≡ sending.start → done.follows ≡ follows → IsEffect t states.part time done effect_is
  reacted_does done a b c = record {
    came = a ∙ sym (came_is (net_of t) states.port time came (reaction t v (states.node v) o x).0 follows (reaction t v (states.node v) o x).1);
    transmission = ap transmission_of b ∙ s.transmission (reaction t v (states.node v) o x).0 came follows
        ∙ ap (λ z. (sent_on (net_of t) states.port time came (reaction t v (states.node v) o x).0 z follows).transmission) r.sends;
    transmits = subst (λ z. IfSome z (TransmitsAt t states.part time)) (sym b) s.transmits;
    follows = c ∙ sym (follows_is (net_of t) states.port time came (reaction t v (states.node v) o x).0 follows (reaction t v (states.node v) o x).1);
  }

-- a packet arrived at interface i of node v
pub arrives_by : (t : TopologyValue) (states : DeviceStates) (time v i number : ℕ) (x : List ℕ) (d e : DevicesValue)
    (sent : Option (ℕ × List ℕ)) (sending : Sending) (done : Done) → (net_of t).owner i ≡ v
    → Reacts t states v (Arrival i, x) d sent → Sends t (states_reacted t states v (Arrival i, x)) time sent e sending
    → done.came ≡ Some (i, x) → done.transmission ≡ sending.start → done.follows ≡ None → Does t states (keyed time number (Delivery (Arrival i) x)) e done
unfolding net_of
arrives_by t states time v i number x d e sent sending done owner r s a b c =
    subst (λ w. Reacts t states w (Arrival i, x) d sent → Sends t (states_reacted t states w (Arrival i, x)) time sent e sending
    → Does t states (keyed time number (Delivery (Arrival i) x)) e done) owner
    (λ r' s'. record {
      represented = reacted_stand t states time ((net_of t).owner i) (Arrival i) x d e sent sending r' s' (Some (i, x)) None;
      does = reacted_does t states time ((net_of t).owner i) (Arrival i) x d e sent sending r' s' (Some (i, x)) None done a b c;
    }) r s

-- source j of node v handed a packet over
pub fires_by : (t : TopologyValue) (states : DeviceStates) (time v j number : ℕ) (x : List ℕ) (d e : DevicesValue)
    (sent : Option (ℕ × List ℕ)) (sending : Sending) (done : Done) → (net_of t).source_node j ≡ v
    → Reacts t states v (Source j, x) d sent → Sends t (states_reacted t states v (Source j, x)) time sent e sending
    → done.came ≡ None → done.transmission ≡ sending.start → done.follows ≡ by_source j (source_at t j (suc number)) → Does t states (keyed time number (Delivery (Source j) x)) e done
unfolding net_of
fires_by t states time v j number x d e sent sending done owner r s a b c =
    subst (λ w. Reacts t states w (Source j, x) d sent → Sends t (states_reacted t states w (Source j, x)) time sent e sending
    → Does t states (keyed time number (Delivery (Source j) x)) e done) owner
    (λ r' s'. record {
      represented = reacted_stand t states time ((net_of t).source_node j) (Source j) x d e sent sending r' s' None (by_source j (source_at t j (suc number)));
      does = reacted_does t states time ((net_of t).source_node j) (Source j) x d e sent sending r' s' None (by_source j (source_at t j (suc number))) done a b c;
    }) r s

-- a port that transmits is there
pub busy_member : (o : Option (Option PortValue)) → IsBusy o → IsMember o
busy_member None h = absurd h
busy_member (Some None) h = absurd h
busy_member (Some (Some w)) h = tt

-- a transmission of interface i is complete
module _ (t : TopologyValue) (states : DeviceStates) (d e : DevicesValue) (s : DevicesRepresent t states d) (time i number : ℕ)
    (w : PortValue) (room : ℕ) (start : Option Start) (here : slice_get d.ports i ≡ Some (Some w)) where
  abbrev turned_port : ℕ → Port (List ℕ)
  turned_port = set_at states.port i (completed ((net_of t).tx i) time (states.port i).dropped (states.port i).busy).0

  same_node : DevicesRepresent t (record states { port = turned_port }) e
      → DevicesRepresent t (record states { node = set_at states.node ((net_of t).owner i) (states.node ((net_of t).owner i)); port = turned_port }) e
  same_node z = subst (λ f. DevicesRepresent t (record states { node = f; port = turned_port }) e) (sym (λ k v. set_same states.node ((net_of t).owner i) v k)) z

  pub completes_by : e.nodes ≡ d.nodes → e.ports ≡ slice_set d.ports i (Some (with_port w (completed (takes w.rate) time w.dropped w.busy).0 room)) → e.sources ≡ d.sources
      → transmitted_packet start ≡ (completed (takes w.rate) time w.dropped w.busy).1
      → IfSome start (λ z. IsTransmission w.rate w.delay time z.item.packet z)
      → (done : Done) → done.came ≡ None → done.transmission ≡ transmission_at i start → done.follows ≡ None
      → Does t states (keyed time number (Completion i)) e done
  completes_by nodes ports sources packet transmits done a b c =
      let p = at_there (is_iface_here t states.part) (λ j v. IsPortOf t j v (states.port j)) d.ports s.ports i w here in
      let same = same_done t i w (states.port i) p.1 time in
      let after = port_after t i w (states.port i) p.1 time (completed (takes w.rate) time w.dropped w.busy) (completed ((net_of t).tx i) time (states.port i).dropped (states.port i).busy) room same in
      record {
        represented = same_node (port_turned t states d e s i _ _ nodes ports sources p.0 after);
        does = record {
          came = a;
          transmission = ap transmission_of b ∙ transmission_of_at i start ∙ ap (at_iface i) (packet ∙ same.2);
          transmits = subst (λ z. IfSome z (TransmitsAt t states.part time)) (sym b) (transmits_here t states d s time i w here start transmits);
          follows = c;
        };
      }
