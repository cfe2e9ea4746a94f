-- Which queue an event may change.
use Rattle.std.proofs.Common.{◌≡◌, ◌≢◌, ℕ, suc, true, List, Option, Some, None, refl, sym, ap, ◌∙◌, ⊎_elim}
use Rattle.std.specs.Option.{option_map}
use Rattle.nm_base.specs.declared.event.Event.{Event}
use Rattle.nm_base.specs.declared.event.Event.TheVariants.{Delivery, Completion}
use Rattle.nm_base.specs.declared.event.Origin.{Origin}
use Rattle.nm_base.specs.declared.event.Origin.TheVariants.{Arrival, Source}
use Rattle.nm_base.specs.declared.key.Key.{Key}
use Rattle.nm_base.specs.declared.key.Place.{Place}
use Rattle.nm_base.specs.Event.{event_place}
use Rattle.nm_events.specs.Held.{Held}
use Rattle.nm_model.specs.EventList.{least}
use Rattle.nm_model.specs.Network.{Net}
use Rattle.nm_model.specs.Orderly.{IsOrderly}
use Rattle.nm_model.specs.Run.{at_iface, effect, one_list}
use Rattle.nm_model.proofs.Keys.{least_has}
use Rattle.nm_model.proofs.ListLemmas.{same_number}
use Rattle.nm_model.proofs.Placed.{placed_of}
use Rattle.nm_topology.specs.TopologyValue.{TopologyValue}
use Rattle.nm_sim.specs.Network.{net_of}
use Rattle.nm_sim.specs.Part.{PartValue}
use Rattle.nm_sim.specs.Told.{started_octets}
use Rattle.nm_sim.specs.declared.told.Happened.{Happened}
use Rattle.nm_measure.specs.Interfaces.{IsNext, IsTurn, queue_turned, queued_at, waits_at}
use Rattle.nm_measure.proofs.Turns.{port_beside_completed, queue_completed, queue_delivered}

-- an event happens at the place of its key
event_at : {P N : Type 0} (net : Net P N) (n : ℕ) (e : Key × Event P) → least (one_list net n).pending ≡ Some e → IsOrderly net (λ q. true) (one_list net n)
    → (q : Place) → e.0.place ≡ q → event_place e.1 ≡ q
event_at net n e first orderly q at = sym (placed_of net (λ q. true) (one_list net n) orderly e.0 e.1 (least_has (one_list net n).pending e first)) ∙ at

-- at the place of a delivery
by_offer : (o : Origin) (x : List ℕ) (what : Happened) → queue_turned (event_place (Delivery o x)) what ≡ queued_at what.offering
by_offer (Arrival i) x what = refl
by_offer (Source j) x what = refl

-- what a completion starts, it starts at its interface
start_at : (a : ℕ) (o : Option (List ℕ)) → option_map (λ s. s.iface) (started_octets (at_iface a o)) ≢ Some a → at_iface a o ≡ None
start_at a None other = refl
start_at a (Some x) other = absurd (other refl)

module _ (t : TopologyValue) (n now : ℕ) (place : Place) (p : PartValue Held) (what : Happened) (orderly : IsOrderly (net_of t) (λ q. true) (one_list (net_of t) n)) (next : IsNext t n now place p what) where
  at : event_place next.event.1 ≡ place
  at = event_at (net_of t) n next.event next.first orderly place next.at_place

  pub turn_told : IsTurn t n (queue_turned place what)
  turn_told i within other = go next.event.1 refl
    where
      go : (f : Event (List ℕ)) → next.event.1 ≡ f → waits_at ((one_list (net_of t) (suc n)).port i) ≡ waits_at ((one_list (net_of t) n).port i)
      go (Completion a) is = ⊎_elim
          (λ same. ap (λ j. waits_at ((one_list (net_of t) (suc n)).port j)) same ∙ queue_completed (net_of t) n next.event next.first a is (none same)
          ∙ ap (λ j. waits_at ((one_list (net_of t) n).port j)) (sym same))
          (λ apart. ap waits_at (port_beside_completed (net_of t) n next.event next.first a is i apart))
          (same_number i a)
        where
          effect_of : Event (List ℕ) → Option (ℕ × List ℕ)
          effect_of f = (effect (net_of t) (one_list (net_of t) n).node (one_list (net_of t) n).port next.event.0.time next.event.0.number f).transmission

          none : i ≡ a → effect_of next.event.1 ≡ None
          none same = ap effect_of is ∙ start_at a _ (λ h. other
              (ap (λ q. queue_turned q what) (sym at ∙ ap event_place is)
              ∙ ap (option_map (λ s. s.iface)) (next.happened.started ∙ ap (λ f. started_octets (effect_of f)) is) ∙ h ∙ ap Some (sym same)))
      go (Delivery o x) is = queue_delivered (net_of t) n next.event next.first o x is i
          (λ h. other (ap (λ q. queue_turned q what) (sym at ∙ ap event_place is) ∙ by_offer o x what ∙ ap queued_at next.happened.offering ∙ h))
