-- What the end of a transmission does to the tags of packets.
use Rattle.std.proofs.Common.{◌⊎◌, inl, inr, append-nil, ◌≡◌, ℕ, suc, ◌≤◌, true, List, [], ◌∷◌, ◌++◌, map, length, Option, Some, None, refl, sym, ap, ◌∙◌}
use Rattle.std.proofs.lemmas.List.{map-append}
use Rattle.std.specs.Option.{option_map}
use Rattle.nm_base.specs.declared.record.Dir.TheVariants.{Out}
use Rattle.nm_base.specs.declared.event.Event.{Event}
use Rattle.nm_base.specs.declared.event.Event.TheVariants.{Completion}
use Rattle.nm_base.specs.declared.key.Place.TheVariants.{Complete}
use Rattle.nm_events.specs.Held.{Held}
use Rattle.nm_forward.specs.State.{NodeStateValue}
use Rattle.nm_model.specs.EventList.{least}
use Rattle.std.specs.FinMap.{get}
use Rattle.nm_model.specs.Lists.{set_at}
use Rattle.nm_model.specs.Orderly.{IsOrderly}
use Rattle.nm_model.specs.Network.{IsNet}
use Rattle.nm_model.specs.Port.{Busy, completed, waiting_of}
use Rattle.nm_model.specs.Run.{Effect, State, arrived_after, effect, in_record, one_list, out_record, at_iface, sent_after, turned, turned_by}
use Rattle.nm_model.specs.Tags.{IsUntagged, untagged_busy, untagged_event}
use Rattle.nm_model.proofs.Keys.{key_at, least_has}
use Rattle.nm_model.proofs.Untagging.{tagged_first}
use Rattle.nm_topology.specs.TopologyValue.{TopologyValue}
use Rattle.nm_sim.specs.Network.{net_of}
use Rattle.nm_sim.specs.Part.{PartValue}
use Rattle.nm_sim.specs.Told.{started_octets}
use Rattle.nm_sim.specs.declared.told.Started.{Started}
use Rattle.nm_sim.specs.declared.told.Happened.{Happened}
use Rattle.nm_measure.specs.declared.tag.Tag.{Tag}
use Rattle.nm_measure.specs.Courses.{pass_of, passes_in}
use Rattle.nm_measure.specs.Interfaces.{IsNext}
use Rattle.nm_measure.specs.Lanes.{lanes_in}
use Rattle.nm_measure.specs.Ways.{ends_at, ends_in, ends_next, tagged_list, tagged_net}
use Rattle.nm_measure.proofs.Tagged.{lanes_of, lanes_started, lanes_turned, set_as}
use Rattle.nm_measure.proofs.Turns.{next_records, next_state}
use Rattle.nm_measure.proofs.Following.{few_arrived}

-- at the end of a transmission: what waited longest starts, if something did
pub record CompletionStep (t : TopologyValue) (n now i : ℕ) (h : Happened) : Type 0 where
  pub is : ((h.started ≡ None) × ((k : ℕ) → lanes_in t (tagged_list t n) k ≡ lanes_in t (tagged_list t (suc n)) k) × (passes_in t n ≡ passes_in t (suc n)))
      ⊎ ((z : Started) × (h.started ≡ Some z) × (z.iface ≡ i) × (tag : Tag) × (waits : List Tag) × ((lanes_in t (tagged_list t n) i).1 ≡ tag ∷ waits)
      × ((k : ℕ) → set_at (lanes_in t (tagged_list t n)) i ((lanes_in t (tagged_list t n) i).0 ++ tag ∷ [], waits) k ≡ lanes_in t (tagged_list t (suc n)) k)
      × (passes_in t n ++ (tag, record { iface = i; dir = Out; time = now }) ∷ [] ≡ passes_in t (suc n)))
  pub ends : ends_in t n ≡ ends_in t (suc n)

module _ (t : TopologyValue) (n : ℕ) (kept : IsUntagged (tagged_list t n) (one_list (net_of t) n)) (is_net : IsNet (tagged_net t)) (orderly : IsOrderly (tagged_net t) (λ q. true) (tagged_list t n))
    (now i : ℕ) (p : PartValue Held) (h : Happened) (next : IsNext t n now (Complete i) p h) where
  abbrev state : State (Tag × List ℕ) NodeStateValue
  state = tagged_list t n

  there : (f : Event (Tag × List ℕ)) × (least (tagged_list t n).pending ≡ Some (next.event.0, f)) × (next.event.1 ≡ untagged_event f)
  there = tagged_first state.pending (one_list (net_of t) n).pending kept.pending next.event next.first

  completes : (b : Busy (Tag × List ℕ)) × (there.0 ≡ Completion i) × ((state.port i).busy ≡ Some b)
  completes =
      let z = orderly.completion i next.event.0.time next.event.0.number there.0 (ap (get state.pending) (sym (key_at next.event.0 (Complete i) next.at_place)) ∙ least_has state.pending (next.event.0, there.0) there.1) in
      (z.0, z.1, z.2)

  abbrev with_busy : Option (Busy (Tag × List ℕ)) → Effect (Tag × List ℕ) NodeStateValue
  with_busy o = turned_by (tagged_net t) None (state.node ((net_of t).owner i)) i (completed ((tagged_net t).tx i) next.event.0.time (state.port i).dropped o) None

  low : (c : ℕ) → state.arrived c ≤ length (state.sent c)
  low = few_arrived (tagged_net t) is_net n

  after : (o : Option (Busy (Tag × List ℕ))) → (state.port i).busy ≡ o → (k : ℕ) → lanes_in t (tagged_list t (suc n)) k
      ≡ lanes_of (tagged_net t) (turned state.port (with_busy o).turn) (sent_after (tagged_net t) next.event.0.time state.sent (with_busy o).transmission) state.arrived k
  after o is k =
      ap (λ z. lanes_in t z k) (next_state (tagged_net t) n (next.event.0, there.0) there.1)
      ∙ ap (λ f. lanes_of (tagged_net t) (turned state.port (effect (tagged_net t) state.node state.port next.event.0.time next.event.0.number f).turn)
      (sent_after (tagged_net t) next.event.0.time state.sent (effect (tagged_net t) state.node state.port next.event.0.time next.event.0.number f).transmission)
      (arrived_after state.arrived (effect (tagged_net t) state.node state.port next.event.0.time next.event.0.number f).came) k) completes.1
      ∙ ap (λ b. lanes_of (tagged_net t) (turned state.port (with_busy b).turn) (sent_after (tagged_net t) next.event.0.time state.sent (with_busy b).transmission) state.arrived k) is

  started : (o : Option (Busy (Tag × List ℕ))) → (state.port i).busy ≡ o
      → h.started ≡ started_octets (at_iface i (completed ((net_of t).tx i) next.event.0.time (state.port i).dropped (option_map untagged_busy o)).1)
  started o is = next.happened.started
      ∙ (λ j. started_octets (effect (net_of t) (kept.nodes j) (kept.ports j) next.event.0.time next.event.0.number ((there.2 ∙ ap untagged_event completes.1) j)).transmission)
      ∙ ap (λ b. started_octets (at_iface i (completed ((net_of t).tx i) next.event.0.time (state.port i).dropped (option_map untagged_busy b)).1)) is

  abbrev Step : Type 0
  Step = ((h.started ≡ None) × ((k : ℕ) → lanes_in t (tagged_list t n) k ≡ lanes_in t (tagged_list t (suc n)) k) × (passes_in t n ≡ passes_in t (suc n)))
      ⊎ ((z : Started) × (h.started ≡ Some z) × (z.iface ≡ i) × (tag : Tag) × (waits : List Tag) × ((lanes_in t (tagged_list t n) i).1 ≡ tag ∷ waits)
      × ((k : ℕ) → set_at (lanes_in t (tagged_list t n)) i ((lanes_in t (tagged_list t n) i).0 ++ tag ∷ [], waits) k ≡ lanes_in t (tagged_list t (suc n)) k)
      × (passes_in t n ++ (tag, record { iface = i; dir = Out; time = now }) ∷ [] ≡ passes_in t (suc n)))

  passes_are : (o : Option (Busy (Tag × List ℕ))) → (state.port i).busy ≡ o → passes_in t (suc n) ≡ passes_in t n ++ map pass_of (out_record now (with_busy o).transmission)
  passes_are o is =
      ap (map pass_of) (next_records (tagged_net t) n (next.event.0, there.0) there.1)
      ∙ map-append pass_of state.records _
      ∙ ap (λ f. passes_in t n ++ map pass_of (in_record next.event.0.time (effect (tagged_net t) state.node state.port next.event.0.time next.event.0.number f).came
      ++ out_record next.event.0.time (effect (tagged_net t) state.node state.port next.event.0.time next.event.0.number f).transmission)) completes.1
      ∙ (λ j. passes_in t n ++ map pass_of (out_record (next.at_time j) (with_busy (is j)).transmission))

  pub completion_step : CompletionStep t n now i h
  completion_step = record {
    is = go completes.0.waiting (completes.2 ∙ refl);
    ends = sym (append-nil (ends_in t n)) ∙ sym (ap (λ o. ends_in t n ++ ends_next t state o) there.1 ∙ ap (λ f. ends_in t n ++ ends_at t state next.event.0.time f) completes.1);
  }
    where
      waits_are : (o : Option (Busy (Tag × List ℕ))) → (state.port i).busy ≡ o → (lanes_in t (tagged_list t n) i).1 ≡ map (λ x. x.0) (waiting_of o)
      waits_are o is = ap (λ b. map (λ (x : Tag × List ℕ). x.0) (waiting_of b)) is

      go : (waits : List (Tag × List ℕ)) → (state.port i).busy ≡ Some (record { completes = completes.0.completes; waiting = waits }) → Step
      go [] is = inl (
        started (Some (record { completes = completes.0.completes; waiting = [] })) is,
        λ k. sym (after (Some (record { completes = completes.0.completes; waiting = [] })) is k
            ∙ lanes_turned (tagged_net t) is_net state.port state.sent state.arrived low i (record { busy = None; dropped = (state.port i).dropped }) k
            ∙ set_as (tagged_net t) is_net state.port state.sent state.arrived low (lanes_in t (tagged_list t n)) i ((lanes_in t (tagged_list t n) i).0, [])
            (ap (λ l. ((lanes_in t (tagged_list t n) i).0, l)) (sym (waits_are (Some (record { completes = completes.0.completes; waiting = [] })) is))) k),
        sym (passes_are (Some (record { completes = completes.0.completes; waiting = [] })) is ∙ append-nil (passes_in t n)),
      )
      go (x ∷ waits) is = inr (
        record { iface = i; octets = length x.1 },
        started (Some (record { completes = completes.0.completes; waiting = x ∷ waits })) is,
        refl,
        x.0,
        map (λ z. z.0) waits,
        waits_are (Some (record { completes = completes.0.completes; waiting = x ∷ waits })) is,
        λ k. sym (after (Some (record { completes = completes.0.completes; waiting = x ∷ waits })) is k
            ∙ lanes_started (tagged_net t) is_net state.port state.sent state.arrived low i _ _ x k),
        sym (passes_are (Some (record { completes = completes.0.completes; waiting = x ∷ waits })) is),
      )
