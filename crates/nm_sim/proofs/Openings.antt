-- The start of a run: the first packets of the sources.
use Rattle.std.proofs.Common.{◌≡◌, ℕ, zero, suc, ◌<◌, Bool, true, false, cond, List, [], length, replicate, Option, Some, None, slice_index, refl, sym, ap, ◌∙◌, subst, arith}
use Rattle.std.proofs.lemmas.List.{length-replicate}
use Rattle.std.specs.FinMap.{FinMap, empty, get, get-empty, insert}
use Rattle.nm_base.specs.declared.event.Event.{Event}
use Rattle.nm_base.specs.declared.key.Key.{Key}
use Rattle.nm_base.specs.declared.key.Place.{Place}
use Rattle.nm_base.specs.declared.key.Place.TheVariants.{Arrive, Complete, Fire}
use Rattle.nm_base.specs.declared.event.Event.TheVariants.{Delivery}
use Rattle.nm_base.specs.declared.event.Origin.TheVariants.{Source}
use Rattle.nm_base.specs.Key.{key_cmp, key_of}
use Rattle.nm_topology.specs.TopologyValue.{TopologyValue}
use Rattle.nm_model.specs.EventList.{schedule}
use Rattle.nm_model.specs.Lists.{nth}
use Rattle.nm_model.specs.Orderly.{IsByNode, IsOrderly}
use Rattle.nm_model.specs.Port.{idle_port}
use Rattle.nm_model.specs.Run.{first_event, source_events, start}
use Rattle.nm_forward.specs.State.{first_state}
use Rattle.nm_traffic.specs.Source.{source_at}
use Rattle.nm_sim.specs.Devices.{DevicesRepresent}
use Rattle.nm_sim.specs.Effects.{IsPlaceIn}
use Rattle.nm_sim.specs.Network.{first_here, here_of, is_node_here, net_of}
use Rattle.nm_sim.specs.Outgoing.{channel_count}
use Rattle.nm_sim.specs.Records.{RecordsRepresent}
use Rattle.nm_sim.specs.Tables.{AllAt}
use Rattle.nm_sim.specs.Part.{PartValue, Represents}
use Rattle.nm_sim.specs.Timelines.{AreFresh, everywhere}
use Rattle.nm_model.proofs.ListLemmas.{some_inj}
use Rattle.nm_sim.proofs.Outgoings.{outgoing_first}
use Rattle.nm_sim.proofs.Schedules.{placed_schedule, schedule_append}

zeros : (n c : ℕ) → slice_index (replicate n 0) c ≡ 0
zeros zero c = refl
zeros (suc n) zero = refl
zeros (suc n) (suc c) = zeros n c

-- sources with lesser numbers
abbrev IsBelow : ℕ → Place → Type 0
IsBelow n (Arrive i) = ⊥
IsBelow n (Complete i) = ⊥
IsBelow n (Fire j) = j < n

below_more : (n : ℕ) (p : Place) → IsBelow n p → IsBelow (suc n) p
below_more n (Arrive i) h = h
below_more n (Complete i) h = h
below_more n (Fire j) h = omega arith

-- the first packet of a source that is here
first_scheduled : (here : Place → Bool) (j : ℕ) (o : Option (ℕ × List ℕ)) (m : FinMap key_cmp (Event (List ℕ)))
    → schedule everywhere (first_event j (cond (here (Fire j)) o None)) m ≡ schedule here (first_event j o) m
first_scheduled here j None m = go (here (Fire j))
  where
    go : (b : Bool) → schedule everywhere (first_event j (cond b None None)) m ≡ m
    go true = refl
    go false = refl
first_scheduled here j (Some f) m = go (here (Fire j))
  where
    go : (b : Bool) → schedule everywhere (first_event j (cond b (Some f) None)) m ≡ cond b (insert m (key_of f.0 (Fire j) 0) (Delivery (Source j) f.1)) m
    go true = refl
    go false = refl

module _ (t : TopologyValue) (part : Option ℕ) where
  first_below : (j : ℕ) (o : Option (ℕ × List ℕ)) (i : ℕ) (f : Key × Event (List ℕ)) → nth (first_event j o) i ≡ Some f → IsBelow (suc j) f.0.place
  first_below j None i f e = absurd cc
  first_below j (Some z) zero f e = let s : Fire j ≡ f.0.place = ap (λ (g : Key × Event (List ℕ)). g.0.place) (some_inj _ f e) in subst (IsBelow (suc j)) s (omega arith)
  first_below j (Some z) (suc i) f e = absurd cc

  events_below : (n : ℕ) (q : Key) (y : Event (List ℕ)) → get (schedule (here_of t part) (source_events (net_of t) n) empty) q ≡ Some y → IsBelow n q.place
  events_below zero q y e = absurd (let n = get-empty {X = Event (List ℕ)} key_cmp q in cc)
  events_below (suc j) q y e =
      placed_schedule (IsBelow (suc j)) (here_of t part) (first_event j ((net_of t).source j 0)) (schedule (here_of t part) (source_events (net_of t) j) empty)
      (first_below j ((net_of t).source j 0)) (λ r z f. below_more j r.place (events_below j r z f)) q y
      (sym (ap (λ m. get m q) (schedule_append (here_of t part) (first_event j ((net_of t).source j 0)) (source_events (net_of t) j) empty)) ∙ e)

  -- a source's first packet has a new key
  pub opens_fresh : (n : ℕ) (o : Option (ℕ × List ℕ)) → AreFresh (schedule (here_of t part) (source_events (net_of t) n) empty) (first_event n o)
  opens_fresh n None m f e = absurd cc
  opens_fresh n (Some z) zero f e = go (get (schedule (here_of t part) (source_events (net_of t) n) empty) f.0) refl
    where
      go : (r : Option (Event (List ℕ))) → get (schedule (here_of t part) (source_events (net_of t) n) empty) f.0 ≡ r → r ≡ None
      go None h = refl
      go (Some y) h = absurd (let s : f.0.place ≡ Fire n = sym (ap (λ (g : Key × Event (List ℕ)). g.0.place) (some_inj _ f e)) in
          let b : n < n = subst (IsBelow n) s (events_below n f.0 y h) in omega arith)
  opens_fresh n (Some z) (suc m) f e = absurd cc

  pub opened_more : (n : ℕ) (o : Option (ℕ × List ℕ)) → o ≡ first_here t part n
      → schedule everywhere (first_event n o) (schedule (here_of t part) (source_events (net_of t) n) empty) ≡ schedule (here_of t part) (source_events (net_of t) (suc n)) empty
  unfolding net_of
  opened_more n o e = ap (λ r. schedule everywhere (first_event n r) (schedule (here_of t part) (source_events (net_of t) n) empty)) e
      ∙ first_scheduled (here_of t part) n (source_at t n 0) (schedule (here_of t part) (source_events (net_of t) n) empty)
      ∙ sym (schedule_append (here_of t part) (first_event n ((net_of t).source n 0)) (source_events (net_of t) n) empty)

  placed_first : (q : Key) → IsBelow (length t.sources) q.place → IsPlaceIn t q.place
  placed_first q h = go q.place h
    where
      go : (p : Place) → IsBelow (length t.sources) p → IsPlaceIn t p
      go (Arrive i) k = absurd k
      go (Complete i) k = absurd k
      go (Fire j) k = k

  pub represents_first : {L : Type 0} (pending : L → FinMap key_cmp (Event (List ℕ))) (p : PartValue L) → IsOrderly (net_of t) (here_of t part) (start (net_of t) (here_of t part) [])
      → p.part ≡ part → DevicesRepresent t (record { part = part; node = first_state t; port = λ i. idle_port }) p.devices → p.timeline.sent ≡ replicate (length t.ifaces) 0
      → pending p.timeline.events ≡ schedule (here_of t part) (source_events (net_of t) (length t.sources)) empty
      → length p.outgoing.channels ≡ channel_count t part → AllAt (λ c v. v.messages ≡ []) p.outgoing.channels → RecordsRepresent t p.records []
      → p.devices.wanted ≡ p.records.keeping.wanted → Represents pending t part p (start (net_of t) (here_of t part) [])
  unfolding net_of
  represents_first pending p orderly is_part represented sent events channels messages records wanted = record {
    is_part = is_part;
    orderly = orderly;
    devices = represented;
    numbered = record {
      count = ap length sent ∙ length-replicate (length t.ifaces) 0;
      numbers = λ c h. ap (λ l. slice_index l c) sent ∙ zeros (length t.ifaces) c;
    };
    outgoing = outgoing_first t part p.outgoing channels messages;
    few = λ c. omega arith;
    events = events;
    placed = λ q y e. placed_first q (events_below (length t.sources) q y e);
    records = records;
    few_records = omega arith;
    wanted = wanted;
  }

-- a part has what is of some nodes
pub here_by_node : (t : TopologyValue) (part : Option ℕ) → IsByNode (net_of t) (here_of t part)
here_by_node t part q r h = ap (is_node_here t part) h
