-- What a source's event does to the tags of packets.
use Rattle.std.proofs.Common.{◌^◌, zero, ◌==◌, slice_get, ◌≡◌, ◌≢◌, ℕ, suc, ◌+◌, ◌<◌, ◌≤◌, Bool, true, false, cond, List, ◌++◌, map, length, Option, Some, None, refl, sym, ap, ◌∙◌, subst, arith, ⊎_elim}
use Rattle.std.proofs.lemmas.List.{map-append}
use Rattle.std.proofs.lemmas.Option.{slice_get_cases}
use Rattle.nm_base.specs.declared.event.Event.{Event}
use Rattle.nm_base.specs.declared.event.Event.TheVariants.{Delivery}
use Rattle.nm_base.specs.declared.event.Origin.TheVariants.{Source}
use Rattle.nm_base.specs.declared.key.Key.{Key}
use Rattle.nm_base.specs.declared.key.Place.{Place}
use Rattle.nm_base.specs.declared.key.Place.TheVariants.{Arrive, Complete, Fire}
use Rattle.nm_events.specs.Held.{Held}
use Rattle.nm_forward.specs.State.{NodeStateValue}
use Rattle.nm_model.specs.EventList.{least}
use Rattle.std.specs.FinMap.{get}
use Rattle.nm_model.specs.Orderly.{IsOrderly}
use Rattle.nm_model.specs.RunLaws.{KeysRise}
use Rattle.nm_model.specs.Network.{IsNet}
use Rattle.nm_model.specs.Offers.{offering_in, offering_of}
use Rattle.nm_model.specs.Run.{Effect, State, arrived_after, effect, in_record, one_list, out_record, by_source, sent_after, sent_on, turned}
use Rattle.nm_model.specs.Tags.{IsUntagged, untagged_event, with_tag}
use Rattle.nm_model.specs.declared.offering.Offering.{Offering}
use Rattle.nm_model.specs.declared.offering.Offering.TheVariants as became
use Rattle.nm_measure.specs.declared.flow_counts.PacketOutcome.TheVariants.{Discarded}
use Rattle.nm_model.specs.declared.offering.Offering.TheVariants.{Nothing, Waits, Dropped}
use Rattle.nm_model.proofs.Keys.{key_at, least_has}
use Rattle.nm_model.proofs.ListLemmas.{not_some, number_apart, number_tied, same_number, some_inj}
use Rattle.nm_model.proofs.Untagging.{tagged_first}
use Rattle.nm_topology.specs.TopologyValue.{TopologyValue}
use Rattle.nm_sim.specs.Network.{net_of}
use Rattle.nm_sim.specs.Part.{PartValue}
use Rattle.nm_sim.specs.declared.told.Happened.{Happened}
use Rattle.nm_measure.specs.declared.tag.Tag.{Tag}
use Rattle.nm_measure.specs.Courses.{pass_of, passes_in}
use Rattle.nm_measure.specs.Interfaces.{IsNext}
use Rattle.nm_measure.specs.Lanes.{CanBe, lanes_in, with_offer}
use Rattle.nm_model.specs.Before.{events_at, is_at, same_place}
use Rattle.nm_measure.specs.Sent.{AreSent, is_fire, made_by, sent_in}
use Rattle.nm_measure.specs.Tagged.{SendsByOwn}
use Rattle.nm_measure.specs.Ways.{WayEnd, dropped_as, drop_at, end_at, unsent_at, ends_at, ends_in, ends_next, made_as, own_tag, time_of, tagged_list, tagged_net, tagging}
use Rattle.nm_measure.proofs.Tagged.{lanes_of, lanes_offered}
use Rattle.nm_measure.proofs.Passing.{started_of, started_passes}
use Rattle.nm_measure.proofs.Turns.{next_records, next_state}
use Rattle.nm_measure.proofs.Following.{came_with, can_be, few_arrived, offering_kept, sends_there, tag_of}

-- how many packets a source made is how many events it had
events_sent : (t : TopologyValue) (j n : ℕ) → events_at (net_of t) (same_place (Fire j)) n ≡ sent_in (net_of t) j n
events_sent t j zero = refl
events_sent t j (suc n) = go (least (one_list (net_of t) n).pending) (events_sent t j n)
  where
    by_place : (q : Place) (a b : ℕ) → a ≡ b → cond (same_place (Fire j) q) (suc a) a ≡ b + cond (is_fire j q) 1 0
    by_place (Arrive i) a b h = omega (arith, h)
    by_place (Complete i) a b h = omega (arith, h)
    by_place (Fire i) a b h = ⊎_elim
        (λ (eq : j ≡ i).
        let yes : (j == i) ≡ true = ap (λ k. j == k) (sym eq) ∙ number_tied j in
        let also : (i == j) ≡ true = ap (λ k. i == k) eq ∙ number_tied i in
        ap (λ z. cond z (suc a) a) yes ∙ (let g : suc a ≡ b + 1 = omega (arith, h) in g) ∙ sym (ap (λ z. b + cond z 1 0) also))
        (λ apart.
        ap (λ z. cond z (suc a) a) (number_apart j i apart) ∙ (let g : a ≡ b + 0 = omega (arith, h) in g) ∙ sym (ap (λ z. b + cond z 1 0) (number_apart i j (λ e. apart (sym e)))))
        (same_number j i)

    go : (o : Option (Key × Event (List ℕ))) → events_at (net_of t) (same_place (Fire j)) n ≡ sent_in (net_of t) j n
        → cond (is_at (same_place (Fire j)) o) (suc (events_at (net_of t) (same_place (Fire j)) n)) (events_at (net_of t) (same_place (Fire j)) n) ≡ sent_in (net_of t) j n + made_by j o
    go None h = omega (arith, h)
    go (Some e) h = by_place e.0.place (events_at (net_of t) (same_place (Fire j)) n) (sent_in (net_of t) j n) h

-- at a source's event: its packet, and what becomes of it
pub record SourceStep (t : TopologyValue) (n now j : ℕ) (h : Happened) : Type 0 where
  pub packet : List ℕ
  pub can : CanBe (length t.ifaces) (lanes_in t (tagged_list t n)) h.offering
  pub lanes : (k : ℕ) → with_offer h.offering (own_tag j ((net_of t).source_node j) (sent_in (net_of t) j n) now) (lanes_in t (tagged_list t n)) k ≡ lanes_in t (tagged_list t (suc n)) k
  pub ends : ends_in t n ++ made_as (end_at (unsent_at t j) ((net_of t).source_node j) now (own_tag j ((net_of t).source_node j) (sent_in (net_of t) j n) now, packet) Discarded)
      (drop_at now (own_tag j ((net_of t).source_node j) (sent_in (net_of t) j n) now, packet)) h.offering ≡ ends_in t (suc n)
  pub passes : passes_in t n ++ started_passes h.offering (own_tag j ((net_of t).source_node j) (sent_in (net_of t) j n) now) now ≡ passes_in t (suc n)

module _ (t : TopologyValue) (own : SendsByOwn t) (n : ℕ) (kept : IsUntagged (tagged_list t n) (one_list (net_of t) n)) (is_net : IsNet (tagged_net t)) (orderly : IsOrderly (tagged_net t) (λ q. true) (tagged_list t n))
    (rises : KeysRise (net_of t) n) (now j : ℕ) (p : PartValue Held) (h : Happened) (next : IsNext t n now (Fire j) p h) where
  abbrev state : State (Tag × List ℕ) NodeStateValue
  state = tagged_list t n

  there : (f : Event (Tag × List ℕ)) × (least (tagged_list t n).pending ≡ Some (next.event.0, f)) × (next.event.1 ≡ untagged_event f)
  there = tagged_first state.pending (one_list (net_of t) n).pending kept.pending next.event next.first

  made : (x : Tag × List ℕ) × (there.0 ≡ Delivery (Source j) x) × (with_tag (own_tag j ((net_of t).source_node j) next.event.0.number (time_of ((net_of t).source j next.event.0.number))) ((net_of t).source j next.event.0.number) ≡ Some (next.event.0.time, x))
  made = orderly.source j next.event.0.time next.event.0.number there.0 (ap (get state.pending) (sym (key_at next.event.0 (Fire j) next.at_place)) ∙ least_has state.pending (next.event.0, there.0) there.1)

  count : next.event.0.number ≡ sent_in (net_of t) j n
  count = rises.consecutive next.event next.first ∙ ap (λ q. events_at (net_of t) (same_place q) n) next.at_place ∙ events_sent t j n

  timed : (o : Option (ℕ × List ℕ)) (g : Tag) (s : ℕ × (Tag × List ℕ)) → with_tag g o ≡ Some s → time_of o ≡ s.0
  timed None g s e = absurd (not_some s e)
  timed (Some a) g s e = ap (λ z. z.0) (some_inj (a.0, (g, a.1)) s e)

  tag_is : made.0.0 ≡ own_tag j ((net_of t).source_node j) (sent_in (net_of t) j n) now
  tag_is = tag_of (own_tag j ((net_of t).source_node j) next.event.0.number (time_of ((net_of t).source j next.event.0.number))) ((net_of t).source j next.event.0.number) (next.event.0.time, made.0) made.2
      ∙ (λ i. own_tag j ((net_of t).source_node j) (count i) ((timed ((net_of t).source j next.event.0.number) _ (next.event.0.time, made.0) made.2 ∙ next.at_time) i))

  pub timed_at : now ≡ time_of ((net_of t).source j (sent_in (net_of t) j n))
  timed_at = sym next.at_time ∙ sym (timed ((net_of t).source j next.event.0.number) _ (next.event.0.time, made.0) made.2)
      ∙ ap (λ k. time_of ((net_of t).source j k)) count

  abbrev r : NodeStateValue × Option (ℕ × List ℕ)
  r = (net_of t).react ((net_of t).source_node j) (state.node ((net_of t).source_node j)) (Source j) made.0.1

  abbrev follows : Option (ℕ × ℕ × (Tag × List ℕ))
  follows = by_source j ((tagged_net t).source j (suc next.event.0.number))

  abbrev sends : Effect (Tag × List ℕ) NodeStateValue
  sends = sent_on (tagged_net t) state.port next.event.0.time None r.0 (with_tag made.0.0 r.1) follows

  low : (c : ℕ) → state.arrived c ≤ length (state.sent c)
  low = few_arrived (tagged_net t) is_net n

  after : (i : ℕ) → lanes_in t (tagged_list t (suc n)) i
      ≡ lanes_of (tagged_net t) (turned state.port sends.turn) (sent_after (tagged_net t) next.event.0.time state.sent sends.transmission) state.arrived i
  after i =
      ap (λ z. lanes_in t z i) (next_state (tagged_net t) n (next.event.0, there.0) there.1)
      ∙ ap (λ f. lanes_of (tagged_net t) (turned state.port (effect (tagged_net t) state.node state.port next.event.0.time next.event.0.number f).turn)
      (sent_after (tagged_net t) next.event.0.time state.sent (effect (tagged_net t) state.node state.port next.event.0.time next.event.0.number f).transmission)
      (arrived_after state.arrived (effect (tagged_net t) state.node state.port next.event.0.time next.event.0.number f).came) i) made.1
      ∙ ap (λ o. lanes_of (tagged_net t) (turned state.port sends.turn) (sent_after (tagged_net t) next.event.0.time state.sent sends.transmission) (arrived_after state.arrived o) i)
      (came_with (tagged_net t) state.port next.event.0.time None r.0 (with_tag made.0.0 r.1) follows)

  offer_is : h.offering ≡ offering_of (tagged_net t) state.port (with_tag made.0.0 r.1)
  offer_is = next.happened.offering
      ∙ (λ i. offering_in (net_of t) (kept.nodes i) (kept.ports i) ((there.2 ∙ ap untagged_event made.1) i))
      ∙ offering_kept (net_of t) (tagging t) state.port made.0.0 r.1

  passes_are : passes_in t n ++ started_passes h.offering made.0.0 now ≡ passes_in t (suc n)
  passes_are = sym (
      ap (map pass_of) (next_records (tagged_net t) n (next.event.0, there.0) there.1)
      ∙ map-append pass_of state.records _
      ∙ ap (λ f. passes_in t n ++ map pass_of (in_record next.event.0.time (effect (tagged_net t) state.node state.port next.event.0.time next.event.0.number f).came
      ++ out_record next.event.0.time (effect (tagged_net t) state.node state.port next.event.0.time next.event.0.number f).transmission)) made.1
      ∙ ap (λ o. passes_in t n ++ map pass_of (in_record next.event.0.time o ++ out_record next.event.0.time sends.transmission))
      (came_with (tagged_net t) state.port next.event.0.time None r.0 (with_tag made.0.0 r.1) follows)
      ∙ ap (λ l. passes_in t n ++ l) (started_of (tagged_net t) state.port next.event.0.time None r.0 (with_tag made.0.0 r.1) follows made.0.0 (λ x. tag_of made.0.0 r.1 x))
      ∙ (λ i. passes_in t n ++ started_passes (sym offer_is i) made.0.0 (next.at_time i)))

  pub source_step : SourceStep t n now j h
  source_step = record {
    packet = made.0.1;
    can = subst (CanBe (length t.ifaces) (lanes_in t (tagged_list t n))) (sym offer_is)
        (can_be (tagged_net t) state.port (length t.ifaces) (lanes_in t (tagged_list t n)) (λ i. refl) (with_tag made.0.0 r.1)
        (λ s e. sends_there t own ((net_of t).source_node j) (state.node ((net_of t).source_node j)) (Source j) made.0.1 made.0.0 s e));
    lanes = λ k.
        (λ i. with_offer (offer_is i) (sym tag_is i) (lanes_in t (tagged_list t n)) k)
        ∙ sym (lanes_offered (tagged_net t) is_net state.port state.sent state.arrived low next.event.0.time None r.0 (with_tag made.0.0 r.1) follows made.0.0 (λ x. tag_of made.0.0 r.1 x) k)
        ∙ sym (after k);
    ends = (λ i. ends_in t n ++ made_as (end_at (unsent_at t j) ((net_of t).source_node j) (sym next.at_time i) (sym tag_is i, made.0.1) Discarded) (drop_at (sym next.at_time i) (sym tag_is i, made.0.1)) (offer_is i))
        ∙ sym (ap (λ o. ends_in t n ++ ends_next t state o) there.1 ∙ ap (λ f. ends_in t n ++ ends_at t state next.event.0.time f) made.1);
    passes = (λ i. passes_in t n ++ started_passes h.offering (sym tag_is i) now) ∙ passes_are;
  }

-- how many packets a source made, as it is counted
sent_few : (t : TopologyValue) (j n : ℕ) → sent_in (net_of t) j n ≤ n
sent_few t j zero = omega arith
sent_few t j (suc n) = let h = sent_few t j n in let m = at_most (least (one_list (net_of t) n).pending) in omega (arith, h, m)
  where
    one : (b : Bool) → cond b 1 0 ≤ 1
    one true = omega arith
    one false = omega arith

    at_most : (o : Option (Key × Event (List ℕ))) → made_by j o ≤ 1
    at_most None = omega arith
    at_most (Some e) = one (is_fire j e.0.place)

pub sent_at : (t : TopologyValue) (n : ℕ) (sent : List ℕ) → AreSent t n sent → (j : ℕ) → j < length t.sources → n + 1 < 2 ^ 64 → (slice_get sent j ≡ Some (sent_in (net_of t) j n)) × (sent_in (net_of t) j n + 1 < 2 ^ 64)
sent_at t n sent h j low few = ⊎_elim
    (λ g. (
      g.2 ∙ ap Some (let is = h.each j g.0 g.2 in let most = sent_few t j n in omega (arith, is, most, few)),
      let most = sent_few t j n in omega (arith, most, few),
    ))
    (λ g. absurd (let c = h.count in omega (arith, c, g.0, low)))
    ((slice_get_cases sent j).1)

pub made_dropped : (discarded : WayEnd) (end : ℕ → WayEnd) (o : Offering) → o ≢ Nothing → made_as discarded end o ≡ dropped_as end o
made_dropped discarded end Nothing other = absurd (other refl)
made_dropped discarded end (became.Started i) other = refl
made_dropped discarded end (Waits i) other = refl
made_dropped discarded end (Dropped i) other = refl
