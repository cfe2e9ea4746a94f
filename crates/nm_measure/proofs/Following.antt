-- What an event does to the tags of packets.
use Rattle.std.proofs.Common.{slice_get, append-nil, append_assoc, ◌≡◌, ℕ, suc, ◌+◌, ◌<◌, ◌≤◌, Bool, true, false, cond, List, [], ◌∷◌, ◌++◌, map, length, Option, Some, None, refl, sym, ap, ◌∙◌, subst, arith, ⊎_elim}
use Rattle.std.specs.Option.{option_map}
use Rattle.std.proofs.lemmas.Bool.{cases_lt}
use Rattle.std.proofs.lemmas.List.{map-append}
use Rattle.nm_base.specs.declared.event.Event.{Event}
use Rattle.nm_base.specs.declared.event.Event.TheVariants.{Delivery}
use Rattle.nm_base.specs.declared.event.Origin.{Origin}
use Rattle.nm_base.specs.declared.event.Origin.TheVariants.{Arrival}
use Rattle.nm_base.specs.declared.key.Key.{Key}
use Rattle.nm_base.specs.declared.key.Place.TheVariants.{Arrive}
use Rattle.nm_base.specs.declared.wanted.Wanted.TheVariants.{Nothing as NothingWanted}
use Rattle.nm_events.specs.Held.{Held}
use Rattle.nm_forward.specs.declared.row.Row.{Row}
use Rattle.nm_forward.specs.declared.row.Row.TheVariants.{BadHeader, BadDestination, NotMine, Unreachable, Expired, Forward, Fragment, BadIcmp, EchoRequest, OtherIcmp, BadUdp, Delivered, ClosedPort, UnknownProtocol}
use Rattle.nm_forward.specs.Reaction.{arrived, followed, reaction}
use Rattle.nm_forward.specs.Row.{arrival_row, row_counter}
use Rattle.nm_forward.specs.State.{NodeStateValue, table_of}
use Rattle.nm_model.specs.EventList.{least}
use Rattle.nm_base.specs.declared.record.Dir.TheVariants.{In}
use Rattle.nm_base.specs.declared.record.Record.{Record}
use Rattle.std.specs.FinMap.{get}
use Rattle.nm_base.specs.Key.{key_of}
use Rattle.nm_model.specs.Lists.{IsPrefix, nth, set_at}
use Rattle.nm_model.specs.Orderly.{IsOrderly}
use Rattle.nm_model.specs.RunLaws.{KeysRise}
use Rattle.nm_model.specs.Trace.{passed}
use Rattle.nm_model.specs.Network.{IsNet, Net}
use Rattle.nm_model.specs.Offers.{offering_at, offering_in, offering_of}
use Rattle.nm_model.specs.Port.{Busy, Port, waiting_of}
use Rattle.nm_model.specs.Run.{Effect, State, arrived_after, effect, in_record, one_list, out_record, sent_after, sent_on, turned}
use Rattle.nm_model.specs.Tags.{IsUntagged, Tagging, tagged, untagged_busy, untagged_event, untagged_port, with_tag}
use Rattle.nm_model.specs.declared.offering.Offering.TheVariants.{Nothing, Waits, Dropped}
use Rattle.nm_model.proofs.Keys.{key_at, least_has}
use Rattle.nm_model.proofs.ListLemmas.{below_nth, not_some, nth_cong, nth_last, nth_prefix, number_tied, prefix_length, prefix_nth, same_number, set_here, set_there, some_inj}
use Rattle.nm_model.proofs.Traces.{arrivals_begin, arrived_counts, passed-append}
use Rattle.nm_model.proofs.Untagging.{tagged_first}
use Rattle.nm_topology.specs.TopologyValue.{TopologyValue}
use Rattle.nm_sim.specs.Network.{net_of}
use Rattle.nm_sim.specs.Part.{PartValue}
use Rattle.nm_sim.specs.Told.{arrived_in}
use Rattle.nm_sim.specs.declared.told.Arrived.{Arrived}
use Rattle.nm_sim.specs.declared.told.Happened.{Happened}
use Rattle.nm_measure.specs.declared.fates.Fate.{Fate}
use Rattle.nm_measure.specs.declared.fates.Fate.TheVariants as fate
use Rattle.nm_measure.specs.declared.tag.Tag.{Tag}
use Rattle.nm_measure.specs.Courses.{pass_of, passes_in}
use Rattle.nm_measure.specs.Interfaces.{IsNext}
use Rattle.nm_measure.specs.Lanes.{CanBe, lanes_in, one_of, with_offer}
use Rattle.nm_measure.specs.Tagged.{SendsByOwn}
use Rattle.nm_measure.specs.Ways.{answer_tag, dropped_as, counter_at, drop_at, end_at, ended_as, ends_at, ends_in, ends_next, fate_at, fate_by, outcome_by, sent_tag, tagged_list, tagged_net, tagging}
use Rattle.nm_measure.proofs.Laning.{answer_counts_none}
use Rattle.nm_measure.proofs.Tagged.{lanes_arrived, lanes_of, lanes_offered}
use Rattle.nm_topology.specs.PartValues.{IfaceValue}
use Rattle.nm_measure.proofs.Nodes.{far_is}
use Rattle.nm_measure.proofs.Passing.{started_of, started_passes}
use Rattle.nm_measure.proofs.Turns.{effect_at, next_records, next_state}

-- the tag of what is sent
pub tag_of : {P T : Type 0} (g : T) (o : Option (ℕ × P)) (x : ℕ × (T × P)) → with_tag g o ≡ Some x → x.1.0 ≡ g
tag_of g None x e = absurd (not_some x e)
tag_of g (Some s) x e = ap (λ z. z.1.0) (sym (some_inj (s.0, (g, s.1)) x e))

untagged_of : {P T : Type 0} (g : T) (o : Option (ℕ × P)) → with_tag g o ≡ None → o ≡ None
untagged_of g None e = refl
untagged_of g (Some s) e = absurd (not_some (s.0, (g, s.1)) (sym e))

module _ {P N T : Type 0} (net : Net P N) (tags : Tagging P N T) where
  -- what becomes of an offer is the same without tags
  pub offering_kept : (ports : ℕ → Port (T × P)) (g : T) (o : Option (ℕ × P)) → offering_of net (λ i. untagged_port (ports i)) o ≡ offering_of (tagged net tags) ports (with_tag g o)
  offering_kept ports g None = refl
  offering_kept ports g (Some s) = go (ports s.0).busy
    where
      go : (b : Option (Busy (T × P))) → offering_at (net.room s.0) s.0 s.1 (option_map untagged_busy b) ≡ offering_at ((tagged net tags).room s.0) s.0 (g, s.1) b
      go None = refl
      go (Some b) = refl

pub came_with : {P N : Type 0} (net : Net P N) (ports : ℕ → Port P) (time : ℕ) (came : Option (ℕ × P)) (n : N) (sent : Option (ℕ × P)) (follows : Option (ℕ × ℕ × P))
    → (sent_on net ports time came n sent follows).came ≡ came
came_with net ports time came n None follows = refl
came_with net ports time came n (Some s) follows = refl

-- what may become of an offer
module _ {P N : Type 0} (net : Net (Tag × P) N) (ports : ℕ → Port (Tag × P)) (count : ℕ) (all : ℕ → List Tag × List Tag) (waits : (i : ℕ) → (all i).1 ≡ map (λ x. x.0) (waiting_of (ports i).busy)) where
  pub can_be : (o : Option (ℕ × (Tag × P))) → ((s : ℕ × (Tag × P)) → o ≡ Some s → s.0 < count) → CanBe count all (offering_of net ports o)
  can_be None own = tt
  can_be (Some s) own = go (ports s.0).busy refl
    where
      room : (q : Bool) → CanBe count all (cond q (Waits s.0) (Dropped s.0))
      room true = own s refl
      room false = own s refl

      go : (b : Option (Busy (Tag × P))) → (ports s.0).busy ≡ b → CanBe count all (offering_at (net.room s.0) s.0 s.1 (ports s.0).busy)
      go None e = subst (λ b. CanBe count all (offering_at (net.room s.0) s.0 s.1 b)) (sym e) (own s refl, waits s.0 ∙ ap (λ b. map (λ (x : Tag × P). x.0) (waiting_of b)) e)
      go (Some b) e = subst (λ b. CanBe count all (offering_at (net.room s.0) s.0 s.1 b)) (sym e) (room (net.room s.0 b.waiting s.1))

  -- and nothing is offered only where nothing is sent
  pub offers_none : (o : Option (ℕ × (Tag × P))) → offering_of net ports o ≡ Nothing → o ≡ None
  offers_none None e = refl
  offers_none (Some s) e = absurd (go (ports s.0).busy e)
    where
      room : (q : Bool) → cond q (Waits s.0) (Dropped s.0) ≡ Nothing → ⊥
      room true e = cc
      room false e = cc

      go : (b : Option (Busy (Tag × P))) → offering_at (net.room s.0) s.0 s.1 b ≡ Nothing → ⊥
      go None e = cc
      go (Some b) e = room (net.room s.0 b.waiting s.1) e

-- a packet that is sent on is sent
forwards : (t : TopologyValue) (v : ℕ) (n : NodeStateValue) (c : ℕ) (x : List ℕ) → fate_at t v x ≡ fate.SentOn → ((net_of t).react v n (Arrival c) x).1 ≡ None → ⊥
unfolding net_of reaction arrived
forwards t v n c x is none = go _ (arrival_row (table_of t v) x) is none
  where
    go : (p : List ℕ) (row : Row) → fate_by (row_counter row) ≡ fate.SentOn → (followed t.ifaces (table_of t v) n p row).1 ≡ None → ⊥
    go p (Forward via) e f = cc
    go p BadHeader e f = cc
    go p BadDestination e f = cc
    go p NotMine e f = cc
    go p Unreachable e f = cc
    go p Expired e f = cc
    go p Fragment e f = cc
    go p BadIcmp e f = cc
    go p (EchoRequest request) e f = cc
    go p OtherIcmp e f = cc
    go p BadUdp e f = cc
    go p Delivered e f = cc
    go p ClosedPort e f = cc
    go p UnknownProtocol e f = cc

-- what is sent is sent by an interface that is there
pub sends_there : (t : TopologyValue) → SendsByOwn t → (v : ℕ) (n : NodeStateValue) (o : Origin) (x : List ℕ) (g : Tag) (s : ℕ × (Tag × List ℕ)) → with_tag g ((net_of t).react v n o x).1 ≡ Some s → s.0 < length t.ifaces
unfolding net_of
sends_there t own v n o x g s e = go (reaction t v n o x).1 refl e
  where
    go : (r : Option (ℕ × List ℕ)) → (reaction t v n o x).1 ≡ r → with_tag g r ≡ Some s → s.0 < length t.ifaces
    go None is f = absurd (not_some s f)
    go (Some a) is f = subst (λ k. k < length t.ifaces) (ap (λ z. z.0) (some_inj (a.0, (g, a.1)) s f)) (own v n o x a is).0

-- the far end of a link
pub far_end_is : (t : TopologyValue) (i : ℕ) (x : IfaceValue) → slice_get t.ifaces i ≡ Some x → x.far.iface ≡ (net_of t).far_end i
unfolding net_of
far_end_is t i x at = ap (λ f. f.iface) (sym (far_is t i x at))

pub far_end_low : (t : TopologyValue) → IsNet (tagged_net t) → (i : ℕ) → i < length t.ifaces → (net_of t).far_end i < length t.ifaces
unfolding net_of
far_end_low t ok i low = ⊎_elim
    (λ h. h)
    (λ past. absurd (let same : (net_of t).far_end ((net_of t).far_end i) ≡ (net_of t).far_end i = ok.outside ((net_of t).far_end i) past in let back : (net_of t).far_end ((net_of t).far_end i) ≡ i = ok.twice i in omega (arith, low, past, same, back)))
    (cases_lt ((net_of t).far_end i) (length t.ifaces))

-- the arrivals in records, and one more
pub none_came : {P : Type 0} (c time : ℕ) (start : Option (ℕ × P)) → passed In c (out_record time start) ≡ []
none_came c time None = refl
none_came c time (Some a) = refl

one_came : {P : Type 0} (c time : ℕ) (records : List (Record P)) (x : P) (came start : Option (ℕ × P)) → came ≡ Some (c, x)
    → passed In c (records ++ (in_record time came ++ out_record time start)) ≡ passed In c records ++ (time, x) ∷ []
one_came c time records x came start is =
    passed-append In c records _
    ∙ ap (λ l. passed In c records ++ l) (passed-append In c (in_record time came) (out_record time start)
    ∙ (λ j. passed In c (in_record time (is j)) ++ none_came c time start j)
    ∙ append-nil (passed In c (in_record time (Some (c, x)))) ∙ ap (λ b. cond b ((time, x) ∷ []) []) (number_tied c))

-- what is on its way to an interface stays so
sent_more : {P N : Type 0} (net : Net P N) (time : ℕ) (sent : ℕ → List (ℕ × P)) (o : Option (ℕ × P)) (c : ℕ) → IsPrefix (sent c) (sent_after net time sent o c)
sent_more net time sent None c = ([], append-nil (sent c))
sent_more net time sent (Some s) c = ⊎_elim
    (λ (eq : c ≡ net.far_end s.0). (
      _,
      sym (subst (λ d. sent_after net time sent (Some s) d ≡ sent d ++ (time + net.tx s.0 s.1 + net.delay s.0, s.1) ∷ []) (sym eq) (set_here sent (net.far_end s.0) _)),
    ))
    (λ apart. ([], append-nil (sent c) ∙ sym (set_there sent (net.far_end s.0) _ c apart)))
    (same_number c (net.far_end s.0))

-- no more arrived than were sent
module _ {P N : Type 0} (net : Net P N) (ok : IsNet net) (n : ℕ) where
  pub few_arrived : (c : ℕ) → (one_list net n).arrived c ≤ length ((one_list net n).sent c)
  few_arrived c = let a = arrived_counts net (λ q. true) c [] n in let b = prefix_length _ _ (arrivals_begin net ok c n) in omega (arith, a, b)

  -- what arrives next is the first on its way
  next_arrival : (c : ℕ) (e : Key × Event P) (y : P) (first : least (one_list net n).pending ≡ Some e) → (effect_at net n e first).came ≡ Some (c, y) → (one_list net n).arrived c < length ((one_list net n).sent c)
      → nth ((one_list net n).sent c) ((one_list net n).arrived c) ≡ Some (e.0.time, y)
  next_arrival c e y first came below =
      let s = one_list net n in
      let count = arrived_counts net (λ q. true) c [] n in
      let records = ap (passed In c) (next_records net n e first) ∙ one_came c e.0.time s.records y (effect_at net n e first).came (effect_at net n e first).transmission came in
      let last : nth (passed In c (one_list net (suc n)).records) (length (passed In c s.records)) ≡ Some (e.0.time, y) = nth_cong _ _ (length (passed In c s.records)) (e.0.time, y) (sym records) (nth_last (passed In c s.records) (e.0.time, y)) in
      let there : nth ((one_list net (suc n)).sent c) (s.arrived c) ≡ Some (e.0.time, y) = ap (nth ((one_list net (suc n)).sent c)) count ∙ prefix_nth _ _ (length (passed In c s.records)) (e.0.time, y) (arrivals_begin net ok c (suc n)) last in
      nth_prefix (s.sent c) ((one_list net (suc n)).sent c) (s.arrived c) (e.0.time, y)
      (subst (λ l. IsPrefix (s.sent c) l) (sym (ap (λ z. z.sent c) (next_state net n e first))) (sent_more net e.0.time s.sent (effect_at net n e first).transmission c)) below there

-- at an arrival: the packet with its tag, those that are on the link behind it, and what its node does
pub record ArrivalStep (t : TopologyValue) (n now c : ℕ) (h : Happened) : Type 0 where
  pub packet : Tag × List ℕ
  pub on : List Tag
  pub first : (lanes_in t (tagged_list t n) ((net_of t).far_end c)).0 ≡ packet.0 ∷ on
  pub told : (a : Arrived) × (h.arrived ≡ Some a) × (a.counter ≡ Some (row_counter (arrival_row (table_of t ((net_of t).owner c)) packet.1))) × (a.octets ≡ length packet.1)
  pub can : CanBe (length t.ifaces) (set_at (lanes_in t (tagged_list t n)) ((net_of t).far_end c) (on, (lanes_in t (tagged_list t n) ((net_of t).far_end c)).1)) h.offering
  pub nothing : (j : ℕ) → h.offering ≡ Nothing → one_of j (answer_tag (fate_at t ((net_of t).owner c) packet.1) packet.0) ≡ 0
  pub lanes : (i : ℕ) → with_offer h.offering (answer_tag (fate_at t ((net_of t).owner c) packet.1) packet.0)
      (set_at (lanes_in t (tagged_list t n)) ((net_of t).far_end c) (on, (lanes_in t (tagged_list t n) ((net_of t).far_end c)).1)) i
      ≡ lanes_in t (tagged_list t (suc n)) i
  pub ends : (ends_in t n ++ ended_as (end_at (counter_at t ((net_of t).owner c) packet.1) ((net_of t).owner c) now packet) (outcome_by (fate_at t ((net_of t).owner c) packet.1)))
      ++ dropped_as (drop_at now (answer_tag (fate_at t ((net_of t).owner c) packet.1) packet.0, packet.1)) h.offering
      ≡ ends_in t (suc n)
  pub passes : passes_in t n ++ (packet.0, record { iface = c; dir = In; time = now }) ∷ started_passes h.offering (answer_tag (fate_at t ((net_of t).owner c) packet.1) packet.0) now ≡ passes_in t (suc n)

module _ (t : TopologyValue) (own : SendsByOwn t) (n : ℕ) (kept : IsUntagged (tagged_list t n) (one_list (net_of t) n)) (is_net : IsNet (tagged_net t)) (orderly : IsOrderly (tagged_net t) (λ q. true) (tagged_list t n))
    (rises : KeysRise (tagged_net t) n) where
  abbrev state : State (Tag × List ℕ) NodeStateValue
  state = tagged_list t n

  module _ (now c : ℕ) (p : PartValue Held) (h : Happened) (next : IsNext t n now (Arrive c) p h) where
    there : (f : Event (Tag × List ℕ)) × (least (tagged_list t n).pending ≡ Some (next.event.0, f)) × (next.event.1 ≡ untagged_event f)
    there = tagged_first state.pending (one_list (net_of t) n).pending kept.pending next.event next.first

    is_pending : get state.pending (key_of next.event.0.time (Arrive c) next.event.0.number) ≡ Some there.0
    is_pending = ap (get state.pending) (sym (key_at next.event.0 (Arrive c) next.at_place)) ∙ least_has state.pending (next.event.0, there.0) there.1

    number : (y : Tag × List ℕ) × (there.0 ≡ Delivery (Arrival c) y)
    number = orderly.arrival c next.event.0.time next.event.0.number there.0 is_pending

    abbrev y : Tag × List ℕ
    y = number.0

    abbrev v : ℕ
    v = (net_of t).owner c

    abbrev r : NodeStateValue × Option (ℕ × List ℕ)
    r = (net_of t).react ((net_of t).owner c) (state.node ((net_of t).owner c)) (Arrival c) number.0.1

    abbrev answer : Tag
    answer = sent_tag t ((net_of t).owner c) (Arrival c) number.0

    abbrev later : ℕ → ℕ
    later = set_at state.arrived c (suc (state.arrived c))

    at : nth (state.sent c) (state.arrived c) ≡ Some (next.event.0.time, number.0)
    at =
        let counts = rises.numbers c (next.event.0, there.0) there.1 next.at_place in
        let below = orderly.inner c next.event.0.time next.event.0.number there.0 refl is_pending in
        next_arrival (tagged_net t) is_net n c (next.event.0, there.0) number.0 there.1
        (ap (λ f. (effect (tagged_net t) state.node state.port next.event.0.time next.event.0.number f).came) number.1
        ∙ came_with (tagged_net t) state.port next.event.0.time (Some (c, number.0)) r.0 (with_tag answer r.1) None)
        (omega (arith, counts, below))

    low : (d : ℕ) → set_at state.arrived c (suc (state.arrived c)) d ≤ length (state.sent d)
    low d = ⊎_elim
        (λ (eq : d ≡ c).
        let here = set_here state.arrived c (suc (state.arrived c)) in
        let below = below_nth (state.sent c) (state.arrived c) (next.event.0.time, number.0) at in
        subst (λ m. set_at state.arrived c (suc (state.arrived c)) m ≤ length (state.sent m)) (sym eq) (omega (arith, here, below)))
        (λ apart. let same = set_there state.arrived c (suc (state.arrived c)) d apart in let count = few_arrived (tagged_net t) is_net n d in omega (arith, same, count))
        (same_number d c)

    -- what its node sends
    abbrev sends : Effect (Tag × List ℕ) NodeStateValue
    sends = sent_on (tagged_net t) state.port next.event.0.time (Some (c, number.0)) r.0 (with_tag answer r.1) None

    does : effect (tagged_net t) state.node state.port next.event.0.time next.event.0.number there.0 ≡ sends
    does = ap (effect (tagged_net t) state.node state.port next.event.0.time next.event.0.number) number.1

    after : (i : ℕ) → lanes_in t (tagged_list t (suc n)) i
        ≡ lanes_of (tagged_net t) (turned state.port sends.turn) (sent_after (tagged_net t) next.event.0.time state.sent sends.transmission) later i
    after i =
        ap (λ z. lanes_in t z i) (next_state (tagged_net t) n (next.event.0, there.0) there.1)
        ∙ ap (λ (e : Effect (Tag × List ℕ) NodeStateValue). lanes_of (tagged_net t) (turned state.port e.turn) (sent_after (tagged_net t) next.event.0.time state.sent e.transmission) (arrived_after state.arrived e.came) i) does
        ∙ ap (λ o. lanes_of (tagged_net t) (turned state.port sends.turn) (sent_after (tagged_net t) next.event.0.time state.sent sends.transmission) (arrived_after state.arrived o) i)
        (came_with (tagged_net t) state.port next.event.0.time (Some (c, number.0)) r.0 (with_tag answer r.1) None)

    event_is : next.event.1 ≡ Delivery (Arrival c) number.0.1
    event_is = there.2 ∙ ap untagged_event number.1

    offer_is : h.offering ≡ offering_of (tagged_net t) state.port (with_tag answer r.1)
    offer_is = next.happened.offering
        ∙ (λ j. offering_in (net_of t) (kept.nodes j) (kept.ports j) (event_is j))
        ∙ offering_kept (net_of t) (tagging t) state.port answer r.1

    arrives : (on : List Tag) × ((lanes_of (tagged_net t) state.port state.sent state.arrived ((net_of t).far_end c)).0 ≡ number.0.0 ∷ on)
        × ((i : ℕ) → lanes_of (tagged_net t) state.port state.sent later i
        ≡ set_at (lanes_of (tagged_net t) state.port state.sent state.arrived) ((net_of t).far_end c) (on, (lanes_of (tagged_net t) state.port state.sent state.arrived ((net_of t).far_end c)).1) i)
    arrives = lanes_arrived (tagged_net t) is_net state.port state.sent state.arrived c (next.event.0.time, number.0) at

    abbrev popped : ℕ → List Tag × List Tag
    popped = set_at (lanes_in t (tagged_list t n)) ((net_of t).far_end c) (arrives.0, (lanes_in t (tagged_list t n) ((net_of t).far_end c)).1)

    lanes_are : (i : ℕ) → with_offer h.offering answer popped i ≡ lanes_in t (tagged_list t (suc n)) i
    lanes_are i =
        ap (λ o. with_offer o answer popped i) offer_is
        ∙ sym (λ j. with_offer (offering_of (tagged_net t) state.port (with_tag answer r.1)) answer (λ k. arrives.2 k j) i)
        ∙ sym (lanes_offered (tagged_net t) is_net state.port state.sent later low next.event.0.time (Some (c, number.0)) r.0 (with_tag answer r.1) None answer (λ x. tag_of answer r.1 x) i)
        ∙ sym (after i)

    may : CanBe (length t.ifaces) popped h.offering
    may = subst (CanBe (length t.ifaces) popped) (sym offer_is)
        (can_be (tagged_net t) state.port (length t.ifaces) popped (λ i. ap (λ (l : List Tag × List Tag). l.1) (sym (arrives.2 i))) (with_tag answer r.1)
        (λ s e. sends_there t own v (state.node v) (Arrival c) number.0.1 answer s e))

    none_offered : (j : ℕ) → h.offering ≡ Nothing → one_of j answer ≡ 0
    none_offered j none = go (fate_at t v number.0.1) refl
      where
        not_sent : r.1 ≡ None
        not_sent = untagged_of answer r.1 (offers_none (tagged_net t) state.port (length t.ifaces) popped (λ i. ap (λ (l : List Tag × List Tag). l.1) (sym (arrives.2 i))) (with_tag answer r.1) (sym offer_is ∙ none))

        go : (f : Fate) → fate_at t v number.0.1 ≡ f → one_of j (answer_tag (fate_at t v number.0.1) number.0.0) ≡ 0
        go fate.SentOn is = absurd (forwards t v (state.node v) c number.0.1 is not_sent)
        go fate.Requested is = subst (λ f. one_of j (answer_tag f number.0.0) ≡ 0) (sym is) (answer_counts_none j fate.Requested number.0.0 (λ e. cc))
        go fate.Delivered is = subst (λ f. one_of j (answer_tag f number.0.0) ≡ 0) (sym is) refl
        go fate.Told is = subst (λ f. one_of j (answer_tag f number.0.0) ≡ 0) (sym is) refl
        go fate.Refused is = subst (λ f. one_of j (answer_tag f number.0.0) ≡ 0) (sym is) refl
        go fate.Discarded is = subst (λ f. one_of j (answer_tag f number.0.0) ≡ 0) (sym is) refl

    ends_are : (ends_in t n ++ ended_as (end_at (counter_at t v number.0.1) v now number.0) (outcome_by (fate_at t v number.0.1))) ++ dropped_as (drop_at now (answer, number.0.1)) h.offering ≡ ends_in t (suc n)
    ends_are =
        (λ j. (ends_in t n ++ ended_as (end_at (counter_at t v number.0.1) v (sym next.at_time j) number.0) (outcome_by (fate_at t v number.0.1))) ++ dropped_as (drop_at (sym next.at_time j) (answer, number.0.1)) (offer_is j))
        ∙ append_assoc (ends_in t n) (ended_as (end_at (counter_at t v number.0.1) v next.event.0.time number.0) (outcome_by (fate_at t v number.0.1))) (dropped_as (drop_at next.event.0.time (answer, number.0.1)) (offering_of (tagged_net t) state.port (with_tag answer r.1)))
        ∙ sym (ap (λ o. ends_in t n ++ ends_next t state o) there.1 ∙ ap (λ f. ends_in t n ++ ends_at t state next.event.0.time f) number.1)

    passes_are : passes_in t n ++ (number.0.0, record { iface = c; dir = In; time = now }) ∷ started_passes h.offering answer now ≡ passes_in t (suc n)
    passes_are = sym (
        ap (map pass_of) (next_records (tagged_net t) n (next.event.0, there.0) there.1)
        ∙ map-append pass_of state.records _
        ∙ ap (λ (e : Effect (Tag × List ℕ) NodeStateValue). passes_in t n ++ map pass_of (in_record next.event.0.time e.came ++ out_record next.event.0.time e.transmission)) does
        ∙ ap (λ o. passes_in t n ++ map pass_of (in_record next.event.0.time o ++ out_record next.event.0.time sends.transmission))
        (came_with (tagged_net t) state.port next.event.0.time (Some (c, number.0)) r.0 (with_tag answer r.1) None)
        ∙ ap (λ l. passes_in t n ++ (number.0.0, record { iface = c; dir = In; time = next.event.0.time }) ∷ l)
        (started_of (tagged_net t) state.port next.event.0.time (Some (c, number.0)) r.0 (with_tag answer r.1) None answer (λ x. tag_of answer r.1 x))
        ∙ (λ i. passes_in t n ++ (number.0.0, record { iface = c; dir = In; time = next.at_time i }) ∷ started_passes (sym offer_is i) answer (next.at_time i)))

    pub arrival_step : ArrivalStep t n now c h
    arrival_step = record {
      packet = number.0;
      on = arrives.0;
      first = arrives.1;
      told = (_, next.happened.arrived ∙ ap (arrived_in t NothingWanted) event_is, refl, refl);
      can = may;
      nothing = none_offered;
      lanes = lanes_are;
      ends = ends_are;
      passes = passes_are;
    }
