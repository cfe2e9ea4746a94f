-- When sources begin, one event later.
use Rattle.std.proofs.Common.{◌≡◌, ℕ, zero, suc, ◌+◌, ◌-◌, ◌*◌, ◌<◌, ◌≤◌, Bool, true, false, cond, List, [], ◌∷◌, length, length-append, map, Option, None, Some, slice_get, slice_set, get_or, refl, sym, ap, ◌∙◌, subst, arith, length-set, ⊎_elim}
use Rattle.std.proofs.Math.Seq.{map-set_same}
use Rattle.std.proofs.lemmas.List.{length-map, map-set, set_past}
use Rattle.std.proofs.lemmas.Option.{get_or_from_slice_get, slice_get-get_or, slice_get-map, slice_get_cases, slice_get_within}
use Rattle.std.specs.Option.{option_map}
use Rattle.std.specs.Prelude.{IsSomeAnd}
use Rattle.nm_base.specs.Count.{saturated}
use Rattle.nm_base.specs.declared.event.Event.{Event}
use Rattle.nm_base.specs.declared.event.Event.TheVariants.{Completion, Delivery}
use Rattle.nm_base.specs.declared.event.Origin.TheVariants.{Arrival, Source}
use Rattle.nm_forward.specs.State.{NodeStateValue}
use Rattle.nm_base.specs.declared.key.Key.{Key}
use Rattle.nm_base.specs.declared.key.Place.{Place}
use Rattle.nm_base.specs.declared.key.Place.TheVariants.{Fire}
use Rattle.nm_model.specs.EventList.{least}
use Rattle.nm_model.specs.Lists.{keep_where}
use Rattle.nm_model.specs.Offers.{offering_in}
use Rattle.nm_model.specs.Run.{State, one_list}
use Rattle.nm_model.specs.declared.offering.Offering.{Offering}
use Rattle.nm_model.specs.declared.offering.Offering.TheVariants.{Dropped, Nothing, Started, Waits}
use Rattle.nm_model.proofs.ListLemmas.{same_number, some_inj}
use Rattle.nm_topology.specs.TopologyValue.{TopologyValue}
use Rattle.nm_sim.specs.Network.{net_of}
use Rattle.nm_measure.specs.Counted.{AreArrivals, comes_home, delays_of, ended_so, trips_of}
use Rattle.nm_measure.specs.Sent.{sent_in}
use Rattle.nm_measure.specs.Starts.{AreStarts, IsRecent, SourceStart, begun_by, begun_in, begun_of, first_time, nothing_begun, start_of, with_begin}
use Rattle.nm_measure.specs.Ways.{WayEnd, counter_at, drop_at, dropped_as, end_at, ended_as, ends_at, ends_in, ends_next, fate_at, made_as, outcome_by, sent_tag, tagged_list, tagged_net, time_of, unsent_at}
use Rattle.nm_measure.specs.declared.flow_counts.PacketOutcome.{PacketOutcome}
use Rattle.nm_measure.specs.declared.flow_counts.PacketOutcome.TheVariants.{Delivered, Discarded}
use Rattle.nm_measure.specs.declared.flow_times.FlowTimes.{FlowTimes}
use Rattle.nm_measure.specs.declared.tag.Tag.{Tag}
use Rattle.nm_measure.proofs.Lists.{AreTurned, mapped_some, set_other, set_same}
use Rattle.nm_measure.proofs.Making.{fires, made_at, made_later, rests}

-- a source's numbers change, but not what is kept here of them
pub start_kept : (all : List FlowTimes) (i : ℕ) (before after : FlowTimes) → before ≡ get_or all i before → start_of after ≡ start_of before → map start_of (slice_set all i after) ≡ map start_of all
start_kept all i before after at same = map-set_same start_of all i after before (same ∙ ap start_of at)

-- a source has an event
pub start_begun : (all : List FlowTimes) (i now : ℕ) (before after : FlowTimes) → i < length all → before ≡ get_or all i before → start_of after ≡ begun_by now (start_of before)
    → map start_of (slice_set all i after) ≡ with_begin i now (map start_of all)
start_begun all i now before after there at more =
    let had : get_or (map start_of all) i nothing_begun ≡ start_of before = get_or_from_slice_get (map start_of all) i (start_of before) nothing_begun
    (slice_get-map start_of all i ∙ ap (option_map start_of) (slice_get-get_or all i before there ∙ ap Some (sym at))) in
    map-set start_of all i after ∙ ap (slice_set (map start_of all) i) (more ∙ ap (begun_by now) (sym had))

-- there is no such source
pub start_past : (all : List FlowTimes) (i now : ℕ) → length all ≤ i → map start_of all ≡ with_begin i now (map start_of all)
start_past all i now past = sym (set_past (map start_of all) i (begun_by now (get_or (map start_of all) i nothing_begun)) (let m = length-map all start_of in omega (arith, m, past)))

-- there are no more delays than ends, and no more than two ends an event
kept_few : {X : Type 0} (p : X → Bool) (xs : List X) → length (keep_where p xs) ≤ length xs
kept_few p [] = omega arith
kept_few p (x ∷ xs) = go (kept_few p xs) (p x)
  where
    go : length (keep_where p xs) ≤ length xs → (b : Bool) → length (cond b (x ∷ keep_where p xs) (keep_where p xs)) ≤ suc (length xs)
    go h true = omega (arith, h)
    go h false = omega (arith, h)

module _ (t : TopologyValue) where
  ends_few : (n : ℕ) → length (ends_in t n) ≤ 2 * n
  ends_few zero = omega arith
  ends_few (suc n) =
      let h = ends_few n in
      let l = length-append (ends_in t n) (ends_next t (tagged_list t n) (least (tagged_list t n).pending)) in
      let m = two (tagged_list t n) (least (tagged_list t n).pending) in
      omega (arith, h, l, m)
    where
      ended : (end : PacketOutcome → WayEnd) (o : Option PacketOutcome) → length (ended_as end o) ≤ 1
      ended end None = omega arith
      ended end (Some p) = omega arith

      dropped : (end : ℕ → WayEnd) (o : Offering) → length (dropped_as end o) ≤ 1
      dropped end Nothing = omega arith
      dropped end (Started i) = omega arith
      dropped end (Waits i) = omega arith
      dropped end (Dropped i) = omega arith

      made : (discarded : WayEnd) (end : ℕ → WayEnd) (o : Offering) → length (made_as discarded end o) ≤ 1
      made discarded end Nothing = omega arith
      made discarded end (Started i) = omega arith
      made discarded end (Waits i) = omega arith
      made discarded end (Dropped i) = omega arith

      one : (s : State (Tag × List ℕ) NodeStateValue) (time : ℕ) (e : Event (Tag × List ℕ)) → length (ends_at t s time e) ≤ 2
      one s time (Delivery (Arrival i) x) =
          let arrived = end_at (counter_at t ((net_of t).owner i) x.1) ((net_of t).owner i) time x in
          let a = ended arrived (outcome_by (fate_at t ((net_of t).owner i) x.1)) in
          let end = drop_at time (sent_tag t ((net_of t).owner i) (Arrival i) x, x.1) in
          let o = offering_in (tagged_net t) s.node s.port (Delivery (Arrival i) x) in
          let b = dropped end o in
          let l = length-append (ended_as arrived (outcome_by (fate_at t ((net_of t).owner i) x.1))) (dropped_as end o) in
          omega (arith, a, b, l)
      one s time (Delivery (Source j) x) = let m = made (end_at (unsent_at t j) ((net_of t).source_node j) time x Discarded) (drop_at time x) (offering_in (tagged_net t) s.node s.port (Delivery (Source j) x)) in omega (arith, m)
      one s time (Completion i) = omega arith

      two : (s : State (Tag × List ℕ) NodeStateValue) (o : Option (Key × Event (Tag × List ℕ))) → length (ends_next t s o) ≤ 2
      two s None = omega arith
      two s (Some e) = one s e.0.time e.1

  pub trips_few : (j n : ℕ) → length (trips_of j (ends_in t n)) ≤ 2 * n
  trips_few j n =
      let l = length-map (keep_where (comes_home j) (ends_in t n)) (λ (e : WayEnd). e.time - e.tag.at) in
      let k = kept_few (comes_home j) (ends_in t n) in
      let e = ends_few n in
      omega (arith, l, k, e)

  pub delays_few : (j n : ℕ) → length (delays_of j (ends_in t n)) ≤ 2 * n
  delays_few j n =
      let l = length-map (keep_where (ended_so j Delivered) (ends_in t n)) (λ (e : WayEnd). e.time - e.tag.at) in
      let k = kept_few (ended_so j Delivered) (ends_in t n) in
      let e = ends_few n in
      omega (arith, l, k, e)

  -- nothing was made yet
  pub starts_first : (all : List FlowTimes) → length all ≡ length t.sources → ((j : ℕ) (x : FlowTimes) → slice_get all j ≡ Some x → start_of x ≡ nothing_begun) → AreStarts t 0 0 (map start_of all)
  starts_first all count none = record {
    count = length-map all start_of ∙ count;
    each = λ j s at. let x = mapped_some start_of all j s at in let is = sym x.2 ∙ none j x.0 x.1 in (ap (λ z. z.begun) is, ap (λ z. z.seen) is);
  }

  -- what one finds of a source
  pub start_found : (first n : ℕ) (all : List FlowTimes) → AreStarts t first n (map start_of all) → (j : ℕ) (x : FlowTimes) → slice_get all j ≡ Some x
      → (x.begun ≡ begun_in t j n) × (x.delays.seen ≡ saturated (length (delays_of j (ends_in t first))))
  start_found first n all h j x at = h.each j (start_of x) (slice_get-map start_of all j ∙ ap (option_map start_of) at)

  pub begun_found : (first n : ℕ) (all : List FlowTimes) → AreStarts t first n (map start_of all) → (j : ℕ) → j < length t.sources → IsSomeAnd (slice_get all j) (λ x. x.begun ≡ begun_in t j n)
  begun_found first n all h j low = ⊎_elim
      (λ g. subst (λ o. IsSomeAnd o (λ x. x.begun ≡ begun_in t j n)) (sym g.2) (start_found first n all h j g.0 g.2).0)
      (λ g. absurd (let c = h.count in let l = length-map all start_of in omega (arith, low, c, l, g.0)))
      ((slice_get_cases all j).1)

  -- the greatest delays are looked for anew
  pub starts_anew : (first n : ℕ) (old new : List FlowTimes) → AreTurned IsRecent old new (length old) → length new ≡ length old → AreArrivals (ends_in t n) old
      → AreStarts t first n (map start_of old) → AreStarts t n n (map start_of new)
  starts_anew first n old new turned count was starts = record {
    count = length-map new start_of ∙ count ∙ sym (length-map old start_of) ∙ starts.count;
    each = λ j s at.
        let y = mapped_some start_of new j s at in
        let x = turned j y.0 y.1 in
        let r = x.2 (slice_get_within old j x.0 x.1) in
        let z = starts.each j (start_of x.0) (slice_get-map start_of old j ∙ ap (option_map start_of) x.1) in (
          ap (λ v. v.begun) (sym y.2) ∙ r.begun ∙ z.0,
          ap (λ v. v.seen) (sym y.2) ∙ r.seen ∙ (was j x.0 x.1).delays.added.count,
        );
  }

  module _ (first n : ℕ) (starts : List SourceStart) (h : AreStarts t first n starts) (e : Key × Event (List ℕ)) (place : Place)
      (next : least (one_list (net_of t) n).pending ≡ Some e) (at : e.0.place ≡ place) where
    -- no source has an event
    pub starts_stay : ((j : ℕ) → made_at j place ≡ 0) → AreStarts t first (suc n) starts
    starts_stay none = record {
      count = h.count;
      each = λ j s is.
          let z = h.each j s is in
          let same : sent_in (net_of t) j n ≡ sent_in (net_of t) j (suc n) = let m = none j in let l = made_later t n e place next at j in omega (arith, l, m) in
          (z.0 ∙ ap (begun_of ((net_of t).source j 0)) same, z.1);
    }

    module _ (i now : ℕ) (is : place ≡ Fire i) (timed : now ≡ time_of ((net_of t).source i (sent_in (net_of t) i n))) where
      begins : (k : ℕ) → sent_in (net_of t) i n ≡ k → (old : Option ℕ) → old ≡ begun_of ((net_of t).source i 0) k → first_time now old ≡ begun_of ((net_of t).source i 0) (suc k)
      begins zero none old had = ap (first_time now) had ∙ ap Some (timed ∙ ap (λ k. time_of ((net_of t).source i k)) none)
      begins (suc k) some old had = ap (first_time now) had

      here : (s : SourceStart) → slice_get (with_begin i now starts) i ≡ Some s → (s.begun ≡ begun_in t i (suc n)) × (s.seen ≡ saturated (length (delays_of i (ends_in t first))))
      here s got =
          let within : i < length starts = let w = slice_get_within (with_begin i now starts) i s got in let c = length-set starts i (begun_by now (get_or starts i nothing_begun)) in omega (arith, w, c) in
          let old = get_or starts i nothing_begun in
          let z = h.each i old (slice_get-get_or starts i nothing_begun within) in
          let new = some_inj s (begun_by now old) (sym got ∙ set_same starts i (begun_by now old) within) in
          let made : suc (sent_in (net_of t) i n) ≡ sent_in (net_of t) i (suc n) = let l = made_later t n e place next at i ∙ ap (λ p. sent_in (net_of t) i n + made_at i p) is in let f = fires i i refl in omega (arith, l, f) in (
            ap (λ v. v.begun) new ∙ begins (sent_in (net_of t) i n) refl old.begun z.0 ∙ ap (begun_of ((net_of t).source i 0)) made,
            ap (λ v. v.seen) new ∙ z.1,
          )

      elsewhere : (j : ℕ) (s : SourceStart) → (j ≡ i → ⊥) → slice_get (with_begin i now starts) j ≡ Some s → (s.begun ≡ begun_in t j (suc n)) × (s.seen ≡ saturated (length (delays_of j (ends_in t first))))
      elsewhere j s apart got =
          let z = h.each j s (sym (set_other starts i j (begun_by now (get_or starts i nothing_begun)) apart) ∙ got) in
          let same : sent_in (net_of t) j n ≡ sent_in (net_of t) j (suc n) = let l = made_later t n e place next at j ∙ ap (λ p. sent_in (net_of t) j n + made_at j p) is in let r = rests i j apart in omega (arith, l, r) in
          (z.0 ∙ ap (begun_of ((net_of t).source j 0)) same, z.1)

      -- source i has
      pub starts_fired : AreStarts t first (suc n) (with_begin i now starts)
      starts_fired = record {
        count = length-set starts i (begun_by now (get_or starts i nothing_begun)) ∙ h.count;
        each = λ j s got. ⊎_elim
            (λ same. subst (λ m. (s.begun ≡ begun_in t m (suc n)) × (s.seen ≡ saturated (length (delays_of m (ends_in t first))))) (sym same) (here s (subst (λ m. slice_get (with_begin i now starts) m ≡ Some s) same got)))
            (λ apart. elsewhere j s apart got)
            (same_number j i);
      }
