-- How many packets sources have made, one event later.
use Rattle.std.proofs.Common.{◌≡◌, ◌≢◌, ℕ, suc, ◌+◌, ◌<◌, if◌then◌else◌, List, length, replicate, get_or, Option, Some, None, slice_get, slice_set, sym, ap, ◌∙◌, subst, arith, refl, length-set, ⊎_elim}
use Rattle.std.specs.Prelude.{IsSomeAnd}
use Rattle.std.specs.Option.{option_map, unwrap_or}
use Rattle.std.proofs.Math.Seq.{map-set_same}
use Rattle.std.proofs.lemmas.List.{get_or-map, get_or-replicate, length-map, length-replicate, map-set}
use Rattle.std.proofs.lemmas.Bool.Decides.{nat_tests}
use Rattle.std.proofs.lemmas.Option.{get_or_from_slice_get, slice_get-get_or, slice_get-map, slice_get_cases, slice_get_within}
use Rattle.nm_base.specs.Count.{saturated}
use Rattle.nm_base.specs.declared.event.Event.{Event}
use Rattle.nm_base.specs.declared.key.Key.{Key}
use Rattle.nm_base.specs.declared.key.Place.{Place}
use Rattle.nm_base.specs.declared.key.Place.TheVariants.{Arrive, Complete, Fire}
use Rattle.nm_model.specs.EventList.{least}
use Rattle.nm_model.specs.Run.{one_list}
use Rattle.nm_model.proofs.ListLemmas.{same_number, some_inj}
use Rattle.nm_topology.specs.TopologyValue.{TopologyValue}
use Rattle.nm_sim.specs.Network.{net_of}
use Rattle.nm_measure.specs.Flows.{sent_numbers}
use Rattle.nm_measure.specs.declared.flow_counts.FlowCounts.{FlowCounts}
use Rattle.nm_measure.specs.Sent.{AreSent, is_fire, made_by, sent_later, sent_in, with_sent}
use Rattle.nm_measure.proofs.Lists.{set_other, set_same}

-- 1 if an event at this place is source j's
abbrev pub made_at : ℕ → Place → ℕ
made_at j place = if is_fire j place then 1 else 0

pub fires : (i j : ℕ) → i ≡ j → made_at j (Fire i) ≡ 1
fires i j e = grind (arith, nat_tests, e)

pub rests : (i j : ℕ) → j ≢ i → made_at j (Fire i) ≡ 0
rests i j ne = grind (arith, nat_tests, ne)

-- a number that stops, and one more
one_more : (a : ℕ) → saturated (saturated a + 1) ≡ saturated (a + 1)
one_more a = omega arith

pub made_later : (t : TopologyValue) (n : ℕ) (e : Key × Event (List ℕ)) (place : Place) → least (one_list (net_of t) n).pending ≡ Some e → e.0.place ≡ place
    → (j : ℕ) → sent_in (net_of t) j (suc n) ≡ sent_in (net_of t) j n + made_at j place
made_later t n e place first at j = ap (λ o. sent_in (net_of t) j n + made_by j o) first ∙ ap (λ p. sent_in (net_of t) j n + made_at j p) at

module _ (t : TopologyValue) (n : ℕ) (sent : List ℕ) (h : AreSent t n sent) (e : Key × Event (List ℕ)) (place : Place)
    (first : least (one_list (net_of t) n).pending ≡ Some e) (at : e.0.place ≡ place) where
  later : (j : ℕ) → sent_in (net_of t) j (suc n) ≡ sent_in (net_of t) j n + made_at j place
  later = made_later t n e place first at

  -- no source made any
  stays : ((j : ℕ) → made_at j place ≡ 0) → AreSent t (suc n) sent
  stays none = record {
    count = h.count;
    each = λ j k is. h.each j k is ∙ ap saturated (let m = none j in let l = later j in omega (arith, m, l));
  }

  module _ (i : ℕ) (is : place ≡ Fire i) where
    here : (k : ℕ) → slice_get (with_sent i sent) i ≡ Some k → k ≡ saturated (sent_in (net_of t) i (suc n))
    here k got =
        let within : i < length sent = let w = slice_get_within (with_sent i sent) i k got in let c = length-set sent i (saturated (get_or sent i 0 + 1)) in omega (arith, w, c) in
        let old = h.each i (get_or sent i 0) (slice_get-get_or sent i 0 within) in
        let made = later i ∙ ap (λ p. sent_in (net_of t) i n + made_at i p) is ∙ ap (λ m. sent_in (net_of t) i n + m) (fires i i refl) in
        some_inj k (saturated (get_or sent i 0 + 1)) (sym got ∙ set_same sent i (saturated (get_or sent i 0 + 1)) within)
        ∙ ap (λ x. saturated (x + 1)) old ∙ one_more (sent_in (net_of t) i n) ∙ ap saturated (sym made)

    elsewhere : (j k : ℕ) → j ≢ i → slice_get (with_sent i sent) j ≡ Some k → k ≡ saturated (sent_in (net_of t) j (suc n))
    elsewhere j k ne got =
        let old = h.each j k (sym (set_other sent i j (saturated (get_or sent i 0 + 1)) ne) ∙ got) in
        let made = later j ∙ ap (λ p. sent_in (net_of t) j n + made_at j p) is ∙ ap (λ m. sent_in (net_of t) j n + m) (rests i j ne) in
        old ∙ ap saturated (omega (arith, made))

    fired : AreSent t (suc n) (with_sent i sent)
    fired = record {
      count = length-set sent i (saturated (get_or sent i 0 + 1)) ∙ h.count;
      each = λ j k got. ⊎_elim
          (λ same. subst (λ m. k ≡ saturated (sent_in (net_of t) m (suc n))) (sym same) (here k (subst (λ m. slice_get (with_sent i sent) m ≡ Some k) same got)))
          (λ apart. elsewhere j k apart got)
          (same_number j i);
    }

-- each source has made so many after one event more
pub sent_next : (t : TopologyValue) (n : ℕ) (sent : List ℕ) → AreSent t n sent → (e : Key × Event (List ℕ)) (place : Place)
    → least (one_list (net_of t) n).pending ≡ Some e → e.0.place ≡ place → AreSent t (suc n) (sent_later place sent)
sent_next t n sent h e (Arrive i) first at = stays t n sent h e (Arrive i) first at (λ j. refl)
sent_next t n sent h e (Complete i) first at = stays t n sent h e (Complete i) first at (λ j. refl)
sent_next t n sent h e (Fire i) first at = fired t n sent h e (Fire i) first at i refl

-- a source's numbers change, but not how many packets it made
pub sent_kept : (all : List FlowCounts) (i : ℕ) (before after : FlowCounts) → before ≡ get_or all i before → after.sent ≡ before.sent → sent_numbers (slice_set all i after) ≡ sent_numbers all
sent_kept all i before after at same = map-set_same (λ f. f.sent) all i after before (same ∙ ap (λ f. f.sent) at)

-- a source made one packet more
pub sent_more : (all : List FlowCounts) (i : ℕ) (before after : FlowCounts) → i < length all → before ≡ get_or all i before → after.sent ≡ saturated (before.sent + 1) → sent_numbers (slice_set all i after) ≡ with_sent i (sent_numbers all)
sent_more all i before after there at more =
    let had : get_or (sent_numbers all) i 0 ≡ before.sent = get_or_from_slice_get (sent_numbers all) i before.sent 0
    (slice_get-map (λ f. f.sent) all i ∙ ap (option_map (λ f. f.sent)) (slice_get-get_or all i before there ∙ ap Some (sym at))) in
    map-set (λ f. f.sent) all i after ∙ ap (slice_set (sent_numbers all) i) (more ∙ ap (λ n. saturated (n + 1)) (sym had))

-- at the begin
pub sent_first : (t : TopologyValue) (all : List FlowCounts) (n : ℕ) (none : FlowCounts) → all ≡ replicate n none → n ≡ length t.sources → none.sent ≡ 0 → AreSent t 0 (sent_numbers all)
sent_first t all n none is are zero = record {
  count = length-map all (λ f. f.sent) ∙ ap length is ∙ length-replicate n none ∙ are;
  each = λ j k got.
      let within = slice_get_within (sent_numbers all) j k got in
      let mapped = length-map all (λ (f : FlowCounts). f.sent) in
      let count = ap length is ∙ length-replicate n none in
      sym (get_or_from_slice_get (sent_numbers all) j k k got) ∙ get_or-map (λ f. f.sent) all j none k (omega (arith, within, mapped))
      ∙ ap (λ l. (get_or l j none).sent) is ∙ ap (λ f. f.sent) (get_or-replicate n j none none (omega (arith, within, mapped, count))) ∙ zero;
}

-- what it made is what one finds
pub sent_found : (t : TopologyValue) (n : ℕ) (all : List FlowCounts) (i : ℕ) → AreSent t n (sent_numbers all) → i < length t.sources → IsSomeAnd (slice_get all i) (λ f. f.sent ≡ saturated (sent_in (net_of t) i n))
sent_found t n all i h there = ⊎_elim
    (λ g. subst (λ o. IsSomeAnd o (λ f. f.sent ≡ saturated (sent_in (net_of t) i n))) (sym g.2)
    (h.each i g.0.sent (slice_get-map (λ f. f.sent) all i ∙ ap (option_map (λ f. f.sent)) g.2)))
    (λ g. absurd (let c = h.count in let m = length-map all (λ (f : FlowCounts). f.sent) in omega (arith, c, m, g.0, there)))
    ((slice_get_cases all i).1)

-- what holds of what is there holds of it or else something
pub some_or : {X : Type 0} (P : X → Type 0) (o : Option X) (other : X) → IsSomeAnd o P → P (unwrap_or o other)
some_or P (Some x) other h = h
some_or P None other h = absurd h
