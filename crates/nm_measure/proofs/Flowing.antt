-- The numbers of sources after one end more.
use Rattle.std.proofs.Common.{Result, Ok, Err, OnOk, ◌≡◌, ◌≢◌, ℕ, suc, ◌+◌, ◌-◌, ◌<◌, ◌≤◌, ◌==◌, ◌&&◌, not, Bool, true, false, cond, ltb, List, [], ◌∷◌, ◌++◌, length, map, sum_by, count_by, Option, None, Some, slice_get, slice_set, replicate, get_or, refl, sym, ap, ◌∙◌, subst, arith, ⊎_elim, length-set, append-nil}
use Rattle.std.specs.Prelude.{IsSomeAnd}
use Rattle.std.specs.Option.{option_map}
use Rattle.std.proofs.lemmas.List.Sums.{fold_push, sum_by_push}
use Rattle.std.proofs.lemmas.Option.{get_or_from_slice_get, slice_get-map, slice_get_cases, slice_get_within}
use Rattle.nm_base.specs.Count.{saturated}
use Rattle.std.proofs.lemmas.Bool.Decides.{nat_tests}
use Rattle.nm_model.proofs.ListLemmas.{kept-append, number_apart, number_tied, same_number, some_inj}
use Rattle.nm_model.specs.Lists.{keep_where}
use Rattle.std.proofs.lemmas.List.{get_or-replicate, length-replicate, map-append}
use Rattle.nm_measure.specs.declared.flow_counts.FlowCounts.{FlowCounts}
use Rattle.nm_measure.specs.declared.flow_counts.PacketOutcome.{PacketOutcome}
use Rattle.nm_measure.specs.declared.flow_counts.PacketOutcome.TheVariants.{Delivered, Refused, Dropped, Discarded}
use Rattle.nm_measure.specs.declared.flow_times.FlowTimes.{FlowTimes}
use Rattle.nm_measure.specs.declared.courses.EndPlace.TheVariants.{Node}
use Rattle.nm_forward.specs.declared.counter.Counter.{Counter}
use Rattle.nm_forward.specs.declared.counter.Counter.TheVariants as count
use Rattle.nm_measure.specs.declared.courses.Reason.{Reason}
use Rattle.nm_measure.specs.declared.courses.Reason.TheVariants.{Counted, Unknown}
use Rattle.nm_measure.specs.declared.fates.Fate.{Fate}
use Rattle.nm_measure.specs.declared.fates.Fate.TheVariants as fate
use Rattle.nm_measure.specs.declared.role.Role.{Role}
use Rattle.nm_measure.specs.declared.role.Role.TheVariants.{Sent, Reply, Nothing as NothingRole}
use Rattle.nm_measure.specs.declared.tag.Tag.{Tag}
use Rattle.nm_measure.specs.Counted.{AreArrivals, AreAstray, AreFlows, AreOutcomes, HasArrivals, HasOutcomes, FitsReason, comes_home, astray_of, delays_of, ended_so, how_many, counts_for, is_answer, is_at_home, is_reply, is_sent, is_told, outcome_number, strays, trips_of}
use Rattle.nm_measure.specs.Delays.{AreDelays}
use Rattle.nm_measure.specs.Sums.{last_of}
use Rattle.nm_measure.specs.Flows.{Ends, counts_of, ended_of, sent_numbers}
use Rattle.nm_measure.specs.Lanes.{one_of}
use Rattle.nm_forward.specs.State.{NodeConfiguration, is_own}
use Rattle.nm_topology.specs.declared.traffic.Source.{Source}
use Rattle.nm_topology.specs.declared.traffic.Traffic.{Traffic}
use Rattle.nm_topology.specs.declared.traffic.Traffic.TheVariants.{Cbr, Echo, Raw}
use Rattle.nm_measure.specs.Ways.{WayEnd, fate_by, nobodys, own_tag, unsent_by, unsent_of}
use Rattle.nm_measure.specs.Starts.{IsRecent}
use Rattle.nm_measure.proofs.Lists.{AreTurned, mapped_some, set_other, set_same}

-- one more at the end of a list
count_push : {X : Type 0} (p : X → Bool) (xs : List X) (y : X) → count_by p (xs ++ y ∷ []) ≡ count_by p xs + cond (p y) 1 0
count_push p xs y = sum_by_push (λ x. cond (p x) 1 0) xs y

pub keep_yes : {X : Type 0} (p : X → Bool) (xs : List X) (y : X) → p y ≡ true → keep_where p (xs ++ y ∷ []) ≡ keep_where p xs ++ y ∷ []
keep_yes p xs y h = kept-append p xs (y ∷ []) ∙ ap (λ b. keep_where p xs ++ cond b (y ∷ []) []) h

pub keep_no : {X : Type 0} (p : X → Bool) (xs : List X) (y : X) → p y ≡ false → keep_where p (xs ++ y ∷ []) ≡ keep_where p xs
keep_no p xs y h = kept-append p xs (y ∷ []) ∙ ap (λ b. keep_where p xs ++ cond b (y ∷ []) []) h ∙ append-nil (keep_where p xs)

-- whose a tag is
pub own_is : (j : ℕ) (tag : Tag) → is_sent tag.role ≡ true → tag.source ≡ j → counts_for j tag ≡ true
own_is j tag sent at = ap (λ b. b && (tag.source == j)) sent ∙ ap (λ k. k == j) at ∙ number_tied j

never : (b : Bool) → (b && false) ≡ false
never true = refl
never false = refl

pub own_not : (j : ℕ) (tag : Tag) → tag.source ≢ j → counts_for j tag ≡ false
own_not j tag apart = ap (λ b. is_sent tag.role && b) (number_apart tag.source j apart) ∙ never (is_sent tag.role)

pub own_none : (j : ℕ) (tag : Tag) → is_sent tag.role ≡ false → counts_for j tag ≡ false
own_none j tag none = ap (λ b. b && (tag.source == j)) none

pub one_is : (j : ℕ) (tag : Tag) → counts_for j tag ≡ true → one_of j tag ≡ 1
one_is j tag h = ap (λ b. cond b 1 0) h

pub one_not : (j : ℕ) (tag : Tag) → counts_for j tag ≡ false → one_of j tag ≡ 0
one_not j tag h = ap (λ b. cond b 1 0) h

module _ (j : ℕ) (ends : List WayEnd) (e : WayEnd) where
  -- the end of another's packet
  many_same : counts_for j e.tag ≡ false → (o : PacketOutcome) → how_many j o (ends ++ e ∷ []) ≡ how_many j o ends
  many_same h o =
      let a = count_push (ended_so j o) ends e in
      let b : ◌≡◌ {A = ℕ} (cond (ended_so j o e) 1 0) 0 = ap (λ b. cond (b && (outcome_number e.outcome == outcome_number o)) 1 0) h in
      omega (arith, a, b)

  pub outcomes_same : counts_for j e.tag ≡ false → (n : ℕ) (f : FlowCounts) → HasOutcomes j ends n f → HasOutcomes j (ends ++ e ∷ []) n f
  outcomes_same h n f was = record {
    delivered = was.delivered ∙ sym (many_same h Delivered);
    refused = was.refused ∙ sym (many_same h Refused);
    dropped = was.dropped ∙ sym (many_same h Dropped);
    discarded = was.discarded ∙ sym (many_same h Discarded);
    on_way = was.on_way;
  }

  -- of a source's own
  many_is : counts_for j e.tag ≡ true → (o : PacketOutcome) → how_many j o (ends ++ e ∷ []) ≡ how_many j o ends + cond (outcome_number e.outcome == outcome_number o) 1 0
  many_is h o =
      let a = count_push (ended_so j o) ends e in
      let b : ◌≡◌ {A = ℕ} (cond (ended_so j o e) 1 0) (cond (outcome_number e.outcome == outcome_number o) 1 0) = ap (λ b. cond (b && (outcome_number e.outcome == outcome_number o)) 1 0) h in
      omega (arith, a, b)

  many_as : counts_for j e.tag ≡ true → (o p : PacketOutcome) → e.outcome ≡ p → how_many j o (ends ++ e ∷ []) ≡ how_many j o ends + cond (outcome_number p == outcome_number o) 1 0
  many_as h o p is = subst (λ q. how_many j o (ends ++ e ∷ []) ≡ how_many j o ends + cond (outcome_number q == outcome_number o) 1 0) is (many_is h o)

  -- the parts of two equal lists of counts
  first : List ℕ → ℕ
  first [] = 0
  first (x ∷ xs) = x

  rest : List ℕ → List ℕ
  rest [] = []
  rest (x ∷ xs) = xs

  parts : (a b c d f g a' b' c' d' f' g' : ℕ) → a ∷ b ∷ c ∷ d ∷ f ∷ g ∷ [] ≡ a' ∷ b' ∷ c' ∷ d' ∷ f' ∷ g' ∷ [] → (b ≡ b') × (c ≡ c') × (d ≡ d') × (f ≡ f') × (g ≡ g')
  unfolding first rest
  parts a b c d f g a' b' c' d' f' g' is = (
    ap (λ l. first (rest l)) is,
    ap (λ l. first (rest (rest l))) is,
    ap (λ l. first (rest (rest (rest l)))) is,
    ap (λ l. first (rest (rest (rest (rest l))))) is,
    ap (λ l. first (rest (rest (rest (rest (rest l)))))) is,
  )

  pub outcomes_more : counts_for j e.tag ≡ true → (n : ℕ) (f g : FlowCounts) → HasOutcomes j ends (suc n) f → (p : PacketOutcome) → e.outcome ≡ p → Ends p f g → HasOutcomes j (ends ++ e ∷ []) n g
  outcomes_more own n f g was Delivered is ends_so =
      let z = parts g.sent g.delivered g.refused g.dropped g.discarded g.under_way f.sent (f.delivered + 1) f.refused f.dropped f.discarded (f.under_way - 1) ends_so in
      let u = z.4 in let w = was.on_way in
      record {
        delivered = let a = z.0 in let b = was.delivered in let m : how_many j Delivered (ends ++ e ∷ []) ≡ how_many j Delivered ends + 1 = many_as own Delivered Delivered is in omega (arith, a, b, m);
        refused = let a = z.1 in let b = was.refused in let m : how_many j Refused (ends ++ e ∷ []) ≡ how_many j Refused ends + 0 = many_as own Refused Delivered is in omega (arith, a, b, m);
        dropped = let a = z.2 in let b = was.dropped in let m : how_many j Dropped (ends ++ e ∷ []) ≡ how_many j Dropped ends + 0 = many_as own Dropped Delivered is in omega (arith, a, b, m);
        discarded = let a = z.3 in let b = was.discarded in let m : how_many j Discarded (ends ++ e ∷ []) ≡ how_many j Discarded ends + 0 = many_as own Discarded Delivered is in omega (arith, a, b, m);
        on_way = omega (arith, u, w);
      }
  outcomes_more own n f g was Refused is ends_so =
      let z = parts g.sent g.delivered g.refused g.dropped g.discarded g.under_way f.sent f.delivered (f.refused + 1) f.dropped f.discarded (f.under_way - 1) ends_so in
      let u = z.4 in let w = was.on_way in
      record {
        delivered = let a = z.0 in let b = was.delivered in let m : how_many j Delivered (ends ++ e ∷ []) ≡ how_many j Delivered ends + 0 = many_as own Delivered Refused is in omega (arith, a, b, m);
        refused = let a = z.1 in let b = was.refused in let m : how_many j Refused (ends ++ e ∷ []) ≡ how_many j Refused ends + 1 = many_as own Refused Refused is in omega (arith, a, b, m);
        dropped = let a = z.2 in let b = was.dropped in let m : how_many j Dropped (ends ++ e ∷ []) ≡ how_many j Dropped ends + 0 = many_as own Dropped Refused is in omega (arith, a, b, m);
        discarded = let a = z.3 in let b = was.discarded in let m : how_many j Discarded (ends ++ e ∷ []) ≡ how_many j Discarded ends + 0 = many_as own Discarded Refused is in omega (arith, a, b, m);
        on_way = omega (arith, u, w);
      }
  outcomes_more own n f g was Dropped is ends_so =
      let z = parts g.sent g.delivered g.refused g.dropped g.discarded g.under_way f.sent f.delivered f.refused (f.dropped + 1) f.discarded (f.under_way - 1) ends_so in
      let u = z.4 in let w = was.on_way in
      record {
        delivered = let a = z.0 in let b = was.delivered in let m : how_many j Delivered (ends ++ e ∷ []) ≡ how_many j Delivered ends + 0 = many_as own Delivered Dropped is in omega (arith, a, b, m);
        refused = let a = z.1 in let b = was.refused in let m : how_many j Refused (ends ++ e ∷ []) ≡ how_many j Refused ends + 0 = many_as own Refused Dropped is in omega (arith, a, b, m);
        dropped = let a = z.2 in let b = was.dropped in let m : how_many j Dropped (ends ++ e ∷ []) ≡ how_many j Dropped ends + 1 = many_as own Dropped Dropped is in omega (arith, a, b, m);
        discarded = let a = z.3 in let b = was.discarded in let m : how_many j Discarded (ends ++ e ∷ []) ≡ how_many j Discarded ends + 0 = many_as own Discarded Dropped is in omega (arith, a, b, m);
        on_way = omega (arith, u, w);
      }
  outcomes_more own n f g was Discarded is ends_so =
      let z = parts g.sent g.delivered g.refused g.dropped g.discarded g.under_way f.sent f.delivered f.refused f.dropped (f.discarded + 1) (f.under_way - 1) ends_so in
      let u = z.4 in let w = was.on_way in
      record {
        delivered = let a = z.0 in let b = was.delivered in let m : how_many j Delivered (ends ++ e ∷ []) ≡ how_many j Delivered ends + 0 = many_as own Delivered Discarded is in omega (arith, a, b, m);
        refused = let a = z.1 in let b = was.refused in let m : how_many j Refused (ends ++ e ∷ []) ≡ how_many j Refused ends + 0 = many_as own Refused Discarded is in omega (arith, a, b, m);
        dropped = let a = z.2 in let b = was.dropped in let m : how_many j Dropped (ends ++ e ∷ []) ≡ how_many j Dropped ends + 0 = many_as own Dropped Discarded is in omega (arith, a, b, m);
        discarded = let a = z.3 in let b = was.discarded in let m : how_many j Discarded (ends ++ e ∷ []) ≡ how_many j Discarded ends + 1 = many_as own Discarded Discarded is in omega (arith, a, b, m);
        on_way = omega (arith, u, w);
      }

  -- what was delivered
  abbrev by_kept : List WayEnd → FlowTimes → Type 0
  by_kept l x = AreDelays (map (λ (d : WayEnd). d.time - d.tag.at) l) x.delays × (x.octets ≡ saturated (sum_by (λ (d : WayEnd). d.octets) l))
      × (x.ended ≡ last_of (map (λ (d : WayEnd). d.time) l))

  -- it answers none
  no_trips : is_answer e ≡ false → trips_of j (ends ++ e ∷ []) ≡ trips_of j ends
  no_trips quiet = ap (map (λ (d : WayEnd). d.time - d.tag.at)) (keep_no (comes_home j) ends e (ap (λ b. b && ((e.tag.source == j) && is_at_home e.place e.tag.home)) quiet))

  arrivals_by : (l : List WayEnd) (x : FlowTimes) → keep_where (ended_so j Delivered) (ends ++ e ∷ []) ≡ l → by_kept l x → AreDelays (trips_of j (ends ++ e ∷ [])) x.round_trips → HasArrivals j (ends ++ e ∷ []) x
  arrivals_by l x is h trips = let z = subst (λ k. by_kept k x) (sym is) h in record { delays = z.0; octets = z.1; ended = z.2; trips = trips }

  not_so : counts_for j e.tag ≡ false → ended_so j Delivered e ≡ false
  not_so h = ap (λ b. b && (outcome_number e.outcome == 0)) h

  reply_not : is_reply e.tag.role ≡ true → counts_for j e.tag ≡ false
  reply_not reply = own_none j e.tag (not_sent e.tag.role reply)
    where
      not_sent : (r : Role) → is_reply r ≡ true → is_sent r ≡ false
      not_sent Sent h = sym h
      not_sent Reply h = refl
      not_sent NothingRole h = refl

  other_end : (p : PacketOutcome) → e.outcome ≡ p → (outcome_number p == 0) ≡ false → ended_so j Delivered e ≡ false
  other_end p is differs = ap (λ q. counts_for j e.tag && (outcome_number q == 0)) is ∙ ap (λ b. counts_for j e.tag && b) differs ∙ never (counts_for j e.tag)

  -- what did not arrive
  arrivals_but : ended_so j Delivered e ≡ false → (x y : FlowTimes) → y.delays ≡ x.delays → y.octets ≡ x.octets → y.ended ≡ x.ended → HasArrivals j ends x → AreDelays (trips_of j (ends ++ e ∷ [])) y.round_trips
      → HasArrivals j (ends ++ e ∷ []) y
  arrivals_but h x y delays octets ended was = arrivals_by (keep_where (ended_so j Delivered) ends) y (keep_no (ended_so j Delivered) ends e h)
      (subst (AreDelays (delays_of j ends)) (sym delays) was.delays, octets ∙ was.octets, ended ∙ was.ended)

  pub arrivals_same : is_answer e ≡ false → ended_so j Delivered e ≡ false → (x : FlowTimes) → HasArrivals j ends x → HasArrivals j (ends ++ e ∷ []) x
  arrivals_same quiet h x was = arrivals_but h x x refl refl refl was (subst (λ ds. AreDelays ds x.round_trips) (sym (no_trips quiet)) was.trips)

  pub arrivals_of_another : is_answer e ≡ false → counts_for j e.tag ≡ false → (x : FlowTimes) → HasArrivals j ends x → HasArrivals j (ends ++ e ∷ []) x
  arrivals_of_another quiet h = arrivals_same quiet (not_so h)

  -- a reply that came home, or did not come home
  pub arrivals_answered : is_reply e.tag.role ≡ true → comes_home j e ≡ true → (x y : FlowTimes) → y.delays ≡ x.delays → y.octets ≡ x.octets → y.ended ≡ x.ended
      → ((ds : List ℕ) → AreDelays ds x.round_trips → AreDelays (ds ++ (e.time - e.tag.at) ∷ []) y.round_trips) → HasArrivals j ends x → HasArrivals j (ends ++ e ∷ []) y
  arrivals_answered reply came x y delays octets ended added was = arrivals_but (not_so (reply_not reply)) x y delays octets ended was
      (subst (λ ds. AreDelays ds y.round_trips)
      (sym (ap (map (λ (d : WayEnd). d.time - d.tag.at)) (keep_yes (comes_home j) ends e came) ∙ map-append (λ (d : WayEnd). d.time - d.tag.at) (keep_where (comes_home j) ends) (e ∷ [])))
      (added (trips_of j ends) was.trips))

  pub arrivals_unanswered : is_reply e.tag.role ≡ true → comes_home j e ≡ false → (x : FlowTimes) → HasArrivals j ends x → HasArrivals j (ends ++ e ∷ []) x
  arrivals_unanswered reply away x was = arrivals_but (not_so (reply_not reply)) x x refl refl refl was
      (subst (λ ds. AreDelays ds x.round_trips) (sym (ap (map (λ (d : WayEnd). d.time - d.tag.at)) (keep_no (comes_home j) ends e away))) was.trips)

  pub arrivals_more : is_answer e ≡ false → counts_for j e.tag ≡ true → e.outcome ≡ Delivered → (x y : FlowTimes) → y.round_trips ≡ x.round_trips → HasArrivals j ends x
      → ((ds : List ℕ) → AreDelays ds x.delays → AreDelays (ds ++ (e.time - e.tag.at) ∷ []) y.delays) → y.octets ≡ saturated (x.octets + e.octets) → y.ended ≡ e.time
      → HasArrivals j (ends ++ e ∷ []) y
  arrivals_more quiet own is x y trips was added octets ended =
      let kept = keep_where (ended_so j Delivered) ends in
      let yes : ended_so j Delivered e ≡ true = ap (λ q. counts_for j e.tag && (outcome_number q == 0)) is ∙ ap (λ b. b && true) own in
      arrivals_by (kept ++ e ∷ []) y (keep_yes (ended_so j Delivered) ends e yes) (
        subst (λ ds. AreDelays ds y.delays) (sym (map-append (λ (d : WayEnd). d.time - d.tag.at) kept (e ∷ []))) (added (delays_of j ends) was.delays),
        octets ∙ ap (λ n. saturated (n + e.octets)) was.octets ∙ (let s = sum_by_push (λ (d : WayEnd). d.octets) kept e in saturated_more (sum_by (λ (d : WayEnd). d.octets) kept) e.octets) ∙ ap saturated (sym (sum_by_push (λ (d : WayEnd). d.octets) kept e)),
        ended ∙ sym (ap last_of (map-append (λ (d : WayEnd). d.time) kept (e ∷ [])) ∙ fold_push (λ (a b : ℕ). b) 0 (map (λ (d : WayEnd). d.time) kept) e.time),
      )
      (subst (λ ds. AreDelays ds y.round_trips) (sym (no_trips quiet)) (subst (AreDelays (trips_of j ends)) (sym trips) was.trips))
    where
      saturated_more : (a b : ℕ) → saturated (saturated a + b) ≡ saturated (a + b)
      saturated_more a b = omega arith

-- of all sources: the end of a packet of source k
module _ (ends : List WayEnd) (e : WayEnd) (tag : Tag) (same : e.tag ≡ tag) (u : ℕ → ℕ) where
  own_of : (j : ℕ) → counts_for j e.tag ≡ counts_for j tag
  own_of j = ap (counts_for j) same

  less : (j : ℕ) → counts_for j tag ≡ false → one_of j tag + u j ≡ u j
  less j not = let z = one_not j tag not in omega (arith, z)

  -- there is one under way
  pub one_on_way : (counts : List FlowCounts) (k : ℕ) (f : FlowCounts) → AreOutcomes ends (λ j. one_of j tag + u j) counts
      → slice_get counts k ≡ Some f → is_sent tag.role ≡ true → tag.source ≡ k → ltb 0 f.under_way ≡ false → ⊥
  one_on_way counts k f was at sent source none =
      let way = (was k f at).on_way in
      let one = one_is k tag (own_is k tag sent source) in
      let low = no_under f.under_way none in
      omega (arith, way, one, low)
    where
      no_under : (n : ℕ) → ltb 0 n ≡ false → n ≤ 0
      no_under n h = grind (arith, nat_tests)

  pub outcomes_set : (counts : List FlowCounts) (k : ℕ) (f g : FlowCounts) → AreOutcomes ends (λ j. one_of j tag + u j) counts
      → slice_get counts k ≡ Some f → is_sent tag.role ≡ true → tag.source ≡ k → (0 < f.under_way → Ends e.outcome f g)
      → AreOutcomes (ends ++ e ∷ []) u (slice_set counts k g)
  outcomes_set counts k f g was at sent source ends_so j z found = ⊎_elim
      (λ (eq : j ≡ k).
      let own : counts_for k tag ≡ true = own_is k tag sent source in
      let before = was k f at in
      let one = one_is k tag own in
      let way = before.on_way in
      let as_next : HasOutcomes k ends (suc (u k)) f = subst (λ n. HasOutcomes k ends n f) (omega (arith, one)) before in
      let is : g ≡ z = some_inj g z (sym (set_same counts k g (slice_get_within counts k f at)) ∙ ap (slice_get (slice_set counts k g)) (sym eq) ∙ found) in
      subst (λ i. HasOutcomes i (ends ++ e ∷ []) (u i) z) (sym eq)
      (subst (HasOutcomes k (ends ++ e ∷ []) (u k)) is
      (outcomes_more k ends e (own_of k ∙ own) (u k) f g as_next e.outcome refl (ends_so (omega (arith, way, one))))))
      (λ apart.
      let none : counts_for j tag ≡ false = own_not j tag (λ w. apart (sym w ∙ source)) in
      let before = was j z (sym (set_other counts k j g apart) ∙ found) in
      outcomes_same j ends e (own_of j ∙ none) (u j) z (subst (λ n. HasOutcomes j ends n z) (less j none) before))
      (same_number j k)

  pub outcomes_none : (counts : List FlowCounts) → AreOutcomes ends (λ j. one_of j tag + u j) counts → ((j : ℕ) → j < length counts → counts_for j tag ≡ false)
      → AreOutcomes (ends ++ e ∷ []) u counts
  outcomes_none counts was none j z found =
      let not = none j (slice_get_within counts j z found) in
      outcomes_same j ends e (own_of j ∙ not) (u j) z (subst (λ n. HasOutcomes j ends n z) (less j not) (was j z found))

  pub arrivals_none : is_answer e ≡ false → (times : List FlowTimes) → AreArrivals ends times → ((j : ℕ) → j < length times → counts_for j tag ≡ false) → AreArrivals (ends ++ e ∷ []) times
  arrivals_none quiet times was none j z found = arrivals_of_another j ends e quiet (own_of j ∙ none j (slice_get_within times j z found)) z (was j z found)

  -- one that was not delivered
  pub arrivals_kept : is_answer e ≡ false → (times : List FlowTimes) (p : PacketOutcome) → e.outcome ≡ p → (outcome_number p == 0) ≡ false → AreArrivals ends times → AreArrivals (ends ++ e ∷ []) times
  arrivals_kept quiet times p is differs was j z found = arrivals_same j ends e quiet (other_end j ends e p is differs) z (was j z found)

  pub arrivals_set : is_answer e ≡ false → (times : List FlowTimes) (k : ℕ) (x y : FlowTimes) → y.round_trips ≡ x.round_trips → AreArrivals ends times → slice_get times k ≡ Some x → is_sent tag.role ≡ true → tag.source ≡ k → e.outcome ≡ Delivered
      → ((ds : List ℕ) → AreDelays ds x.delays → AreDelays (ds ++ (e.time - e.tag.at) ∷ []) y.delays) → y.octets ≡ saturated (x.octets + e.octets) → y.ended ≡ e.time
      → AreArrivals (ends ++ e ∷ []) (slice_set times k y)
  arrivals_set quiet times k x y trips was at sent source is added octets ended j z found = ⊎_elim
      (λ (eq : j ≡ k).
      let y_is : y ≡ z = some_inj y z (sym (set_same times k y (slice_get_within times k x at)) ∙ ap (slice_get (slice_set times k y)) (sym eq) ∙ found) in
      subst (λ i. HasArrivals i (ends ++ e ∷ []) z) (sym eq) (subst (HasArrivals k (ends ++ e ∷ [])) y_is
      (arrivals_more k ends e quiet (own_of k ∙ own_is k tag sent source) is x y trips (was k x at) added octets ended)))
      (λ apart. arrivals_of_another j ends e quiet (own_of j ∙ own_not j tag (λ w. apart (sym w ∙ source))) z (was j z (sym (set_other times k j y apart) ∙ found)))
      (same_number j k)

-- replies that came elsewhere
module _ (ends : List WayEnd) (e : WayEnd) where
  one_stray : (j : ℕ) (b : Bool) → strays j e ≡ b → astray_of j (ends ++ e ∷ []) ≡ astray_of j ends + cond b 1 0
  one_stray j b is = count_push (strays j) ends e ∙ ap (λ c. astray_of j ends + cond c 1 0) is

  none_stray : (j : ℕ) → strays j e ≡ false → astray_of j ends ≡ astray_of j (ends ++ e ∷ [])
  none_stray j is = let h = one_stray j false is in omega (arith, h)

  quiet_strays : is_answer e ≡ false → (j : ℕ) → strays j e ≡ false
  quiet_strays quiet j = ap (λ b. b && ((e.tag.source == j) && not (is_at_home e.place e.tag.home))) quiet

  -- these numbers stay
  pub astray_kept : (counts after : List FlowCounts) → map (λ f. f.astray) after ≡ map (λ f. f.astray) counts → ((j : ℕ) → j < length counts → strays j e ≡ false) → AreAstray ends counts → AreAstray (ends ++ e ∷ []) after
  astray_kept counts after same none was j g found =
      let f = mapped_some (λ (f : FlowCounts). f.astray) counts j g.astray (ap (λ l. slice_get l j) (sym same) ∙ slice_get-map (λ (f : FlowCounts). f.astray) after j ∙ ap (option_map (λ (f : FlowCounts). f.astray)) found) in
      sym f.2 ∙ was j f.0 f.1 ∙ ap saturated (none_stray j (none j (slice_get_within counts j f.0 f.1)))

  pub astray_more : (counts : List FlowCounts) (k : ℕ) (f g : FlowCounts) → slice_get counts k ≡ Some f → g.astray ≡ saturated (f.astray + 1) → strays k e ≡ true → ((j : ℕ) → j ≢ k → strays j e ≡ false) → AreAstray ends counts
      → AreAstray (ends ++ e ∷ []) (slice_set counts k g)
  astray_more counts k f g at more away none was j z found = ⊎_elim
      (λ (eq : j ≡ k).
      let g_is : g ≡ z = some_inj g z (sym (set_same counts k g (slice_get_within counts k f at)) ∙ ap (slice_get (slice_set counts k g)) (sym eq) ∙ found) in
      let had = was k f at in
      let count = one_stray k true away in
      subst (λ i. z.astray ≡ saturated (astray_of i (ends ++ e ∷ []))) (sym eq) (ap (λ (v : FlowCounts). v.astray) (sym g_is) ∙ omega (arith, more, had, count)))
      (λ apart. was j z (sym (set_other counts k j g apart) ∙ found) ∙ ap saturated (none_stray j (none j apart)))
      (same_number j k)

-- whose a reply is
pub answer_yes : (e : WayEnd) (k : ℕ) → is_reply e.tag.role ≡ true → is_told e.reason ≡ true → e.tag.source ≡ k → (b : Bool) → is_at_home e.place e.tag.home ≡ b → (comes_home k e ≡ b) × (strays k e ≡ not b)
answer_yes e k reply told source b home = (
  (λ i. (reply i && told i) && ((source i == k) && home i)) ∙ ap (λ c. c && b) (number_tied k),
  (λ i. (reply i && told i) && ((source i == k) && not (home i))) ∙ ap (λ c. c && not b) (number_tied k),
)

pub answer_no : (e : WayEnd) (j : ℕ) → e.tag.source ≢ j → (comes_home j e ≡ false) × (strays j e ≡ false)
answer_no e j apart = (
  ap (λ b. is_answer e && (b && is_at_home e.place e.tag.home)) (number_apart e.tag.source j apart) ∙ never (is_answer e),
  ap (λ b. is_answer e && (b && not (is_at_home e.place e.tag.home))) (number_apart e.tag.source j apart) ∙ never (is_answer e),
)

-- what is not told answers none
pub quiet_end : (e : WayEnd) (f : Fate) (reason : Reason) → e.reason ≡ reason → FitsReason f reason → f ≢ fate.Told → is_answer e ≡ false
quiet_end e f reason is fits other = ap (λ b. is_reply e.tag.role && b) (ap is_told is ∙ untold f fits other) ∙ never (is_reply e.tag.role)
  where
    untold : (f : Fate) → FitsReason f reason → f ≢ fate.Told → is_told reason ≡ false
    untold fate.Told h other = absurd (other refl)
    untold fate.SentOn h other = h
    untold fate.Delivered h other = h
    untold fate.Requested h other = h
    untold fate.Refused h other = h
    untold fate.Discarded h other = h

pub quiet_because : (e : WayEnd) → is_told e.reason ≡ false → is_answer e ≡ false
quiet_because e h = ap (λ b. is_reply e.tag.role && b) h ∙ never (is_reply e.tag.role)

self_told : (b : Bool) → is_told (Counted (cond b count.ToSelf count.NoRoute)) ≡ false
self_told true = refl
self_told false = refl

pub unsent_told : (table : NodeConfiguration) (s : Option Source) → is_told (Counted (unsent_of table s)) ≡ false
unsent_told table None = refl
unsent_told table (Some s) = go s.traffic
  where
    go : (x : Traffic) → is_told (Counted (unsent_by table x)) ≡ false
    go (Cbr c) = self_told (is_own table c.to)
    go (Echo e) = self_told (is_own table e.to)
    go (Raw r) = refl

-- why a packet ends, by the counter that rose
pub reason_fits : (c : Counter) → FitsReason (fate_by c) (Counted c)
reason_fits count.Header = refl
reason_fits count.BadDest = refl
reason_fits count.NotMine = refl
reason_fits count.NoNet = refl
reason_fits count.Ttl = refl
reason_fits count.Forwarded = refl
reason_fits count.Fragment = refl
reason_fits count.IcmpBad = refl
reason_fits count.Echo = refl
reason_fits count.Icmp = refl
reason_fits count.UdpBad = refl
reason_fits count.Udp = refl
reason_fits count.Port = refl
reason_fits count.Proto = refl
reason_fits count.Quiet = refl
reason_fits count.ToSelf = refl
reason_fits count.NoRoute = refl
reason_fits count.Originated = refl
reason_fits count.Raw = refl

-- what follows of what an Ok brings
pub on_ok : {A E : Type 0} (r : Result A E) (P Q : Type 0) → (P → Q) → OnOk r P → OnOk r Q
on_ok (Ok a) P Q f h = f h
on_ok (Err e) P Q f h = h

pub ok_with : {A E : Type 0} (r : Result A E) (P Q R : Type 0) → (P → Q → R) → OnOk r P → Q → OnOk r R
ok_with (Ok a) P Q R f h g = f h g
ok_with (Err e) P Q R f h g = tt

pub ok_both : {A E : Type 0} (r : Result A E) (P Q R : Type 0) → (P → Q → R) → OnOk r P → OnOk r Q → OnOk r R
ok_both (Ok a) P Q R f h g = f h g
ok_both (Err e) P Q R f h g = tt

pub ok_of : {A E : Type 0} (r : Result A E) (P : Type 0) → P → OnOk r P
ok_of (Ok a) P h = h
ok_of (Err e) P h = tt

-- a way that ends, but not by a delivery
pub flows_lost : (ends : List WayEnd) (e : WayEnd) (tag : Tag) → e.tag ≡ tag → is_answer e ≡ false → (u : ℕ → ℕ) (counts after : List FlowCounts) (times : List FlowTimes) (p : PacketOutcome) → e.outcome ≡ p → p ≢ Delivered
    → AreFlows ends (λ j. one_of j tag + u j) counts times → AreOutcomes (ends ++ e ∷ []) u after → length after ≡ length counts → map (λ f. f.astray) after ≡ map (λ f. f.astray) counts
    → AreFlows (ends ++ e ∷ []) u after times
flows_lost ends e tag same quiet u counts after times p is other was outcomes count astray = record {
  outcomes = outcomes;
  arrivals = arrivals_kept ends e tag same u quiet times p is (differs p other) was.arrivals;
  astray = astray_kept ends e counts after astray (λ j low. quiet_strays ends e quiet j) was.astray;
  same = was.same ∙ sym count;
}
  where
    differs : (p : PacketOutcome) → p ≢ Delivered → (outcome_number p == 0) ≡ false
    differs Delivered h = absurd (h refl)
    differs Refused h = refl
    differs Dropped h = refl
    differs Discarded h = refl

-- another source's packet, or nobody's, ended
pub flows_end : (ends : List WayEnd) (e : WayEnd) (tag : Tag) → e.tag ≡ tag → is_answer e ≡ false → (u : ℕ → ℕ) (counts after : List FlowCounts) (times : List FlowTimes)
    → AreFlows ends (λ j. one_of j tag + u j) counts times → AreOutcomes (ends ++ e ∷ []) u after → length after ≡ length counts → map (λ f. f.astray) after ≡ map (λ f. f.astray) counts
    → ((j : ℕ) → j < length times → counts_for j tag ≡ false) → AreFlows (ends ++ e ∷ []) u after times
flows_end ends e tag same quiet u counts after times was outcomes count astray none = record {
  outcomes = outcomes;
  arrivals = arrivals_none ends e tag same u quiet times was.arrivals none;
  astray = astray_kept ends e counts after astray (λ j low. quiet_strays ends e quiet j) was.astray;
  same = was.same ∙ sym count;
}

-- counts that do not matter to these numbers
pub outcomes_as : (j : ℕ) (ends : List WayEnd) (n : ℕ) (f g : FlowCounts) → counts_of g ≡ counts_of f → HasOutcomes j ends n f → HasOutcomes j ends n g
outcomes_as j ends n f g is was =
    let z = parts j ends (record { tag = nobodys; outcome = Delivered; reason = Unknown; place = Node 0; time = 0; octets = 0 }) g.sent g.delivered g.refused g.dropped g.discarded g.under_way f.sent f.delivered f.refused f.dropped f.discarded f.under_way is in
    record { delivered = z.0 ∙ was.delivered; refused = z.1 ∙ was.refused; dropped = z.2 ∙ was.dropped; discarded = z.3 ∙ was.discarded; on_way = z.4 ∙ was.on_way }

-- a reply came home
pub flows_answered : (ends : List WayEnd) (e : WayEnd) (u : ℕ → ℕ) (counts : List FlowCounts) (times : List FlowTimes) → is_reply e.tag.role ≡ true → is_told e.reason ≡ true → is_at_home e.place e.tag.home ≡ true → AreFlows ends u counts times
    → (k : ℕ) (x y : FlowTimes) → slice_get times k ≡ Some x → e.tag.source ≡ k → y.delays ≡ x.delays → y.octets ≡ x.octets → y.ended ≡ x.ended
    → ((ds : List ℕ) → AreDelays ds x.round_trips → AreDelays (ds ++ (e.time - e.tag.at) ∷ []) y.round_trips) → AreFlows (ends ++ e ∷ []) u counts (slice_set times k y)
flows_answered ends e u counts times reply told home was k x y at source delays octets ended added = record {
  outcomes = λ j f found. outcomes_same j ends e (reply_not j ends e reply) (u j) f (was.outcomes j f found);
  arrivals = λ j z found. ⊎_elim
      (λ (eq : j ≡ k).
      let y_is : y ≡ z = some_inj y z (sym (set_same times k y (slice_get_within times k x at)) ∙ ap (slice_get (slice_set times k y)) (sym eq) ∙ found) in
      subst (λ i. HasArrivals i (ends ++ e ∷ []) z) (sym eq) (subst (HasArrivals k (ends ++ e ∷ [])) y_is
      (arrivals_answered k ends e reply (answer_yes e k reply told source true home).0 x y delays octets ended added (was.arrivals k x at))))
      (λ apart. arrivals_unanswered j ends e reply (answer_no e j (λ w. apart (sym w ∙ source))).0 z (was.arrivals j z (sym (set_other times k j y apart) ∙ found)))
      (same_number j k);
  astray = astray_kept ends e counts counts refl (λ j low. ⊎_elim
      (λ (eq : j ≡ k). (answer_yes e j reply told (source ∙ sym eq) true home).1)
      (λ apart. (answer_no e j (λ w. apart (sym w ∙ source))).1)
      (same_number j k)) was.astray;
  same = length-set times k y ∙ was.same;
}

-- elsewhere
pub flows_strayed : (ends : List WayEnd) (e : WayEnd) (u : ℕ → ℕ) (counts : List FlowCounts) (times : List FlowTimes) → is_reply e.tag.role ≡ true → is_told e.reason ≡ true → is_at_home e.place e.tag.home ≡ false → AreFlows ends u counts times
    → (k : ℕ) (f g : FlowCounts) → slice_get counts k ≡ Some f → e.tag.source ≡ k → counts_of g ≡ counts_of f → g.astray ≡ saturated (f.astray + 1) → AreFlows (ends ++ e ∷ []) u (slice_set counts k g) times
flows_strayed ends e u counts times reply told home was k f g at source is more = record {
  outcomes = λ j z found. ⊎_elim
      (λ (eq : j ≡ k).
      let g_is : g ≡ z = some_inj g z (sym (set_same counts k g (slice_get_within counts k f at)) ∙ ap (slice_get (slice_set counts k g)) (sym eq) ∙ found) in
      subst (λ i. HasOutcomes i (ends ++ e ∷ []) (u i) z) (sym eq) (subst (HasOutcomes k (ends ++ e ∷ []) (u k)) g_is
      (outcomes_same k ends e (reply_not k ends e reply) (u k) g (outcomes_as k ends (u k) f g is (was.outcomes k f at)))))
      (λ apart. outcomes_same j ends e (reply_not j ends e reply) (u j) z (was.outcomes j z (sym (set_other counts k j g apart) ∙ found)))
      (same_number j k);
  arrivals = λ j z found. arrivals_unanswered j ends e reply (⊎_elim
      (λ (eq : j ≡ k). (answer_yes e j reply told (source ∙ sym eq) false home).0)
      (λ apart. (answer_no e j (λ w. apart (sym w ∙ source))).0)
      (same_number j k)) z (was.arrivals j z found);
  astray = astray_more ends e counts k f g at more (answer_yes e k reply told source false home).1 (λ j apart. (answer_no e j (λ w. apart (sym w ∙ source))).1) was.astray;
  same = was.same ∙ sym (length-set counts k g);
}

-- to a packet of no source
pub flows_unasked : (ends : List WayEnd) (e : WayEnd) (u : ℕ → ℕ) (counts : List FlowCounts) (times : List FlowTimes) → is_reply e.tag.role ≡ true → length counts ≤ e.tag.source → AreFlows ends u counts times → AreFlows (ends ++ e ∷ []) u counts times
flows_unasked ends e u counts times reply past was = record {
  outcomes = λ j f found. outcomes_same j ends e (reply_not j ends e reply) (u j) f (was.outcomes j f found);
  arrivals = λ j z found. arrivals_unanswered j ends e reply (answer_no e j (λ w. let low = slice_get_within times j z found in let s = was.same in omega (arith, low, s, past, w))).0 z (was.arrivals j z found);
  astray = astray_kept ends e counts counts refl (λ j low. (answer_no e j (λ w. omega (arith, low, past, w))).1) was.astray;
  same = was.same;
}

-- so many are under way, said otherwise
pub flows_under : (ends : List WayEnd) (u w : ℕ → ℕ) (counts : List FlowCounts) (times : List FlowTimes) → ((j : ℕ) → u j ≡ w j) → AreFlows ends u counts times → AreFlows ends w counts times
flows_under ends u w counts times same was = record {
  outcomes = λ j f at. subst (λ n. HasOutcomes j ends n f) (same j) (was.outcomes j f at);
  arrivals = was.arrivals;
  astray = was.astray;
  same = was.same;
}

-- a packet of a source is delivered
pub flows_delivered : (ends : List WayEnd) (e : WayEnd) (tag : Tag) → e.tag ≡ tag → is_answer e ≡ false → e.outcome ≡ Delivered → is_sent tag.role ≡ true → (u : ℕ → ℕ) (counts after : List FlowCounts) (times : List FlowTimes)
    → AreFlows ends (λ j. one_of j tag + u j) counts times → AreOutcomes (ends ++ e ∷ []) u after → length after ≡ length counts → map (λ f. f.astray) after ≡ map (λ f. f.astray) counts
    → (k : ℕ) (x y : FlowTimes) → y.round_trips ≡ x.round_trips → slice_get times k ≡ Some x → tag.source ≡ k
    → ((ds : List ℕ) → AreDelays ds x.delays → AreDelays (ds ++ (e.time - tag.at) ∷ []) y.delays) → y.octets ≡ saturated (x.octets + e.octets) → y.ended ≡ e.time
    → AreFlows (ends ++ e ∷ []) u after (slice_set times k y)
flows_delivered ends e tag same quiet is sent u counts after times was outcomes count astray k x y trips at source added octets ended = record {
  outcomes = outcomes;
  astray = astray_kept ends e counts after astray (λ j low. quiet_strays ends e quiet j) was.astray;
  arrivals = arrivals_set ends e tag same u quiet times k x y trips was.arrivals at sent source is (subst (λ (g : Tag). (ds : List ℕ) → AreDelays ds x.delays → AreDelays (ds ++ (e.time - g.at) ∷ []) y.delays) (sym same) added) octets ended;
  same = length-set times k y ∙ was.same ∙ sym count;
}

-- what does not matter to these numbers
pub flows_times_as : (ends : List WayEnd) (u : ℕ → ℕ) (counts : List FlowCounts) (times : List FlowTimes) (k : ℕ) (x y : FlowTimes) → AreFlows ends u counts times → slice_get times k ≡ Some x
    → y.delays ≡ x.delays → y.round_trips ≡ x.round_trips → y.octets ≡ x.octets → y.ended ≡ x.ended → AreFlows ends u counts (slice_set times k y)
flows_times_as ends u counts times k x y was at delays trips octets ended = record {
  outcomes = was.outcomes;
  arrivals = λ j z found. ⊎_elim
      (λ (eq : j ≡ k).
      let y_is : y ≡ z = some_inj y z (sym (set_same times k y (slice_get_within times k x at)) ∙ ap (slice_get (slice_set times k y)) (sym eq) ∙ found) in
      let h = was.arrivals k x at in
      subst (λ i. HasArrivals i ends z) (sym eq) (subst (HasArrivals k ends) y_is
      (record { delays = subst (AreDelays (delays_of k ends)) (sym delays) h.delays; octets = octets ∙ h.octets; ended = ended ∙ h.ended; trips = subst (AreDelays (trips_of k ends)) (sym trips) h.trips })))
      (λ apart. was.arrivals j z (sym (set_other times k j y apart) ∙ found))
      (same_number j k);
  astray = was.astray;
  same = length-set times k y ∙ was.same;
}

-- a source makes a packet
module _ (k : ℕ) where
  pub outcomes_sent : (ends : List WayEnd) (u : ℕ → ℕ) (counts : List FlowCounts) (f g : FlowCounts) → AreOutcomes ends u counts → slice_get counts k ≡ Some f
      → g.under_way ≡ f.under_way + 1 → ended_of g ≡ ended_of f → AreOutcomes ends (λ j. one_of j (own_tag k 0 0 0) + u j) (slice_set counts k g)
  outcomes_sent ends u counts f g was at more is j z found = ⊎_elim
      (λ (eq : j ≡ k).
      let g_is : g ≡ z = some_inj g z (sym (set_same counts k g (slice_get_within counts k f at)) ∙ ap (slice_get (slice_set counts k g)) (sym eq) ∙ found) in
      let h = was k f at in
      let y = parts k ends (record { tag = nobodys; outcome = Delivered; reason = Unknown; place = Node 0; time = 0; octets = 0 }) 0 g.delivered g.refused g.dropped g.discarded 0 0 f.delivered f.refused f.dropped f.discarded 0 (ap (λ l. 0 ∷ l ++ 0 ∷ []) is) in
      let one = one_is k (own_tag k 0 0 0) (own_is k (own_tag k 0 0 0) refl refl) in
      let way = h.on_way in
      subst (λ i. HasOutcomes i ends (one_of i (own_tag k 0 0 0) + u i) z) (sym eq) (subst (HasOutcomes k ends (one_of k (own_tag k 0 0 0) + u k)) g_is (record {
        delivered = y.0 ∙ h.delivered;
        refused = y.1 ∙ h.refused;
        dropped = y.2 ∙ h.dropped;
        discarded = y.3 ∙ h.discarded;
        on_way = omega (arith, more, way, one);
      })))
      (λ apart.
      let none = one_not j (own_tag k 0 0 0) (own_not j (own_tag k 0 0 0) (λ w. apart (sym w))) in
      subst (λ n. HasOutcomes j ends n z) (omega (arith, none)) (was j z (sym (set_other counts k j g apart) ∙ found)))
      (same_number j k)

pub flows_sent : (k : ℕ) (ends : List WayEnd) (u : ℕ → ℕ) (counts : List FlowCounts) (times : List FlowTimes) (f g : FlowCounts) → AreFlows ends u counts times → slice_get counts k ≡ Some f
    → g.under_way ≡ f.under_way + 1 → ended_of g ≡ ended_of f → g.astray ≡ f.astray → AreFlows ends (λ j. one_of j (own_tag k 0 0 0) + u j) (slice_set counts k g) times
flows_sent k ends u counts times f g was at more is astray = record {
  outcomes = outcomes_sent k ends u counts f g was.outcomes at more is;
  arrivals = was.arrivals;
  astray = λ j z found. ⊎_elim
      (λ (eq : j ≡ k).
      let g_is : g ≡ z = some_inj g z (sym (set_same counts k g (slice_get_within counts k f at)) ∙ ap (slice_get (slice_set counts k g)) (sym eq) ∙ found) in
      subst (λ i. z.astray ≡ saturated (astray_of i ends)) (sym eq) (ap (λ (v : FlowCounts). v.astray) (sym g_is) ∙ astray ∙ was.astray k f at))
      (λ apart. was.astray j z (sym (set_other counts k j g apart) ∙ found))
      (same_number j k);
  same = was.same ∙ sym (length-set counts k g);
}

-- how many it had made
pub sent_is : (counts : List FlowCounts) (k : ℕ) (f : FlowCounts) (number : ℕ) → slice_get counts k ≡ Some f → slice_get (sent_numbers counts) k ≡ Some number → f.sent ≡ number
sent_is counts k f number at is = some_inj f.sent number (sym (slice_get-map (λ z. z.sent) counts k ∙ ap (option_map (λ z. z.sent)) at) ∙ is)

-- nothing was sent
pub arrivals_first : (j : ℕ) (x : FlowTimes) → AreDelays [] x.delays → AreDelays [] x.round_trips → x.octets ≡ 0 → x.ended ≡ 0 → HasArrivals j [] x
arrivals_first j x delays trips octets ended = record { delays = delays; octets = octets; ended = ended; trips = trips }

pub flows_first : (counts : List FlowCounts) (times : List FlowTimes) (n : ℕ) (none : FlowCounts) → counts ≡ replicate n none → none.delivered ≡ 0 → none.refused ≡ 0 → none.dropped ≡ 0 → none.discarded ≡ 0 → none.under_way ≡ 0 → none.astray ≡ 0
    → AreArrivals [] times → length times ≡ n → AreFlows [] (λ j. 0) counts times
flows_first counts times n none is a b c d e strayed arrivals count = record {
  outcomes = λ j f at.
      let within : j < length counts = slice_get_within counts j f at in
      let same : none ≡ f = sym (get_or-replicate n j none none (let l = ap length is ∙ length-replicate n none in omega (arith, within, l))) ∙ ap (λ l. get_or l j none) (sym is) ∙ get_or_from_slice_get counts j f none at in
      subst (HasOutcomes j [] 0) same (record { delivered = a; refused = b; dropped = c; discarded = d; on_way = e });
  arrivals = arrivals;
  astray = λ j f at.
      let within : j < length counts = slice_get_within counts j f at in
      let same : none ≡ f = sym (get_or-replicate n j none none (let l = ap length is ∙ length-replicate n none in omega (arith, within, l))) ∙ ap (λ l. get_or l j none) (sym is) ∙ get_or_from_slice_get counts j f none at in
      ap (λ (v : FlowCounts). v.astray) (sym same) ∙ strayed;
  same = count ∙ sym (ap length is ∙ length-replicate n none);
}

-- the greatest delays are looked for anew
pub flows_recent : (ends : List WayEnd) (u : ℕ → ℕ) (counts : List FlowCounts) (old new : List FlowTimes) → AreTurned IsRecent old new (length old) → length new ≡ length old
    → AreFlows ends u counts old → AreFlows ends u counts new
flows_recent ends u counts old new turned count was = record {
  outcomes = was.outcomes;
  arrivals = λ j y at.
      let z = turned j y at in
      let h = was.arrivals j z.0 z.1 in
      let r = z.2 (slice_get_within old j z.0 z.1) in
      record { delays = r.delays (delays_of j ends) h.delays; octets = r.octets ∙ h.octets; ended = r.ended ∙ h.ended; trips = subst (AreDelays (trips_of j ends)) (sym r.trips) h.trips };
  astray = was.astray;
  same = count ∙ was.same;
}

pub arrivals_found : (ends : List WayEnd) (u : ℕ → ℕ) (counts : List FlowCounts) (times : List FlowTimes) → AreFlows ends u counts times → (j : ℕ) → j < length counts → IsSomeAnd (slice_get times j) (HasArrivals j ends)
arrivals_found ends u counts times h j low = ⊎_elim
    (λ g. subst (λ o. IsSomeAnd o (HasArrivals j ends)) (sym g.2) (h.arrivals j g.0 g.2))
    (λ g. absurd (let s = h.same in omega (arith, low, s, g.0)))
    ((slice_get_cases times j).1)
