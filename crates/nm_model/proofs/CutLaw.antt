-- The cut law: a partition over valid knowledge computes its part of the whole network.
use Rattle.std.proofs.Common.{◌≡◌, ◌⊎◌, inl, inr, ℕ, zero, suc, ◌+◌, ◌-◌, ◌<◌, ◌≤◌, Bool, true, false, cond, min, List, [], length, Option, Some, None, refl, sym, ap, ◌∙◌, subst, arith, true≢false, ⊎_elim}
use Rattle.std.proofs.lemmas.Bool.{cases_lt}
use Rattle.std.proofs.lemmas.Bool.Decides.{nat_tests}
use Rattle.std.specs.FinMap.{get}
use Rattle.nm_base.specs.declared.key.Place.TheVariants.{Arrive}
use Rattle.nm_base.specs.declared.key.Key.{Key}
use Rattle.nm_model.specs.EventList.{least, is_before, next_time}
use Rattle.nm_model.specs.Replica.{from_scratch, safe_time, IsWithin}
use Rattle.nm_model.specs.Knowledge.{Knowledge, IsValid}
use Rattle.nm_model.specs.Partition.{in_part, comes_in, is_own_record}
use Rattle.nm_model.specs.Lists.{nth, IsPrefix, keep_where}
use Rattle.nm_model.specs.Network.{Net, IsNet}
use Rattle.nm_model.specs.Before.{is_at, events_at}
use Rattle.nm_model.specs.Run.{State, step_at, run, start, one_list, pends_before}
use Rattle.nm_model.proofs.Keys.{least_has, least_min, least_none, least_is, up_to_time}
use Rattle.nm_model.proofs.ListLemmas.{below_nth, nth_prefix, prefix_nth, prefix_self, prefix_trans, kept-append}
use Rattle.nm_model.proofs.Invariants.{Invariant}
use Rattle.nm_model.proofs.Orders.{all_by_node, orderly_whole}
use Rattle.nm_model.proofs.Runs.{Since, since, invariant_run, run_add}
use Rattle.nm_model.proofs.Cut.{Cut, Told, origin, bound, present, cut_other, cut_mine, safe_stop, safe_clock, channel_inside, both_ways}
use Rattle.nm_model.proofs.Begin.{cut_start}
use Rattle.nm_base.specs.declared.event.Event.{Event}

kept_prefix : {A : Type 0} (f : A → Bool) (xs ys : List A) → IsPrefix xs ys → IsPrefix (keep_where f xs) (keep_where f ys)
kept_prefix f xs ys a = (keep_where f a.0, sym (kept-append f xs a.0) ∙ ap (keep_where f) a.1)

pub until_at_most : {P : Type 0} (t : ℕ) (o : Option (Key × Event P)) → next_time t o ≤ t
until_at_most t None = omega arith
until_at_most t (Some e) = omega arith

module _ {P N : Type 0} where
  quiet_by : (t : ℕ) (s : State P N) (o : Option (Key × Event P)) → least s.pending ≡ o → is_before t o ≡ false → (q : Key) (y : Event P) → get s.pending q ≡ Some y → t ≤ q.time
  quiet_by t s None e h q y f = absurd (let g = least_none s.pending q e in cc)
  quiet_by t s (Some x) e h q y f = let a = up_to_time x.0 q (least_min s.pending x q y e f) in let b : t ≤ x.0.time = grind (arith, nat_tests) in omega arith

  -- where nothing below t is pending
  pub quiet : (t : ℕ) (s : State P N) → pends_before t s ≡ false → (q : Key) (y : Event P) → get s.pending q ≡ Some y → t ≤ q.time
  quiet t s h q y e = quiet_by t s (least s.pending) refl h q y e

  busy_by : (t : ℕ) (s : State P N) (o : Option (Key × Event P)) → least s.pending ≡ o → is_before t o ≡ true → (x : Key × Event P) × (least s.pending ≡ Some x) × (x.0.time < t)
  busy_by t s None e h = absurd (true≢false (sym h))
  busy_by t s (Some x) e h = (x, e, grind (arith, nat_tests))

  pub least_busy : (t : ℕ) (s : State P N) → pends_before t s ≡ true → (x : Key × Event P) × (least s.pending ≡ Some x) × (x.0.time < t)
  least_busy t s h = busy_by t s (least s.pending) refl h

  pub not_busy : (t : ℕ) (s : State P N) → ((q : Key) (y : Event P) → get s.pending q ≡ Some y → t ≤ q.time) → pends_before t s ≡ false
  not_busy t s h = go (pends_before t s) refl
    where
      go : (b : Bool) → pends_before t s ≡ b → b ≡ false
      go false e = refl
      go true e = let x = least_busy t s e in let a = h x.0.0 x.0.1 (least_has s.pending x.0 x.1) in absurd (omega (arith, x.2))

module _ {P N : Type 0} (net : Net P N) (ok : IsNet net) (p : ℕ) where
  done_rises : (n : ℕ) → events_at net (in_part net p) n ≤ events_at net (in_part net p) (suc n)
  done_rises n = go (is_at (in_part net p) (least (one_list net n).pending))
    where
      go : (b : Bool) → events_at net (in_part net p) n ≤ cond b (suc (events_at net (in_part net p) n)) (events_at net (in_part net p) n)
      go true = omega arith
      go false = omega arith

  -- some step before is the partition's k-th
  crossing : (k m : ℕ) → k < events_at net (in_part net p) m → (n : ℕ) × (n < m) × (events_at net (in_part net p) n ≡ k) × (is_at (in_part net p) (least (one_list net n).pending) ≡ true)
  crossing k zero h = absurd (omega arith)
  crossing k (suc m) h = go (is_at (in_part net p) (least (one_list net m).pending)) refl h (λ i. crossing k m i)
    where
      go : (b : Bool) → is_at (in_part net p) (least (one_list net m).pending) ≡ b → k < cond b (suc (events_at net (in_part net p) m)) (events_at net (in_part net p) m) → (k < events_at net (in_part net p) m → (n : ℕ) × (n < m) × (events_at net (in_part net p) n ≡ k) × (is_at (in_part net p) (least (one_list net n).pending) ≡ true)) → (n : ℕ) × (n < suc m) × (events_at net (in_part net p) n ≡ k) × (is_at (in_part net p) (least (one_list net n).pending) ≡ true)
      go false e i rest = let r = rest i in (r.0, omega (arith, r.1), r.2, r.3)
      go true e i rest = ⊎_elim
          (λ lt. let r = rest lt in (r.0, omega (arith, r.1), r.2, r.3))
          (λ le. (m, omega arith, omega arith, e))
          (cases_lt k (events_at net (in_part net p) m))

  -- some state before has done k of the partition's events
  reached : (k m : ℕ) → k ≤ events_at net (in_part net p) m → (n : ℕ) × (n ≤ m) × (events_at net (in_part net p) n ≡ k)
  reached k m h = ⊎_elim
      (λ lt. let c = crossing k m lt in (c.0, omega (arith, c.1), c.2))
      (λ le. (m, omega arith, omega arith))
      (cases_lt k (events_at net (in_part net p) m))

  pub rest_of_run : (m n : ℕ) → n ≤ m → run net (λ q. true) (m - n) (one_list net n) ≡ one_list net m
  rest_of_run m n h =
      let e : m - n + n ≡ m = omega arith in
      sym (run_add net (λ q. true) (m - n) n (start net (λ q. true) [])) ∙ ap (one_list net) e

  -- from a state at which nothing below t is pending
  pub since_run : (m n t : ℕ) → n ≤ m → ((q : Key) (y : Event P) → get (one_list net n).pending q ≡ Some y → t ≤ q.time) → Since net (one_list net n) t (one_list net m)
  since_run m n t h from = subst (Since net (one_list net n) t) (rest_of_run m n h) (since net ok (λ q. true) (all_by_node net) (m - n) (one_list net n) t (orderly_whole net ok n) from)

  -- K is valid for what the whole network puts on the channels before stop, which it reaches after last steps
  module _ (K : Knowledge P) (last : ℕ) (ends : pends_before net.stop (one_list net last) ≡ false) (valid : (c : ℕ) → comes_in net p c ≡ true → IsValid (K c) ((one_list net last).sent c)) where
    safe_below : (c : ℕ) → comes_in net p c ≡ true → safe_time net p K ≤ (K c).clock
    safe_below c ch = safe_clock net p K c net.ifaces (channel_inside net p ok c ch) ch

    -- a message of K was put on its channel, or comes later
    told_before : (n t : ℕ) → n ≤ last → ((q : Key) (y : Event P) → get (one_list net n).pending q ≡ Some y → t ≤ q.time) → Told net p K (one_list net n) t
    told_before n t h from c i b ch e =
        let s = since_run last n t h from in
        let f = prefix_nth _ _ i b (valid c ch).begins e in
        ⊎_elim
        (λ lt. inl (nth_prefix _ _ i b (s.grows c) lt f))
        (λ le. inr (let w = s.late c i b le f in let z = ok.takes_time (net.far_end c) b.1 in omega arith))
        (cases_lt i (length ((one_list net n).sent c)))

    told_after : (n t : ℕ) → last ≤ n → Told net p K (one_list net n) t
    told_after n t h c i b ch e =
        let s = since_run n last net.stop h (quiet net.stop (one_list net last) ends) in
        inl (prefix_nth _ _ i b (s.grows c) (prefix_nth _ _ i b (valid c ch).begins e))

    -- what is put on a channel before the safe time is in K
    full_before : (n : ℕ) → n ≤ last → (c i : ℕ) (b : ℕ × P) → comes_in net p c ≡ true → nth ((one_list net n).sent c) i ≡ Some b → b.0 < safe_time net p K → nth (K c).list i ≡ Some b
    full_before n h c i b ch e lt =
        let s = since_run last n 0 h (λ q y f. omega arith) in
        let f = prefix_nth _ _ i b (s.grows c) e in
        ⊎_elim
        (λ less. nth_prefix _ _ i b (valid c ch).begins less f)
        (λ le. absurd (let w = (valid c ch).later i b le f in let z = safe_below c ch in omega arith))
        (cases_lt i (length (K c).list))

    -- below the safe time the partition's next event is the whole network's next one there
    same_least : (n k : ℕ) → Cut net p K (one_list net n) (from_scratch net p K k) → n ≤ last → (e : Key × Event P) → least (one_list net n).pending ≡ Some e → is_at (in_part net p) (Some e) ≡ true → e.0.time < safe_time net p K → least (from_scratch net p K k).pending ≡ Some e
    same_least n k cut h e m mn lt =
        let g = invariant_run net ok n in
        let told = told_before n e.0.time h (λ q y f. up_to_time e.0 q (least_min (one_list net n).pending e q y m f)) in
        least_is (from_scratch net p K k).pending e.0 e.1
        (present net p ok K (one_list net n) (from_scratch net p K k) cut g.0 g.1 e.0 e.1 m (λ c i b ch f le. full_before n h c i b ch f (omega arith)) mn)
        (λ q y f. bound net p ok K (one_list net n) (from_scratch net p K k) cut g.0 g.1 e.0 e.1 m told q y f)

    -- while something below the safe time is pending at the partition, the whole network's next event is below it too
    least_below : (n k : ℕ) → Cut net p K (one_list net n) (from_scratch net p K k) → pends_before (safe_time net p K) (from_scratch net p K k) ≡ true → (e : Key × Event P) → least (one_list net n).pending ≡ Some e → e.0.time < safe_time net p K
    least_below n k cut b e m =
        let g = invariant_run net ok n in
        let x = least_busy (safe_time net p K) (from_scratch net p K k) b in
        let has = least_has (from_scratch net p K k).pending x.0 x.1 in
        let from : (q : Key) (y : Event P) → get (one_list net n).pending q ≡ Some y → e.0.time ≤ q.time = λ q y f. up_to_time e.0 q (least_min (one_list net n).pending e q y m f) in
        let up = ⊎_elim
        (λ le. bound net p ok K (one_list net n) (from_scratch net p K k) cut g.0 g.1 e.0 e.1 m (told_before n e.0.time le from) x.0.0 x.0.1 has)
        (λ lt. bound net p ok K (one_list net n) (from_scratch net p K k) cut g.0 g.1 e.0 e.1 m (told_after n e.0.time (omega arith)) x.0.0 x.0.1 has)
        (le_or n last) in
        let t = up_to_time e.0 x.0.0 up in omega (arith, x.2)
      where
        le_or : (a b : ℕ) → (a ≤ b) ⊎ (b < a)
        le_or a b = grind arith

    cut_step : (n : ℕ) → Cut net p K (one_list net n) (from_scratch net p K (events_at net (in_part net p) n)) → (o : Option (Key × Event P)) → least (one_list net n).pending ≡ o → IsWithin net p K (cond (is_at (in_part net p) o) (suc (events_at net (in_part net p) n)) (events_at net (in_part net p) n)) → Cut net p K (step_at net (λ q. true) (one_list net n) o) (from_scratch net p K (cond (is_at (in_part net p) o) (suc (events_at net (in_part net p) n)) (events_at net (in_part net p) n)))
    cut_step n cut None m w = cut
    cut_step n cut (Some e) m w = go (in_part net p e.0.place) refl w
      where
        g : (now : ℕ) × Invariant net (one_list net n) now
        g = invariant_run net ok n

        next : State P N
        next = step_at net (λ q. true) (one_list net n) (Some e)

        go : (b : Bool) → in_part net p e.0.place ≡ b → IsWithin net p K (cond b (suc (events_at net (in_part net p) n)) (events_at net (in_part net p) n)) → Cut net p K (step_at net (λ q. true) (one_list net n) (Some e)) (from_scratch net p K (cond b (suc (events_at net (in_part net p) n)) (events_at net (in_part net p) n)))
        go false mn w' = cut_other net p ok K (one_list net n) (from_scratch net p K (events_at net (in_part net p) n)) cut g.0 g.1 e.0 e.1 m mn
        go true mn w' =
            let lt = least_below n (events_at net (in_part net p) n) cut (w' (events_at net (in_part net p) n) (omega arith)) e m in
            let st = safe_stop net p K net.ifaces in
            ⊎_elim
            (λ before.
            let l = same_least n (events_at net (in_part net p) n) cut (omega arith) e m mn lt in
            subst (λ o. Cut net p K (step_at net (λ q. true) (one_list net n) (Some e)) (step_at net (in_part net p) (from_scratch net p K (events_at net (in_part net p) n)) o)) (sym l)
            (cut_mine net p ok K (one_list net n) (from_scratch net p K (events_at net (in_part net p) n)) cut g.0 g.1 e.0 e.1 m mn (least_has _ e l)))
            (λ after.
            let s = since_run n last net.stop after (quiet net.stop (one_list net last) ends) in
            let t = s.from e.0 e.1 (least_has (one_list net n).pending e m) in absurd (omega arith))
            (cases_lt n last)

    -- the cut of the whole network after n events is the partition after its own among them
    pub cut_run : (n : ℕ) → IsWithin net p K (events_at net (in_part net p) n) → Cut net p K (one_list net n) (from_scratch net p K (events_at net (in_part net p) n))
    cut_run zero w = cut_start net p ok K
    cut_run (suc n) w = cut_step n (cut_run n (λ m lt. w m (let r = done_rises n in omega arith))) (least (one_list net n).pending) refl w

    pub cut_of : (n k : ℕ) → IsWithin net p K k → events_at net (in_part net p) n ≡ k → Cut net p K (one_list net n) (from_scratch net p K k)
    cut_of n k w e = subst (λ j. IsWithin net p K j → Cut net p K (one_list net n) (from_scratch net p K j)) e (cut_run n) w

    -- where nothing below t is pending in the whole network, and K tells all below it
    caught_up : (n k t : ℕ) → IsWithin net p K k → Told net p K (one_list net n) t → safe_time net p K ≤ t → ((q : Key) (y : Event P) → get (one_list net n).pending q ≡ Some y → t ≤ q.time) → k ≤ events_at net (in_part net p) n
    caught_up n k t w told le from = ⊎_elim
        (λ lt.
        let cut = cut_of n (events_at net (in_part net p) n) (λ m i. w m (omega arith)) refl in
        let g = invariant_run net ok n in
        let x = least_busy (safe_time net p K) (from_scratch net p K (events_at net (in_part net p) n)) (w (events_at net (in_part net p) n) lt) in
        absurd (⊎_elim
        (λ f. let i = from x.0.0 x.0.1 f in omega (arith, x.2))
        (λ i. omega (arith, x.2))
        (origin net p ok K (one_list net n) (from_scratch net p K (events_at net (in_part net p) n)) cut g.0 g.1 t told x.0.0 x.0.1 (least_has _ x.0 x.1))))
        (λ h. h)
        (cases_lt (events_at net (in_part net p) n) k)

    all_done : (k : ℕ) → IsWithin net p K k → k ≤ events_at net (in_part net p) last
    all_done k w = caught_up last k net.stop w (told_after last net.stop (omega arith)) (safe_stop net p K net.ifaces) (quiet net.stop (one_list net last) ends)

    -- the state of the whole network that has done just these
    pub meets : (k : ℕ) → IsWithin net p K k → (n : ℕ) × (n ≤ last) × (events_at net (in_part net p) n ≡ k)
    meets k w = reached k last (all_done k w)

    records_grow : (n d : ℕ) → IsPrefix (one_list net n).records (run net (λ q. true) d (one_list net n)).records
    records_grow n zero = prefix_self _
    records_grow n (suc d) = prefix_trans _ _ _ (records_grow n d) (one (run net (λ q. true) d (one_list net n)) _)
      where
        one : (s : State P N) (o : Option (Key × Event P)) → IsPrefix s.records (step_at net (λ q. true) s o).records
        one s None = prefix_self _
        one s (Some e) = (_, refl)

    pub trace_prefix : (k : ℕ) → IsWithin net p K k → IsPrefix (from_scratch net p K k).records (keep_where (is_own_record net p) (one_list net last).records)
    trace_prefix k w =
        let n = meets k w in
        let cut = cut_of n.0 k w n.2 in
        let grow = subst (λ s. IsPrefix (one_list net n.0).records s.records) (rest_of_run last n.0 n.1) (records_grow n.0 (last - n.0)) in
        subst (λ l. IsPrefix l (keep_where (is_own_record net p) (one_list net last).records)) cut.agrees.records (kept_prefix (is_own_record net p) _ _ grow)

    -- when all that is safe has run, it is what the whole network had before the safe time
    pub count_is : (k m : ℕ) → IsWithin net p K k → pends_before (safe_time net p K) (from_scratch net p K k) ≡ false → pends_before (safe_time net p K) (one_list net m) ≡ false → ((n : ℕ) → n < m → pends_before (safe_time net p K) (one_list net n) ≡ true) → events_at net (in_part net p) m ≡ k
    count_is k m w over quiet_m first = ⊎_elim
        (λ lt. absurd (ahead lt))
        (λ le. let h = behind in omega arith)
        (cases_lt k (events_at net (in_part net p) m))
      where
        inside : m ≤ last
        inside = ⊎_elim
            (λ lt. both_ways (pends_before (safe_time net p K) (one_list net last)) (first last lt) (not_busy (safe_time net p K) (one_list net last) (λ q y e. let a = quiet net.stop (one_list net last) ends q y e in let b = safe_stop net p K net.ifaces in omega arith)))
            (λ le. le)
            (cases_lt last m)

        behind : k ≤ events_at net (in_part net p) m
        behind = caught_up m k (safe_time net p K) w (told_before m (safe_time net p K) inside (quiet (safe_time net p K) (one_list net m) quiet_m)) (omega arith) (quiet (safe_time net p K) (one_list net m) quiet_m)

        ahead : k < events_at net (in_part net p) m → ⊥
        ahead lt =
            let c = crossing k m lt in
            let cut = cut_of c.0 k w c.2 in
            let x = least_busy (safe_time net p K) (one_list net c.0) (first c.0 c.1) in
            let mn : is_at (in_part net p) (Some x.0) ≡ true = ap (is_at (in_part net p)) (sym x.1) ∙ c.3 in
            let l = same_least c.0 k cut (let i = inside in omega (arith, c.1)) x.0 x.1 mn x.2 in
            let t = quiet (safe_time net p K) (from_scratch net p K k) over x.0.0 x.0.1 (least_has _ x.0 l) in
            omega (arith, x.2)

    pub trace_exact : (k m : ℕ) → IsWithin net p K k → pends_before (safe_time net p K) (from_scratch net p K k) ≡ false → pends_before (safe_time net p K) (one_list net m) ≡ false → ((n : ℕ) → n < m → pends_before (safe_time net p K) (one_list net n) ≡ true) → (from_scratch net p K k).records ≡ keep_where (is_own_record net p) (one_list net m).records
    trace_exact k m w over quiet_m first = sym (cut_of m k w (count_is k m w over quiet_m first)).agrees.records

    -- outgoing lists
    pub out_prefix : (k c : ℕ) → IsWithin net p K k → in_part net p (Arrive (net.far_end c)) ≡ true → IsPrefix ((from_scratch net p K k).sent c) ((one_list net last).sent c)
    out_prefix k c w mc =
        let n = meets k w in
        let cut = cut_of n.0 k w n.2 in
        let s = since_run last n.0 0 n.1 (λ q y f. omega arith) in
        subst (λ l. IsPrefix l ((one_list net last).sent c)) (cut.agrees.sent c mc) (s.grows c)

    -- the partition's next event is not before what its promises count from
    not_before : (n k : ℕ) → Cut net p K (one_list net n) (from_scratch net p K k) → n ≤ last → (e : Key × Event P) → least (one_list net n).pending ≡ Some e → is_at (in_part net p) (Some e) ≡ true → next_time (min net.stop (safe_time net p K)) (least (from_scratch net p K k).pending) ≤ e.0.time
    not_before n k cut h e m mn = ⊎_elim
        (λ lt.
        let l = same_least n k cut h e m mn lt in
        let f = ap (next_time (min net.stop (safe_time net p K))) l in omega arith)
        (λ le. let f = until_at_most (min net.stop (safe_time net p K)) (least (from_scratch net p K k).pending) in omega arith)
        (cases_lt e.0.time (safe_time net p K))

    out_from : (k c : ℕ) → in_part net p (Arrive (net.far_end c)) ≡ true → (i : ℕ) (b : ℕ × P) → length ((from_scratch net p K k).sent c) ≤ i → nth ((one_list net last).sent c) i ≡ Some b → (d n : ℕ) → d + n ≡ last → Cut net p K (one_list net n) (from_scratch net p K k) → next_time (min net.stop (safe_time net p K)) (least (from_scratch net p K k).pending) + net.tx (net.far_end c) b.1 + net.delay (net.far_end c) ≤ b.0
    out_from k c mc i b le e zero n f cut =
        let nn : n ≡ last = omega (arith, f) in
        let same : (from_scratch net p K k).sent c ≡ (one_list net last).sent c = sym (cut.agrees.sent c mc) ∙ ap (λ m. (one_list net m).sent c) nn in
        let lt = below_nth _ i b e in
        let len = ap length same in absurd (omega arith)
    out_from k c mc i b le e (suc d) n f cut = go (least (one_list net n).pending) refl (λ next. out_from k c mc i b le e d (suc n) (omega (arith, f)) next)
      where
        go : (o : Option (Key × Event P)) → least (one_list net n).pending ≡ o → (Cut net p K (one_list net (suc n)) (from_scratch net p K k) → next_time (min net.stop (safe_time net p K)) (least (from_scratch net p K k).pending) + net.tx (net.far_end c) b.1 + net.delay (net.far_end c) ≤ b.0) → next_time (min net.stop (safe_time net p K)) (least (from_scratch net p K k).pending) + net.tx (net.far_end c) b.1 + net.delay (net.far_end c) ≤ b.0
        go None m rest = rest (subst (λ o. Cut net p K (step_at net (λ q. true) (one_list net n) o) (from_scratch net p K k)) (sym m) cut)
        go (Some x) m rest = mine_or (in_part net p x.0.place) refl
          where
            mine_or : (v : Bool) → in_part net p x.0.place ≡ v → next_time (min net.stop (safe_time net p K)) (least (from_scratch net p K k).pending) + net.tx (net.far_end c) b.1 + net.delay (net.far_end c) ≤ b.0
            mine_or false mn =
                let g = invariant_run net ok n in
                rest (subst (λ o. Cut net p K (step_at net (λ q. true) (one_list net n) o) (from_scratch net p K k)) (sym m)
                (cut_other net p ok K (one_list net n) (from_scratch net p K k) cut g.0 g.1 x.0 x.1 m mn))
            mine_or true mn =
                let h : n ≤ last = omega (arith, f) in
                let low = not_before n k cut h x m mn in
                let s = since_run last n x.0.time h (λ q y z. up_to_time x.0 q (least_min (one_list net n).pending x q y m z)) in
                let len = ap length (cut.agrees.sent c mc) in
                let late = s.late c i b (omega arith) e in
                omega arith

    pub out_timed : (k c : ℕ) → IsWithin net p K k → in_part net p (Arrive (net.far_end c)) ≡ true → (i : ℕ) (b : ℕ × P) → length ((from_scratch net p K k).sent c) ≤ i → nth ((one_list net last).sent c) i ≡ Some b → next_time (min net.stop (safe_time net p K)) (least (from_scratch net p K k).pending) + net.tx (net.far_end c) b.1 + net.delay (net.far_end c) ≤ b.0
    out_timed k c w mc i b le e =
        let n = meets k w in
        out_from k c mc i b le e (last - n.0) n.0 (omega (arith, n.1)) (cut_of n.0 k w n.2)
