-- Books that certify one another are the whole network's.
use Rattle.std.proofs.Common.{◌≡◌, ◌⊎◌, inl, inr, ℕ, zero, suc, ◌+◌, ◌-◌, ◌<◌, ◌≤◌, Bool, true, false, cond, length, Option, Some, None, refl, sym, ap, ◌∙◌, subst, arith, true≢false, ⊎_elim}
use Rattle.std.proofs.lemmas.Bool.{cases_lt}
use Rattle.std.proofs.lemmas.Bool.Decides.{nat_tests}
use Rattle.std.specs.FinMap.{get}
use Rattle.nm_base.specs.declared.key.Key.{Key}
use Rattle.nm_model.specs.EventList.{least, is_before}
use Rattle.nm_model.specs.Certificate.{AreFinished, is_done}
use Rattle.nm_model.specs.Replica.{inbox_events, from_scratch, safe_time}
use Rattle.nm_model.specs.Knowledge.{Knowledge}
use Rattle.nm_model.specs.Partition.{in_part, comes_in}
use Rattle.nm_model.specs.Lists.{nth, IsPrefix}
use Rattle.nm_model.specs.Network.{Net, IsNet}
use Rattle.nm_model.specs.Before.{is_at, events_at, IsBefore, trace}
use Rattle.nm_model.specs.Run.{State, step_at, start, one_list, pends_before}
use Rattle.nm_model.specs.Partition.{sender_of}
use Rattle.nm_model.specs.Rounds.{given}
use Rattle.nm_model.specs.World.{Replica}
use Rattle.nm_model.proofs.Keys.{least_has, least_min, least_none, least_is, up_to_time}
use Rattle.nm_model.proofs.ListLemmas.{number_is, number_tied, below_nth, nth_below, nth_prefix, prefix_nth}
use Rattle.nm_model.proofs.Runs.{Since, since, invariant_run, run_add}
use Rattle.nm_model.proofs.Orders.{part_by_node}
use Rattle.nm_model.proofs.Begin.{cut_start, orderly_part}
use Rattle.nm_model.proofs.Cut.{and_both, not_true, Cut, Told, origin_at, origin, bound, present, cut_other, cut_mine, safe_clock, channel_inside}
use Rattle.nm_model.proofs.CutLaw.{quiet, least_busy}
use Rattle.nm_base.specs.declared.event.Event.{Event}

module _ {P N : Type 0} (net : Net P N) (ok : IsNet net) (p : ℕ) (K : Knowledge P) where
  pub from_since : (j k t : ℕ) → j ≤ k → ((q : Key) (y : Event P) → get (from_scratch net p K j).pending q ≡ Some y → t ≤ q.time) → Since net (from_scratch net p K j) t (from_scratch net p K k)
  from_since j k t le h =
      let e : k - j + j ≡ k = omega arith in
      subst (Since net (from_scratch net p K j) t) (sym (run_add net (in_part net p) (k - j) j (start net (in_part net p) (inbox_events net p K))) ∙ ap (from_scratch net p K) e)
      (since net ok (in_part net p) (part_by_node net p) (k - j) (from_scratch net p K j) t (orderly_part net ok p K j) h)

module _ {P N : Type 0} (net : Net P N) where
  pub done_safe : (p : ℕ) (x : Replica P) → is_done net p x ≡ true → safe_time net p x.knowledge ≡ net.stop
  done_safe p x h = number_is (safe_time net p x.knowledge) net.stop (and_both _ _ h).0

  pub done_over : (p : ℕ) (x : Replica P) → is_done net p x ≡ true → pends_before net.stop (from_scratch net p x.knowledge x.ran) ≡ false
  done_over p x h = not_true _ (and_both _ _ h).1

module _ {P N : Type 0} (net : Net P N) (ok : IsNet net) (books : ℕ → Replica P) (cert : AreFinished net books) where
  abbrev known : ℕ → Knowledge P
  known p = (books p).knowledge

  -- every partition has done its part of the first n events
  record Follows (n : ℕ) : Type 0 where
    cut : (p : ℕ) → Cut net p (known p) (one_list net n) (from_scratch net p (known p) (events_at net (in_part net p) n))
    inside : (p : ℕ) → events_at net (in_part net p) n ≤ (books p).ran

  module _ (n : ℕ) (f : Follows n) where
    -- what was put on a channel is the beginning of what the sender's book puts on it
    line : (c : ℕ) → (one_list net n).sent c ≡ (from_scratch net (sender_of net c) (known (sender_of net c)) (events_at net (in_part net (sender_of net c)) n)).sent c
    line c = (f.cut (sender_of net c)).agrees.sent c (number_tied (sender_of net c))

    line_begins : (c : ℕ) → IsPrefix ((one_list net n).sent c) (given net books c)
    line_begins c = subst (λ l. IsPrefix l (given net books c)) (sym (line c))
        ((from_since net ok (sender_of net c) (known (sender_of net c)) (events_at net (in_part net (sender_of net c)) n) (books (sender_of net c)).ran 0 (f.inside (sender_of net c)) (λ q y e. omega arith)).grows c)

    module _ (t : ℕ) (from : (q : Key) (y : Event P) → get (one_list net n).pending q ≡ Some y → t ≤ q.time) where
      -- a message that a book was told of was put on its channel, or comes after t: by induction on its time
      told_by : (fuel p c i : ℕ) (b : ℕ × P) → b.0 < fuel → comes_in net p c ≡ true → nth ((known p) c).list i ≡ Some b → (nth ((one_list net n).sent c) i ≡ Some b) ⊎ (t < b.0)
      told_by zero p c i b lt ch e = absurd (omega arith)
      told_by (suc fuel) p c i b lt ch e = ⊎_elim
          (λ less. inl (nth_prefix _ _ i b (line_begins c) less in_given))
          (λ le. inr (unsent le (least at.pending) refl (λ q y lt' d ch' e'. told_by fuel (sender_of net c) d q.number (q.time, y) lt' ch' e')))
          (cases_lt i (length ((one_list net n).sent c)))
        where
          at : State P N
          at = from_scratch net (sender_of net c) (known (sender_of net c)) (events_at net (in_part net (sender_of net c)) n)

          in_given : nth (given net books c) i ≡ Some b
          in_given = prefix_nth _ _ i b (cert.begins p c ch) e

          unsent : length ((one_list net n).sent c) ≤ i → (o : Option (Key × Event P)) → least (from_scratch net (sender_of net c) (known (sender_of net c)) (events_at net (in_part net (sender_of net c)) n)).pending ≡ o → ((q : Key) (y : P) → q.time < fuel → (d : ℕ) → comes_in net (sender_of net c) d ≡ true → nth ((known (sender_of net c)) d).list q.number ≡ Some (q.time, y) → (nth ((one_list net n).sent d) q.number ≡ Some (q.time, y)) ⊎ (t < q.time)) → t < b.0
          unsent le o m again = go o m
            where
              later : (u : ℕ) → ((q : Key) (y : Event P) → get (from_scratch net (sender_of net c) (known (sender_of net c)) (events_at net (in_part net (sender_of net c)) n)).pending q ≡ Some y → u ≤ q.time) → suc u + net.delay (net.far_end c) ≤ b.0
              later u h =
                  let s = from_since net ok (sender_of net c) (known (sender_of net c)) (events_at net (in_part net (sender_of net c)) n) (books (sender_of net c)).ran u (f.inside (sender_of net c)) h in
                  let len = ap length (line c) in
                  let l = s.late c i b (omega arith) in_given in let z = ok.takes_time (net.far_end c) b.1 in omega arith

              go : (o : Option (Key × Event P)) → least (from_scratch net (sender_of net c) (known (sender_of net c)) (events_at net (in_part net (sender_of net c)) n)).pending ≡ o → t < b.0
              go None z = absurd (let l = later b.0 (λ q y g. absurd (let none = least_none _ q z in cc)) in omega arith)
              go (Some x) z =
                  let l = later x.0.time (λ q y g. up_to_time x.0 q (least_min _ x q y z g)) in
                  let g = invariant_run net ok n in
                  let has = least_has _ x z in
                  let o' = origin_at net (sender_of net c) ok (known (sender_of net c)) (one_list net n) (from_scratch net (sender_of net c) (known (sender_of net c)) (events_at net (in_part net (sender_of net c)) n)) (f.cut (sender_of net c)) g.0 g.1 t x.0 x.1 (λ d z' ch' e'. again x.0 z' (omega arith) d ch' e') has in
                  ⊎_elim (λ h. let w = from x.0 x.1 h in omega arith) (λ h. omega arith) o'

      told_at : (p : ℕ) → Told net p (known p) (one_list net n) t
      told_at p c i b ch e = told_by (suc b.0) p c i b (omega arith) ch e

    -- what was put on a channel before stop, the receiver knows
    full_at : (p c i : ℕ) (b : ℕ × P) → comes_in net p c ≡ true → nth ((one_list net n).sent c) i ≡ Some b → b.0 < net.stop → nth ((known p) c).list i ≡ Some b
    full_at p c i b ch e lt = ⊎_elim
        (λ less. nth_prefix _ _ i b (cert.begins p c ch) less (prefix_nth _ _ i b (line_begins c) e))
        (λ le. absurd (
        let below = below_nth _ i b e in
        let x = nth_below ((one_list net n).sent c) (length ((known p) c).list) (omega arith) in
        let clock = cert.next p c x.0 ch (prefix_nth _ _ _ x.0 (line_begins c) x.1) in
        let safe = safe_clock net p (known p) c net.ifaces (channel_inside net p ok c ch) ch in
        let stop = done_safe net p (books p) (cert.done p) in
        let order = in_order x.0 x.1 le in omega arith))
        (cases_lt i (length ((known p) c).list))
      where
        in_order : (x : ℕ × P) → nth ((one_list net n).sent c) (length ((known p) c).list) ≡ Some x → length ((known p) c).list ≤ i → x.0 ≤ b.0
        in_order x h le = ⊎_elim
            (λ lt'. let g = invariant_run net ok n in let r = g.1.rising c _ i x b lt' h e in omega arith)
            (λ ge. let same : length ((known p) c).list ≡ i = omega arith in
            let f' = ap (nth ((one_list net n).sent c)) (sym same) ∙ h in
            let xb : b ≡ x = cc in let z = ap (λ v. v.0) xb in omega arith)
            (cases_lt (length ((known p) c).list) i)

    follows_step : (e : Key × Event P) → least (one_list net n).pending ≡ Some e → e.0.time < net.stop → (p : ℕ) → (v : Bool) → in_part net p e.0.place ≡ v → Cut net p (known p) (step_at net (λ q. true) (one_list net n) (Some e)) (from_scratch net p (known p) (cond v (suc (events_at net (in_part net p) n)) (events_at net (in_part net p) n))) × (cond v (suc (events_at net (in_part net p) n)) (events_at net (in_part net p) n) ≤ (books p).ran)
    follows_step e m lt p false mn = let g = invariant_run net ok n in (cut_other net p ok (known p) (one_list net n) _ (f.cut p) g.0 g.1 e.0 e.1 m mn, f.inside p)
    follows_step e m lt p true mn =
        let g = invariant_run net ok n in
        let from : (q : Key) (y : Event P) → get (one_list net n).pending q ≡ Some y → e.0.time ≤ q.time = λ q y h. up_to_time e.0 q (least_min (one_list net n).pending e q y m h) in
        let s = from_scratch net p (known p) (events_at net (in_part net p) n) in
        let l : least (from_scratch net p (known p) (events_at net (in_part net p) n)).pending ≡ Some e = least_is (from_scratch net p (known p) (events_at net (in_part net p) n)).pending e.0 e.1
        (present net p ok (known p) (one_list net n) s (f.cut p) g.0 g.1 e.0 e.1 m (λ c i b ch h le. full_at p c i b ch h (omega arith)) mn)
        (λ q y h. bound net p ok (known p) (one_list net n) s (f.cut p) g.0 g.1 e.0 e.1 m (told_at e.0.time from p) q y h) in (
          subst (λ o. Cut net p (known p) (step_at net (λ q. true) (one_list net n) (Some e)) (step_at net (in_part net p) (from_scratch net p (known p) (events_at net (in_part net p) n)) o)) (sym l)
              (cut_mine net p ok (known p) (one_list net n) s (f.cut p) g.0 g.1 e.0 e.1 m mn (least_has _ e l)),
          ⊎_elim
              (λ more. more)
              (λ le. absurd (
              let same : events_at net (in_part net p) n ≡ (books p).ran = let i = f.inside p in omega arith in
              let h = quiet net.stop (from_scratch net p (known p) (books p).ran) (done_over net p (books p) (cert.done p)) e.0 e.1 (ap (λ k. get (from_scratch net p (known p) k).pending e.0) (sym same) ∙ least_has _ e l) in
              omega arith))
              (cases_lt (events_at net (in_part net p) n) (books p).ran),
        )

  follows_on : (n : ℕ) → Follows n → (o : Option (Key × Event P)) → least (one_list net n).pending ≡ o → is_before net.stop o ≡ true → (p : ℕ) → Cut net p (known p) (step_at net (λ q. true) (one_list net n) o) (from_scratch net p (known p) (cond (is_at (in_part net p) o) (suc (events_at net (in_part net p) n)) (events_at net (in_part net p) n))) × (cond (is_at (in_part net p) o) (suc (events_at net (in_part net p) n)) (events_at net (in_part net p) n) ≤ (books p).ran)
  follows_on n f None m b p = absurd (true≢false (sym b))
  follows_on n f (Some e) m b p = follows_step n f e m (below e.0.time net.stop b) p (in_part net p e.0.place) refl
    where
      below : (x y : ℕ) → is_before {X = Event P} y (Some (e.0, e.1)) ≡ true → e.0.time < y
      below x y h = grind (arith, nat_tests)

  follows : (n : ℕ) → ((m : ℕ) → m < n → pends_before net.stop (one_list net m) ≡ true) → Follows n
  follows zero first = record { cut = λ p. cut_start net p ok (known p); inside = λ p. omega arith }
  follows (suc n) first =
      let f = follows n (λ m lt. first m (omega arith)) in
      let g = follows_on n f (least (one_list net n).pending) refl (first n (omega arith)) in
      record { cut = λ p. (g p).0; inside = λ p. (g p).1 }

  pub certified : (p last : ℕ) → IsBefore net net.stop last → (from_scratch net p (known p) (books p).ran).records ≡ trace net p last
  certified p last b =
      let f = follows last b.first in
      let same : events_at net (in_part net p) last ≡ (books p).ran = ⊎_elim
      (λ lt. absurd (
      let x = least_busy (safe_time net p (known p)) (from_scratch net p (known p) (events_at net (in_part net p) last)) (cert.within p (events_at net (in_part net p) last) lt) in
      let g = invariant_run net ok last in
      let from = quiet net.stop (one_list net last) b.over in
      let stop = done_safe net p (books p) (cert.done p) in
      ⊎_elim
      (λ h. let i = from x.0.0 x.0.1 h in omega (arith, x.2))
      (λ h. omega (arith, x.2))
      (origin net p ok (known p) (one_list net last) (from_scratch net p (known p) (events_at net (in_part net p) last)) (f.cut p) g.0 g.1 net.stop (told_at last f net.stop from p) x.0.0 x.0.1 (least_has _ x.0 x.1))))
      (λ le. let i = f.inside p in omega arith)
      (cases_lt (events_at net (in_part net p) last) (books p).ran) in
      ap (λ k. (from_scratch net p (known p) k).records) (sym same) ∙ sym (f.cut p).agrees.records
