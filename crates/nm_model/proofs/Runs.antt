-- Runs of the whole network.
use Rattle.std.proofs.Common.{◌≡◌, ◌≢◌, ℕ, zero, suc, ◌+◌, ◌≤◌, Bool, true, [], length, Option, Some, None, refl, sym, ap, ap₂, ◌∙◌, arith, ⊎_elim}
use Rattle.std.specs.FinMap.{get}
use Rattle.nm_base.specs.declared.key.Place.{Place}
use Rattle.nm_base.specs.declared.key.Place.TheVariants.{Arrive}
use Rattle.nm_base.specs.declared.key.Key.{Key}
use Rattle.nm_base.specs.Key.{key_of}
use Rattle.nm_model.specs.EventList.{least, IsUpTo}
use Rattle.nm_model.specs.Lists.{nth, IsPrefix}
use Rattle.nm_model.specs.Network.{Net, IsNet}
use Rattle.nm_model.specs.Run.{State, Effect, effect, apply, step, step_at, run, start, one_list}
use Rattle.nm_model.proofs.Keys.{least_has, least_min, up_to_earlier}
use Rattle.nm_model.proofs.ListLemmas.{nth_cong, below_nth, nth_push, prefix_self, prefix_trans}
use Rattle.nm_model.proofs.NewEvents.{start_pending, sent_case, sent_prefix, pending_case}
use Rattle.nm_model.specs.Orderly.{IsByNode, IsOrderly}
use Rattle.nm_model.proofs.Orders.{makes_later, orderly_start, orderly_run, all_by_node}
use Rattle.nm_model.proofs.Invariants.{Invariant, new_later, invariant_after}
use Rattle.nm_base.specs.declared.event.Event.{Event}

module _ {P N : Type 0} (net : Net P N) where
  invariant_start : IsNet net → Invariant net (start net (λ p. true) []) 0
  invariant_start ok = record {
    later = λ q x e. omega arith;
    counted = λ c. omega arith;
    arrival_is = λ c t n x e. absurd (let a = (start_pending net (key_of t (Arrive c) n) x e).1 in cc);
    arrival_has = λ c t n x le e. absurd (cc);
    rising = λ c m n a b lt e f. absurd (cc);
    spaced = λ c m n a b lt e f. absurd (cc);
    underway = λ i b e. absurd (cc);
    idle = λ i e n b f. absurd (cc);
    orderly = orderly_start net ok (λ p. true) (all_by_node net) [] (λ q y a. absurd a);
  }

  pub run_add : (here : Place → Bool) (a b : ℕ) (s : State P N) → run net here (a + b) s ≡ run net here a (run net here b s)
  run_add here zero b s = let e : 0 + b ≡ b = omega arith in ap (λ n. run net here n s) e
  run_add here (suc a) b s = let e : suc a + b ≡ suc (a + b) = omega arith in ap (λ n. run net here n s) e ∙ ap (step net here) (run_add here a b s)

  -- what a later state has over an earlier one at which nothing below t was pending
  pub record Since (s : State P N) (t : ℕ) (u : State P N) : Type 0 where
    pub from : (q : Key) (y : Event P) → get u.pending q ≡ Some y → t ≤ q.time
    pub grows : (c : ℕ) → IsPrefix (s.sent c) (u.sent c)
    pub late : (c m : ℕ) (b : ℕ × P) → length (s.sent c) ≤ m → nth (u.sent c) m ≡ Some b → t + net.tx (net.far_end c) b.1 + net.delay (net.far_end c) ≤ b.0

  -- of any run, of the whole network or of a part
  module _ (ok : IsNet net) (here : Place → Bool) (by_node : IsByNode net here) where
    since_step : (s u : State P N) (t : ℕ) → IsOrderly net here u → Since s t u → (o : Option (Key × Event P)) → least u.pending ≡ o → Since s t (step_at net here u o)
    since_step s u t g h None e = h
    since_step s u t g h (Some e) m = record {
      from = λ q y f. ⊎_elim
          (λ n. let lt = makes_later net ok here by_node u g e (least_has u.pending e m) q y n in omega (arith, late))
          (λ old. h.from q y old.1)
          (pending_case net e.0 u.sent does here u.pending q y f);
      grows = λ c. prefix_trans _ _ _ (h.grows c) (sent_prefix net e.0.time u.sent does.transmission c);
      late = λ c l b le f. ⊎_elim
          (λ z. ⊎_elim
          (λ i. h.late c l b le i)
          (λ i. let w : e.0.time + net.tx z.0.0 z.0.1 + net.delay z.0.0 ≡ b.0 = ap (λ v. v.0) i.1 in
          let pp : net.far_end c ≡ z.0.0 = ap net.far_end z.2 ∙ ok.twice z.0.0 in
          let pe = ap net.delay pp in
          let pt : net.tx (net.far_end c) b.1 ≡ net.tx z.0.0 z.0.1 = ap₂ net.tx pp (sym (ap (λ v. v.1) i.1)) in
          omega (arith, late))
          (nth_push (u.sent c) _ b l (nth_cong _ _ l b z.3 f)))
          (λ z. h.late c l b le (nth_cong _ _ l b z.1 f))
          (sent_case net e.0.time u.sent does.transmission c);
    }
      where
        does : Effect P N
        does = effect net u.node u.port e.0.time e.0.number e.1

        late : t ≤ e.0.time
        late = h.from e.0 e.1 (least_has u.pending e m)

    pub since : (d : ℕ) (s : State P N) (t : ℕ) → IsOrderly net here s → ((q : Key) (y : Event P) → get s.pending q ≡ Some y → t ≤ q.time) → Since s t (run net here d s)
    since zero s t g h = record {
      from = h;
      grows = λ c. prefix_self _;
      late = λ c m b le e. let lt = below_nth _ m b e in absurd (omega arith);
    }
    since (suc d) s t g h = since_step s (run net here d s) t (orderly_run net ok here by_node d s g) (since d s t g h) _ refl

  module _ (ok : IsNet net) where
    invariant_step : (s : State P N) (now : ℕ) → Invariant net s now → (o : Option (Key × Event P)) → least s.pending ≡ o → (later : ℕ) × Invariant net (step_at net (λ p. true) s o) later
    invariant_step s now g None e = (now, g)
    invariant_step s now g (Some e) m = (e.0.time, invariant_after net ok s now g e.0 e.1 m)

    invariant_on : (n : ℕ) (s : State P N) (now : ℕ) → Invariant net s now → (later : ℕ) × Invariant net (run net (λ p. true) n s) later
    invariant_on zero s now g = (now, g)
    invariant_on (suc n) s now g = let h = invariant_on n s now g in invariant_step _ h.0 h.1 _ refl

    pub invariant_run : (n : ℕ) → (now : ℕ) × Invariant net (one_list net n) now
    invariant_run n = invariant_on n _ 0 (invariant_start ok)

    pub keys_rise : (n : ℕ) (e f : Key × Event P) → least (one_list net n).pending ≡ Some e → least (one_list net (suc n)).pending ≡ Some f → IsUpTo e.0 f.0 × (f.0 ≢ e.0)
    keys_rise n e f h i =
        let g = invariant_run n in
        let s = one_list net n in
        let does = effect net s.node s.port e.0.time e.0.number e.1 in
        let next : step net (λ p. true) s ≡ apply net (λ p. true) e.0 does s = ap (step_at net (λ p. true) s) h in
        let has : get (apply net (λ p. true) e.0 does s).pending f.0 ≡ Some f.1 = ap (λ u. get u.pending f.0) (sym next) ∙ least_has _ f i in
        ⊎_elim
        (λ w. let lt = new_later net ok s g.0 g.1 e.0 e.1 h f.0 f.1 w in (up_to_earlier e.0 f.0 lt, λ eq. let z = ap (λ r. r.time) eq in absurd (omega arith)))
        (λ w. (least_min s.pending e f.0 f.1 h w.1, w.0))
        (pending_case net e.0 s.sent does (λ p. true) s.pending f.0 f.1 has)
