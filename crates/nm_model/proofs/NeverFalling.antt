-- Promises never fall: neither when events are done nor when more is known.
use Rattle.std.proofs.Common.{◌≡◌, ◌⊎◌, inl, inr, ℕ, zero, suc, ◌+◌, ◌-◌, ◌<◌, ◌≤◌, min, max, true, Option, Some, None, refl, sym, ap, ◌∙◌, subst, arith, true≢false, ⊎_elim}
use Rattle.std.proofs.lemmas.Bool.{cases_lt}
use Rattle.std.specs.FinMap.{get}
use Rattle.nm_base.specs.declared.key.Place.TheVariants.{Complete}
use Rattle.nm_base.specs.declared.key.Key.{Key}
use Rattle.nm_base.specs.declared.event.Event.{Event}
use Rattle.nm_model.specs.EventList.{least, next_time}
use Rattle.nm_model.specs.Lists.{IsPrefix}
use Rattle.nm_model.specs.Network.{Net, IsNet}
use Rattle.nm_model.specs.Port.{Busy, busy_until}
use Rattle.nm_model.specs.Run.{State, step_at}
use Rattle.nm_model.specs.Knowledge.{Knowledge}
use Rattle.nm_model.specs.Partition.{in_part}
use Rattle.nm_model.specs.Replica.{from_scratch, safe_time, new_messages, IsWithin, IsUnderAll}
use Rattle.nm_model.specs.Promise.{Promising, Plain, Tight, next_cause, promise}
use Rattle.nm_model.specs.Before.{same_place}
use Rattle.nm_model.proofs.Keys.{key_at, least_has, least_min, least_none, up_to_time}
use Rattle.nm_model.proofs.ListLemmas.{some_inj, bool_cases, prefix_self, prefix_trans}
use Rattle.nm_model.proofs.Scheduling.{put_from}
use Rattle.nm_model.proofs.Cut.{safe_stop}
use Rattle.nm_model.proofs.CutLaw.{least_busy, until_at_most}
use Rattle.nm_model.proofs.Books.{new_later, books, safe_rises}
use Rattle.nm_model.proofs.Certified.{from_since}
use Rattle.nm_model.proofs.Numbers.{place_same, place_tied}
use Rattle.nm_model.proofs.Orders.{going_on, part_by_node}
use Rattle.nm_model.proofs.Begin.{orderly_part}

module _ {P N : Type 0} where
  -- the next time is up to all that is pending, and the greatest such
  next_first : (u : ℕ) (s : State P N) (q : Key) (y : Event P) → get s.pending q ≡ Some y → next_time u (least s.pending) ≤ q.time
  next_first u s q y e = go (least s.pending) refl
    where
      go : (o : Option (Key × Event P)) → least s.pending ≡ o → next_time u o ≤ q.time
      go None f = absurd (let none = least_none s.pending q f in cc)
      go (Some x) f = let le = up_to_time x.0 q (least_min s.pending x q y f e) in omega arith

  next_from : (t u : ℕ) (s : State P N) → t ≤ u → ((q : Key) (y : Event P) → get s.pending q ≡ Some y → t ≤ q.time) → t ≤ next_time u (least s.pending)
  next_from t u s le h = go (least s.pending) refl
    where
      go : (o : Option (Key × Event P)) → least s.pending ≡ o → t ≤ next_time u o
      go None f = le
      go (Some x) f = let a = h x.0 x.1 (least_has s.pending x f) in omega arith

module _ {P N : Type 0} (net : Net P N) (ok : IsNet net) (p : ℕ) where
  -- one event
  module _ (K : Knowledge P) (k : ℕ) (w : IsWithin net p K (suc k)) where
    next : (x : Key × Event P) × (least (from_scratch net p K k).pending ≡ Some x) × (x.0.time < safe_time net p K)
    next = least_busy (safe_time net p K) (from_scratch net p K k) (w k (omega arith))

    is_now : next_cause net p K k ≤ next.0.0.time
    is_now = next_first (min net.stop (safe_time net p K)) (from_scratch net p K k) next.0.0 next.0.1 (least_has _ next.0 next.1)

    goes_on : next.0.0.time ≤ next_cause net p K (suc k)
    goes_on =
        let x = next in
        let s = from_since net ok p K k (suc k) x.0.0.time (omega arith) (λ q y e. up_to_time x.0.0 q (least_min _ x.0 q y x.1 e)) in
        let st = safe_stop net p K net.ifaces in
        next_from x.0.0.time (min net.stop (safe_time net p K)) (from_scratch net p K (suc k)) (omega (arith, x.2)) s.from

    port_goes_on : (i : ℕ) → busy_until ((from_scratch net p K k).port i).busy ≤ max next.0.0.time (busy_until ((from_scratch net p K (suc k)).port i).busy)
    port_goes_on i = go ((from_scratch net p K k).port i).busy refl
      where
        has : get (from_scratch net p K k).pending next.0.0 ≡ Some next.0.1
        has = least_has _ next.0 next.1

        go : (o : Option (Busy P)) → ((from_scratch net p K k).port i).busy ≡ o → busy_until o ≤ max next.0.0.time (busy_until ((from_scratch net p K (suc k)).port i).busy)
        go None f = omega arith
        go (Some b) f = ⊎_elim
            (λ h.
            let pl = sym (place_same (Complete i) next.0.0.place h) in
            let a = (orderly_part net ok p K k).completion i next.0.0.time next.0.0.number next.0.1 (ap (get (from_scratch net p K k).pending) (sym (key_at next.0.0 (Complete i) pl)) ∙ has) in
            let same = ap (λ (z : Busy P). z.completes) (some_inj a.0 b (sym a.2 ∙ f)) in
            let t = a.3 in omega arith)
            (λ h.
            let c = going_on net ok (in_part net p) (part_by_node net p) (from_scratch net p K k) (orderly_part net ok p K k) next.0 has i b f (λ pl. true≢false (sym (ap (same_place (Complete i)) pl ∙ place_tied (Complete i)) ∙ h)) in
            let e : ((from_scratch net p K (suc k)).port i).busy ≡ Some c.0 = ap (λ o. ((step_at net (in_part net p) (from_scratch net p K k) o).port i).busy) next.1 ∙ c.1 in
            let u = ap busy_until e in
            let v = c.2 in omega arith)
            (bool_cases (same_place (Complete i) next.0.0.place))

    step_rises : (kind : Promising) (c : ℕ) → promise net kind p K k c ≤ promise net kind p K (suc k) c
    step_rises Plain c = let a = is_now in let b = goes_on in omega arith
    step_rises Tight c = let a = is_now in let b = goes_on in let d = port_goes_on (net.far_end c) in omega arith

  -- several
  steps_rise : (K : Knowledge P) (d k : ℕ) → IsWithin net p K (d + k) → (kind : Promising) (c : ℕ) → promise net kind p K k c ≤ promise net kind p K (d + k) c
  steps_rise K zero k w kind c = let e : 0 + k ≡ k = omega arith in let f = ap (λ n. promise net kind p K n c) e in omega arith
  steps_rise K (suc d) k w kind c =
      let e : suc d + k ≡ suc (d + k) = omega arith in
      let f = ap (λ n. promise net kind p K n c) e in
      let v : IsWithin net p K (suc (d + k)) = subst (IsWithin net p K) e w in
      let a = steps_rise K d k (λ m lt. v m (omega arith)) kind c in
      let b = step_rises K (d + k) v kind c in omega arith

  -- more knowledge
  module _ (K J : Knowledge P) (under : IsUnderAll net p K J) (k : ℕ) (w : IsWithin net p K k) where
    cause_rises : next_cause net p K k ≤ next_cause net p J k
    cause_rises =
        let e = books net ok p K J under k w in
        let s = safe_rises net ok p K J under net.ifaces (omega arith) in
        let most = until_at_most (min net.stop (safe_time net p K)) (least (from_scratch net p K k).pending) in
        next_from (next_cause net p K k) (min net.stop (safe_time net p J)) (from_scratch net p J k) (omega arith) (λ q y f. ⊎_elim
        (λ a. let l = new_later net ok p K J under q y a in omega arith)
        (λ g. next_first (min net.stop (safe_time net p K)) (from_scratch net p K k) q y g)
        (put_from (λ z. true) (new_messages net p K J) (from_scratch net p K k).pending q y (ap (λ (u : State P N). get u.pending q) (sym e) ∙ f)))

    told_rises : (kind : Promising) (c : ℕ) → promise net kind p K k c ≤ promise net kind p J k c
    told_rises Plain c = let a = cause_rises in omega arith
    told_rises Tight c =
        let a = cause_rises in
        let b = ap (λ (u : State P N). busy_until (u.port (net.far_end c)).busy) (books net ok p K J under k w) in omega arith

  pub promise_rises : (kind : Promising) (K J : Knowledge P) → IsUnderAll net p K J → (k m c : ℕ) → k ≤ m → IsWithin net p K k → IsWithin net p J m → promise net kind p K k c ≤ promise net kind p J m c
  promise_rises kind K J under k m c le w v =
      let e : m - k + k ≡ m = omega arith in
      let a = told_rises K J under k w kind c in
      let b = steps_rise J (m - k) k (subst (IsWithin net p J) (sym e) v) kind c in
      let f = ap (λ n. promise net kind p J n c) e in omega arith

  -- what was sent and recorded only grows
  pub sent_grows : (K J : Knowledge P) → IsUnderAll net p K J → (k m : ℕ) → k ≤ m → IsWithin net p K k → (c : ℕ) → IsPrefix ((from_scratch net p K k).sent c) ((from_scratch net p J m).sent c)
  sent_grows K J under k m le w c =
      subst (λ l. IsPrefix l ((from_scratch net p J m).sent c)) (ap (λ (s : State P N). s.sent c) (books net ok p K J under k w))
      ((from_since net ok p J k m 0 le (λ q y e. omega arith)).grows c)

  step_records : (s : State P N) (o : Option (Key × Event P)) → IsPrefix s.records (step_at net (in_part net p) s o).records
  step_records s None = prefix_self s.records
  step_records s (Some e) = (_, refl)

  steps_records : (J : Knowledge P) (d k : ℕ) → IsPrefix (from_scratch net p J k).records (from_scratch net p J (d + k)).records
  steps_records J zero k = let e : k ≡ 0 + k = omega arith in subst (λ n. IsPrefix (from_scratch net p J k).records (from_scratch net p J n).records) e (prefix_self _)
  steps_records J (suc d) k =
      let e : suc (d + k) ≡ suc d + k = omega arith in
      subst (λ n. IsPrefix (from_scratch net p J k).records (from_scratch net p J n).records) e
      (prefix_trans _ _ _ (steps_records J d k) (step_records (from_scratch net p J (d + k)) (least (from_scratch net p J (d + k)).pending)))

  pub records_grow : (K J : Knowledge P) → IsUnderAll net p K J → (k m : ℕ) → k ≤ m → IsWithin net p K k → IsPrefix (from_scratch net p K k).records (from_scratch net p J m).records
  records_grow K J under k m le w =
      let e : m - k + k ≡ m = omega arith in
      subst (λ l. IsPrefix l (from_scratch net p J m).records) (ap (λ (s : State P N). s.records) (books net ok p K J under k w))
      (subst (λ n. IsPrefix (from_scratch net p J k).records (from_scratch net p J n).records) e (steps_records J (m - k) k))

-- the next event that may cause a message, or the time at which none is left
pub cause_is : {P : Type 0} (t s : ℕ) (o : Option (Key × Event P)) → (next_time (min t s) o ≡ t) ⊎ (next_time (min t s) o ≡ s) ⊎ ((e : Key × Event P) × (o ≡ Some e) × (next_time (min t s) o ≡ e.0.time))
cause_is t s None = ⊎_elim (λ h. inl (omega arith)) (λ h. inr (inl (omega arith))) (cases_lt t s)
cause_is t s (Some e) = ⊎_elim
    (λ h. ⊎_elim (λ k. inl (omega arith)) (λ k. inr (inl (omega arith))) (cases_lt t s))
    (λ h. inr (inr (e, refl, omega arith)))
    (cases_lt (min t s) e.0.time)
