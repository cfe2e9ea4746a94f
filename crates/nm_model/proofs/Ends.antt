-- Each time is passed after some number of steps.
use Rattle.std.proofs.Common.{◌≡◌, inl, inr, ℕ, zero, suc, ◌+◌, ◌-◌, ◌*◌, ◌<◌, ◌≤◌, Bool, true, false, cond, List, [], ◌∷◌, ◌++◌, length, Option, Some, None, refl, sym, ap, ◌∙◌, subst, arith, true≢false, ⊎_elim, length-append, Ordering, Less, Equal, Greater}
use Rattle.std.specs.Ordering.{is_eq}
use Rattle.std.specs.FinMap.{FinMap, get, insert, remove, entries, entries-insert, put, find, get-entries}
use Rattle.std.specs.FinMap.Entries.{by_order}
use Rattle.std.proofs.lemmas.Bool.{cases_lt}
use Rattle.nm_base.specs.declared.key.Place.{Place}
use Rattle.nm_base.specs.declared.key.Key.{Key}
use Rattle.nm_base.specs.Key.{key_cmp, key_cmp_total}
use Rattle.nm_model.specs.EventList.{least, schedule}
use Rattle.nm_model.specs.Network.{Net, IsNet}
use Rattle.nm_model.specs.Before.{Drains}
use Rattle.nm_model.specs.Lists.{nth}
use Rattle.nm_model.specs.Run.{State, effect, new_events, transmission_events, next_events, made, step_at, run, pends_before}
use Rattle.nm_model.proofs.ListLemmas.{below_or_at}
use Rattle.nm_model.proofs.Keys.{key_decides, same_events, insert_same, insert_other, remove_same, remove_other, least_has}
use Rattle.nm_model.proofs.Scheduling.{IsAmong}
use Rattle.nm_model.proofs.NewEvents.{IsNew, made_among}
use Rattle.nm_model.specs.Orderly.{IsByNode, IsOrderly}
use Rattle.nm_model.proofs.Orders.{makes_later, orderly_run}
use Rattle.nm_model.proofs.CutLaw.{least_busy}
use Rattle.nm_base.specs.declared.event.Event.{Event}

abbrev pow4 : ℕ → ℕ
pow4 zero = 1
pow4 (suc n) = 4 * pow4 n

pow4_up : (a b : ℕ) → pow4 a ≤ pow4 (b + a)
pow4_up a zero = let e : a ≡ 0 + a = omega arith in let f = ap pow4 e in omega arith
pow4_up a (suc b) = let r = pow4_up a b in let e : suc (b + a) ≡ suc b + a = omega arith in let f = ap pow4 e in omega arith

pow4_mono : (a b : ℕ) → a ≤ b → pow4 a ≤ pow4 b
pow4_mono a b h = let r = pow4_up a (b - a) in let e : b - a + a ≡ b = omega arith in let f = ap pow4 e in omega arith

pow4_pos : (a : ℕ) → 1 ≤ pow4 a
pow4_pos zero = omega arith
pow4_pos (suc a) = let r = pow4_pos a in omega arith

three : (n q a : ℕ) → n ≤ 3 → a ≤ n * q → 1 ≤ q → a < 4 * q
three n q a h i j = grind arith

abbrev heft : ℕ → Key → ℕ
heft t q = pow4 (t - q.time)

pub few_next : {P : Type 0} (n : ℕ) (o : Option (ℕ × ℕ × P)) → length (next_events n o) ≤ 1
few_next n None = omega arith
few_next n (Some u) = omega arith

module _ {P : Type 0} (t : ℕ) where
  -- what pending events below t can still make
  abbrev weigh : List (Key × Event P) → ℕ
  weigh [] = 0
  weigh (e ∷ es) = heft t e.0 + weigh es

  abbrev weight : FinMap key_cmp (Event P) → ℕ
  weight m = weigh (entries m)

  weigh-append : (es fs : List (Key × Event P)) → weigh (es ++ fs) ≡ weigh es + weigh fs
  weigh-append [] fs = omega arith
  weigh-append (e ∷ es) fs = let r = weigh-append es fs in omega arith

  weigh_put : (k : Key) (v : Event P) (es : List (Key × Event P)) → weigh (put key_cmp k v es) ≤ heft t k + weigh es
  weigh_put k v [] = omega arith
  weigh_put k v (e ∷ es) = go (weigh_put k v es) (key_cmp k e.0)
    where
      go : weigh (put key_cmp k v es) ≤ heft t k + weigh es → (o : Ordering) → weigh (by_order o ((k, v) ∷ e ∷ es) ((e.0, v) ∷ es) (e ∷ put key_cmp k v es)) ≤ heft t k + (heft t e.0 + weigh es)
      go r Less = omega arith
      go r Equal = omega arith
      go r Greater = omega arith

  weigh_fresh : (k : Key) (v : Event P) (es : List (Key × Event P)) → find key_cmp k es ≡ None → weigh (put key_cmp k v es) ≡ heft t k + weigh es
  weigh_fresh k v [] h = omega arith
  weigh_fresh k v (e ∷ es) h = go (λ f. weigh_fresh k v es f) (key_cmp k e.0) refl h
    where
      go : (find key_cmp k es ≡ None → weigh (put key_cmp k v es) ≡ heft t k + weigh es) → (o : Ordering) → key_cmp k e.0 ≡ o → cond (is_eq o) (Some e.1) (find key_cmp k es) ≡ None → weigh (by_order o ((k, v) ∷ e ∷ es) ((e.0, v) ∷ es) (e ∷ put key_cmp k v es)) ≡ heft t k + (heft t e.0 + weigh es)
      go r Less f i = omega arith
      go r Equal f i = absurd (cc)
      go r Greater f i = let z = r i in omega arith

  weight_insert : (m : FinMap key_cmp (Event P)) (k : Key) (v : Event P) → weight (insert m k v) ≤ heft t k + weight m
  weight_insert m k v = let e = ap weigh (entries-insert key_cmp_total m k v) in let r = weigh_put k v (entries m) in omega arith

  weight_fresh : (m : FinMap key_cmp (Event P)) (k : Key) (v : Event P) → get m k ≡ None → weight (insert m k v) ≡ heft t k + weight m
  weight_fresh m k v h = ap weigh (entries-insert key_cmp_total m k v) ∙ weigh_fresh k v (entries m) (sym (get-entries m k) ∙ h)

  weight_removed : (m : FinMap key_cmp (Event P)) (k : Key) (v : Event P) → get m k ≡ Some v → weight m ≡ heft t k + weight (remove m k)
  weight_removed m k v h = ap weight same ∙ weight_fresh (remove m k) k v (remove_same m k)
    where
      same : m ≡ insert (remove m k) k v
      same = same_events m (insert (remove m k) k v) (λ q. ⊎_elim
          (λ e. subst (λ z. get m z ≡ get (insert (remove m k) k v) z) (sym e) (h ∙ sym (insert_same (remove m k) k v)))
          (λ e. sym (remove_other m k q e) ∙ sym (insert_other (remove m k) k v q e))
          (key_decides q k))

  weight_put : (here : Place → Bool) (es : List (Key × Event P)) (m : FinMap key_cmp (Event P)) → weight (schedule here es m) ≤ weigh es + weight m
  weight_put here [] m = omega arith
  weight_put here (e ∷ es) m = go (weight_put here es m) (here e.0.place)
    where
      go : weight (schedule here es m) ≤ weigh es + weight m → (b : Bool) → weight (cond b (insert (schedule here es m) e.0 e.1) (schedule here es m)) ≤ heft t e.0 + weigh es + weight m
      go r true = let i = weight_insert (schedule here es m) e.0 e.1 in omega arith
      go r false = omega arith

  -- at most n entries, each of at most w
  light : (w : ℕ) (es : List (Key × Event P)) → ((q : Key) (y : Event P) → IsAmong q y es → heft t q ≤ w) → weigh es ≤ length es * w
  light w [] h = omega arith
  light w (e ∷ es) h =
      let r = light w es (λ q y a. h q y (inr a)) in
      let i = h e.0 e.1 (inl (refl, refl)) in
      omega arith

module _ {P N : Type 0} (net : Net P N) where
  pub few_transmission : (time : ℕ) (sent : ℕ → List (ℕ × P)) (o : Option (ℕ × P)) → length (transmission_events net time sent o) ≤ 2
  few_transmission time sent None = omega arith
  few_transmission time sent (Some u) = omega arith

  module _ (ok : IsNet net) (here : Place → Bool) (by_node : IsByNode net here) where
    falls : (t : ℕ) (s : State P N) → IsOrderly net here s → (e : Key × Event P) → least s.pending ≡ Some e → e.0.time < t → weight t (step_at net here s (Some e)).pending < weight t s.pending
    falls t s h e m lt =
        let k = e.0 in
        let has = least_has s.pending e m in
        let does = effect net s.node s.port e.0.time e.0.number e.1 in
        let es = new_events net e.0 s.sent does in
        let q = pow4 (t - suc e.0.time) in
        let four : pow4 (t - e.0.time) ≡ 4 * q = ap pow4 (let z : t - e.0.time ≡ suc (t - suc e.0.time) = omega arith in z) in
        let each : (r : Key) (y : Event P) → IsAmong r y es → heft t r ≤ q = λ r y a.
        let later = makes_later net ok here by_node s h e has r y (made_among net e.0 s.sent does r y a) in
        pow4_mono (t - r.time) (t - suc e.0.time) (omega arith) in
        let sum = light t q es each in
        let few = few_transmission e.0.time s.sent does.transmission in
        let more = few_next e.0.number does.follows in
        let both = length-append (transmission_events net e.0.time s.sent does.transmission) (next_events e.0.number does.follows) in
        let below = three (length es) q (weigh t es) (omega arith) sum (pow4_pos (t - suc e.0.time)) in
        let put = weight_put t here es (remove s.pending e.0) in
        let rem = weight_removed t s.pending e.0 e.1 has in
        omega arith

    module _ (s : State P N) (h : IsOrderly net here s) (t : ℕ) where
      find_end : (fuel n : ℕ) → weight t (run net here n s).pending < fuel → ((m : ℕ) → m < n → pends_before t (run net here m s) ≡ true) → (m : ℕ) × Drains net here s t m
      find_end zero n lt first = absurd (omega arith)
      find_end (suc fuel) n lt first = go (pends_before t (run net here n s)) refl (λ f g. find_end fuel (suc n) f g)
        where
          go : (b : Bool) → pends_before t (run net here n s) ≡ b → (weight t (run net here (suc n) s).pending < fuel → ((m : ℕ) → m < suc n → pends_before t (run net here m s) ≡ true) → (m : ℕ) × Drains net here s t m) → (m : ℕ) × Drains net here s t m
          go false e rest = (n, record { over = e; first = first })
          go true e rest =
              let x = least_busy t (run net here n s) e in
              let f = falls t (run net here n s) (orderly_run net ok here by_node n s h) x.0 x.1 x.2 in
              let next = ap (λ o. weight t (step_at net here (run net here n s) o).pending) x.1 in
              rest (omega (arith, next)) (λ m i. ⊎_elim (λ j. first m j) (λ j. subst (λ z. pends_before t (run net here z s) ≡ true) (sym j) e) (below_or_at m n i))

      pub drains : (n : ℕ) × Drains net here s t n
      drains = find_end (suc (weight t s.pending)) 0 (omega arith) (λ m i. absurd (omega arith))

module _ {P N : Type 0} (net : Net P N) where
  pub drains_once : (here : Place → Bool) (s : State P N) (t m n : ℕ) → Drains net here s t m → Drains net here s t n → m ≡ n
  drains_once here s t m n a b = ⊎_elim
      (λ lt. absurd (true≢false (sym (b.first m lt) ∙ a.over)))
      (λ le. ⊎_elim
      (λ lt. absurd (true≢false (sym (a.first n lt) ∙ b.over)))
      (λ ge. omega arith)
      (cases_lt n m))
      (cases_lt m n)

-- an event makes at most three, and each is strictly later
module _ {P N : Type 0} (net : Net P N) where
  pub made_few : (s : State P N) (e : Key × Event P) → length (made net s e) ≤ 3
  made_few s e =
      let does = effect net s.node s.port e.0.time e.0.number e.1 in
      let a = few_transmission net e.0.time s.sent does.transmission in
      let b = few_next e.0.number does.follows in
      let c = length-append (transmission_events net e.0.time s.sent does.transmission) (next_events e.0.number does.follows) in omega arith

  nth_among : (es : List (Key × Event P)) (m : ℕ) (f : Key × Event P) → nth es m ≡ Some f → IsAmong f.0 f.1 es
  nth_among [] m f e = absurd (cc)
  nth_among (x ∷ es) zero f e = let g : x ≡ f = cc in inl (ap (λ z. z.0) (sym g), ap (λ z. z.1) (sym g))
  nth_among (x ∷ es) (suc m) f e = inr (nth_among es m f e)

  pub made_new : (s : State P N) (e : Key × Event P) (m : ℕ) (f : Key × Event P) → nth (made net s e) m ≡ Some f → IsNew net e.0 s.sent (effect net s.node s.port e.0.time e.0.number e.1) f.0 f.1
  made_new s e m f a = made_among net e.0 s.sent (effect net s.node s.port e.0.time e.0.number e.1) f.0 f.1 (nth_among _ m f a)

  pub made_after : IsNet net → (here : Place → Bool) → IsByNode net here → (s : State P N) → IsOrderly net here s → (e : Key × Event P) → least s.pending ≡ Some e → (m : ℕ) (f : Key × Event P) → nth (made net s e) m ≡ Some f → e.0.time < f.0.time
  made_after ok here by_node s h e l m f a = makes_later net ok here by_node s h e (least_has s.pending e l) f.0 f.1 (made_new s e m f a)
