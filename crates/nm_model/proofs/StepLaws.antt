-- What each step of the world does, and what it answers.
use Rattle.std.proofs.Common.{◌≡◌, ◌≢◌, ◌⊎◌, inl, inr, ℕ, zero, suc, ◌+◌, ◌-◌, ◌<◌, ◌≤◌, ◌&&◌, min, leb, Bool, true, false, cond, List, [], ◌∷◌, length, drop, Some, refl, sym, ap, ap₂, ◌∙◌, arith, ⊎_elim}
use Rattle.std.proofs.lemmas.Bool.Decides.{nat_tests}
use Rattle.nm_model.specs.Lists.{nth, set_at}
use Rattle.nm_model.specs.Network.{Net}
use Rattle.nm_model.specs.Partition.{goes_out}
use Rattle.nm_model.specs.Replica.{from_scratch, safe_time}
use Rattle.nm_model.specs.Before.{IsCount}
use Rattle.nm_model.specs.Run.{pends_before}
use Rattle.nm_model.specs.World.{World, Replica, DataFrame, Run, Resend, All, Limit, Frames, NoSuch, put_replica, put_frames, is_replica, outgoing, data_frames, advance, runs, happens}
use Rattle.nm_model.specs.StepLaws.{HasDone}
use Rattle.nm_model.proofs.ListLemmas.{not_some, same_number, set_here, set_there}
use Rattle.nm_model.proofs.Worlds.{advance_is}

both_are : (a b : Bool) → a ≡ true → b ≡ true → (a && b) ≡ true
both_are a b e f = ap₂ (λ x y. x && y) e f

module _ {P : Type 0} (w : World P) (p r : ℕ) (x : Replica P) where
  pub here : (put_replica w p r x).replica p r ≡ x
  here = ap (λ f. f r) (set_here w.replica p (set_at (w.replica p) r x)) ∙ set_here (w.replica p) r x

  pub others : (q s : ℕ) → (q ≢ p) ⊎ (s ≢ r) → (put_replica w p r x).replica q s ≡ w.replica q s
  others q s (inl h) = ap (λ f. f s) (set_there w.replica p (set_at (w.replica p) r x) q h)
  others q s (inr h) = ⊎_elim
      (λ e. ap (λ z. (put_replica w p r x).replica z s) e ∙ ap (λ f. f s) (set_here w.replica p (set_at (w.replica p) r x))
      ∙ set_there (w.replica p) r x s h ∙ ap (λ z. w.replica z s) (sym e))
      (λ f. ap (λ f. f s) (set_there w.replica p (set_at (w.replica p) r x) q f))
      (same_number q p)

module _ {P N : Type 0} (net : Net P N) (same : P → P → Bool) (w : World P) where
  module _ (p r n count : ℕ) (is : is_replica net p r ≡ true) (c : IsCount net p (w.replica p r).knowledge count) (le : (w.replica p r).ran ≤ count) where
    abbrev x : Replica P
    x = w.replica p r

    abbrev left : ℕ → Bool
    left k = pends_before (safe_time net p x.knowledge) (from_scratch net p x.knowledge k)

    -- the run goes to event k, where this is left, and so answers this
    goes : (k : ℕ) (b : Bool) → min (x.ran + n) count ≡ k → left k ≡ b → happens net same w (Run p r n) ≡ (put_replica w p r (record { knowledge = x.knowledge; ran = k }), cond b (Limit (k - x.ran)) (All (k - x.ran)))
    goes k b e f =
        ap (λ z. cond z (runs net w p r x (advance net p x.knowledge n x.ran)) (w, NoSuch)) is
        ∙ ap (runs net w p r x) (advance_is net p x.knowledge count c n x.ran le ∙ e)
        ∙ ap (λ z. (put_replica w p r (record { knowledge = x.knowledge; ran = k }), cond z (Limit (k - x.ran)) (All (k - x.ran)))) f

    pub run_within : x.ran + n < count → HasDone net same w (Run p r n) p r (x.ran + n) (Limit n)
    run_within lt =
        let d : x.ran + n - x.ran ≡ n = omega arith in
        goes (x.ran + n) true (omega arith) (c.first (x.ran + n) lt)
        ∙ ap (λ m. (put_replica w p r (record { knowledge = x.knowledge; ran = x.ran + n }), Limit m)) d

    pub run_over : count ≤ x.ran + n → HasDone net same w (Run p r n) p r count (All (count - x.ran))
    run_over ge = goes count false (omega arith) c.over

  module _ (p r c : ℕ) (is : is_replica net p r ≡ true) (goes : goes_out net p c ≡ true) where
    abbrev lines : List (ℕ × P)
    lines = outgoing net p (w.replica p r) c

    pub resend_is : (n : ℕ) → n ≤ length lines → happens net same w (Resend p r c n) ≡ (put_frames w (data_frames c n (drop n lines)), Frames (length lines - n))
    resend_is n le =
        let e : leb n (length lines) ≡ true = grind (arith, nat_tests) in
        ap (λ z. cond z (put_frames w (data_frames c n (drop n lines)), Frames (length lines - n)) (w, NoSuch)) (both_are (is_replica net p r && goes_out net p c) _ (both_are _ _ is goes) e)

-- messages from number n on, one for each
module _ {P : Type 0} (c : ℕ) where
  pub data_count : (n : ℕ) (l : List (ℕ × P)) → length (data_frames c n l) ≡ length l
  data_count n [] = refl
  data_count n (b ∷ l) = ap suc (data_count (suc n) l)

  pub data_at : (n : ℕ) (l : List (ℕ × P)) (i : ℕ) (b : ℕ × P) → nth l i ≡ Some b → nth (data_frames c n l) i ≡ Some (DataFrame c (n + i) b)
  data_at n [] i b e = absurd (cc)
  data_at n (y ∷ l) zero b e = let f : y ≡ b = cc in let z : n ≡ n + 0 = omega arith in ap₂ (λ k v. Some (DataFrame c k v)) z f
  data_at n (y ∷ l) (suc i) b e = let z : suc n + i ≡ n + suc i = omega arith in data_at (suc n) l i b e ∙ ap (λ k. Some (DataFrame c k b)) z

  pub drop_at : (l : List (ℕ × P)) (n i : ℕ) (b : ℕ × P) → nth l (n + i) ≡ Some b → nth (drop n l) i ≡ Some b
  drop_at l zero i b e = let z : 0 + i ≡ i = omega arith in ap (nth l) (sym z) ∙ e
  drop_at [] (suc n) i b e = absurd (let z : suc n + i ≡ suc (n + i) = omega arith in not_some b (sym (ap (nth []) z) ∙ e))
  drop_at (y ∷ l) (suc n) i b e = let z : suc n + i ≡ suc (n + i) = omega arith in drop_at l n i b (sym (ap (nth (y ∷ l)) z) ∙ e)
