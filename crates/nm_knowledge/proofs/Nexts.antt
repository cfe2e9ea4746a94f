-- What the next message and a null message that counts all messages do.
use Rattle.std.proofs.Common.{◌≡◌, ℕ, zero, suc, ◌<◌, ◌≤◌, ◌-◌, Bool, true, false, cond, ltb, leb, ◌==◌, List, [], ◌∷◌, ◌++◌, length, get_or, Option, Some, None, Bor, refl, sym, ap, ◌∙◌, arith}
use Rattle.std.proofs.lemmas.Bool.Decides.{nat_tests}
use Rattle.std.specs.List.{ItemBy}
use Rattle.std.specs.Option.{option_map}
use Rattle.nm_model.specs.Lists.{nth}
use Rattle.nm_model.specs.Knowledge.{Know}
use Rattle.nm_model.proofs.ListLemmas.{nth_below, not_some}
use Rattle.nm_model.specs.Accept.{New, Raised, Known, Gap, Late, NotRising, Differs, Accepted, same_message, last_from, data_at, accept_data, null_at, accept_null}

pub nth_past : {A : Type 0} (l : List A) (n : ℕ) → length l ≤ n → nth l n ≡ None
nth_past [] n h = refl
nth_past (x ∷ l) zero h = absurd (omega arith)
nth_past (x ∷ l) (suc n) h = nth_past l n (omega arith)

-- what a look-up by number answers
pub looked_up : {A : Type 0} (l : List A) (n : ℕ) (r : Option (Bor A)) → ItemBy (λ (x : Bor A). x.now) l n n r → option_map (λ x. x.now) r ≡ nth l n
looked_up l n (Some b) h =
    let below : n < length l = let t = h.0 in grind (arith, nat_tests, t) in
    ap (λ z. Some z) h.1 ∙ sym (there l n b.now below)
  where
    there : {A : Type 0} (l : List A) (n : ℕ) (d : A) → n < length l → nth l n ≡ Some (get_or l n d)
    there [] n d lt = absurd (omega arith)
    there (x ∷ l) zero d lt = refl
    there (x ∷ l) (suc n) d lt = there l n d (omega arith)
looked_up l n None h =
    let past : length l ≤ n = let t = h.0 in grind (arith, nat_tests, t) in
    sym (nth_past l n past)

module _ {P : Type 0} where
  -- the last message decides
  pub last_from-last : (t : ℕ) (l : List (ℕ × P)) (m : ℕ × P) → nth l (length l - 1) ≡ Some m → last_from t l ≡ leb t m.0
  last_from-last t [] m e = absurd (cc)
  last_from-last t (x ∷ []) m e =
      let is : ◌≡◌ {A = ℕ × P} x m = cc in
      ap (λ (z : ℕ × P). leb t z.0) is
  last_from-last t (x ∷ y ∷ l) m e =
      let z : length (x ∷ y ∷ l) - 1 ≡ suc (length (y ∷ l) - 1) = omega arith in
      last_from-last t (y ∷ l) m (sym (ap (nth (x ∷ y ∷ l)) z) ∙ e)

  pub last_from-none : (t : ℕ) (l : List (ℕ × P)) → nth l (length l - 1) ≡ None → last_from t l ≡ false
  last_from-none t [] e = refl
  last_from-none t (x ∷ l) e =
      let y = nth_below (x ∷ l) (length (x ∷ l) - 1) (omega arith) in
      absurd (not_some y.0 (sym e ∙ y.1))

  module _ (a : Know P) (n : ℕ) (next : n ≡ length a.list) where
    pub null_raises : (t : ℕ) → a.clock < t → accept_null a n t ≡ record { answer = Raised; after = record a { clock = t } }
    null_raises t h =
        let counted : (n == length a.list) ≡ true = grind (arith, nat_tests) in
        let above : ltb a.clock t ≡ true = grind (arith, nat_tests) in
        ap (λ o. null_at o a n t) (nth_past a.list n (omega arith))
        ∙ ap (λ z. cond z (cond {A = Accepted P} (ltb a.clock t) (record { answer = Raised; after = record a { clock = t } }) (record { answer = Known; after = a })) (record { answer = Gap (length a.list); after = a })) counted
        ∙ ap (λ z. cond {A = Accepted P} z (record { answer = Raised; after = record a { clock = t } }) (record { answer = Known; after = a })) above

    pub data_is_new : (same : P → P → Bool) (b : ℕ × P) → a.clock ≤ b.0 → last_from b.0 a.list ≡ false → accept_data same a n b ≡ record { answer = New; after = record { list = a.list ++ b ∷ []; clock = b.0 } }
    data_is_new same b h rises =
        let counted : (n == length a.list) ≡ true = grind (arith, nat_tests) in
        let in_time : ltb b.0 a.clock ≡ false = grind (arith, nat_tests) in
        let late : Accepted P = record { answer = Late a.clock; after = a } in
        let last : Accepted P = record { answer = NotRising; after = a } in
        let new : Accepted P = record { answer = New; after = record { list = a.list ++ b ∷ []; clock = b.0 } } in
        ap (λ o. data_at same o a n b) (nth_past a.list n (omega arith))
        ∙ ap (λ z. cond z (cond (ltb b.0 a.clock) late (cond (last_from b.0 a.list) last new)) (record { answer = Gap (length a.list); after = a })) counted
        ∙ ap (λ z. cond z late (cond (last_from b.0 a.list) last new)) in_time
        ∙ ap (λ z. cond z last new) rises

  module _ (same : P → P → Bool) (a : Know P) (n : ℕ) (b : ℕ × P) where
    abbrev late : Accepted P
    late = record { answer = Late a.clock; after = a }

    abbrev last : Accepted P
    last = record { answer = NotRising; after = a }

    abbrev new : Accepted P
    new = record { answer = New; after = record { list = a.list ++ b ∷ []; clock = b.0 } }

    abbrev gap : Accepted P
    gap = record { answer = Gap (length a.list); after = a }

    -- a message that is not new changes nothing
    pub same_unless_new : ((accept_data same a n b).answer ≡ New → ⊥) → (accept_data same a n b).after ≡ a
    same_unless_new = at_once (nth a.list n)
      where
        in_turn : (p q r : Bool) → ((cond p (cond q late (cond r last new)) gap).answer ≡ New → ⊥) → (cond p (cond q late (cond r last new)) gap).after ≡ a
        in_turn false q r h = refl
        in_turn true true r h = refl
        in_turn true false true h = refl
        in_turn true false false h = absurd (h refl)

        at_once : (o : Option (ℕ × P)) → ((data_at same o a n b).answer ≡ New → ⊥) → (data_at same o a n b).after ≡ a
        at_once (Some m) h = refl
        at_once None h = in_turn (n == length a.list) (ltb b.0 a.clock) (last_from b.0 a.list) h

    -- a new message is the next one, at the clock or later, and later than the last
    pub new_is_next : (accept_data same a n b).answer ≡ New → ((n == length a.list) ≡ true) × (ltb b.0 a.clock ≡ false) × (last_from b.0 a.list ≡ false)
    new_is_next = at_once (nth a.list n)
      where
        in_turn : (p q r : Bool) → (cond p (cond q late (cond r last new)) gap).answer ≡ New → (p ≡ true) × (q ≡ false) × (r ≡ false)
        in_turn false q r h = absurd cc
        in_turn true true r h = absurd cc
        in_turn true false true h = absurd cc
        in_turn true false false h = (refl, refl, refl)

        not_new : (z : Bool) → cond z Known (Differs n) ≡ New → ⊥
        not_new true h = cc
        not_new false h = cc

        at_once : (o : Option (ℕ × P)) → (data_at same o a n b).answer ≡ New → ((n == length a.list) ≡ true) × (ltb b.0 a.clock ≡ false) × (last_from b.0 a.list ≡ false)
        at_once (Some m) h = absurd (not_new (same_message same m b) h)
        at_once None h = in_turn (n == length a.list) (ltb b.0 a.clock) (last_from b.0 a.list) h
