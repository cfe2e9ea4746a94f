-- Lists of messages that do not differ.
use Rattle.std.proofs.Common.{◌≡◌, ℕ, zero, suc, ◌+◌, ◌<◌, ◌≤◌, min, max, ◌==◌, Bool, true, false, not, cond, leb, List, [], ◌∷◌, length, drop, Option, Some, None, refl, sym, ap, ap₂, ◌∙◌, arith}
use Rattle.std.proofs.lemmas.Bool.Decides.{nat_tests}
use Rattle.std.specs.Cmp.{first_so, second_so}
use Rattle.std.specs.Cmp.Lexicographic.{bytes_decides}
use Rattle.nm_model.specs.Lists.{nth}
use Rattle.nm_model.specs.Knowledge.{Know}
use Rattle.nm_model.specs.Accept.{Answer, same_message, IsReflexive, TellsApart}
use Rattle.nm_model.specs.Join.{join, first_differs, late_past, or_else, differs_at, join_fault}
use Rattle.nm_knowledge.specs.Octets.{same_octets}

pub negated : (a b : Bool) → not a ≡ b → a ≡ not b
negated true b e = ap not e
negated false b e = ap not e

module _ {P : Type 0} (same : P → P → Bool) where
  -- from a number on, by the two messages of this number
  differs_on : (m n : ℕ) (k l : List (ℕ × P)) (x y : ℕ × P) → nth k n ≡ Some x → nth l n ≡ Some y → first_differs same m (drop n k) (drop n l) ≡ cond (same_message same x y) (first_differs same (suc m) (drop (suc n) k) (drop (suc n) l)) (Some m)
  differs_on m n [] l x y e f = absurd (cc)
  differs_on m n (a ∷ k) [] x y e f = absurd (cc)
  differs_on m zero (a ∷ k) (b ∷ l) x y e f =
      let is : ◌≡◌ {A = ℕ × P} a x = cc in
      let other : ◌≡◌ {A = ℕ × P} b y = cc in
      ap₂ (λ v w. cond (same_message same v w) (first_differs same (suc m) k l) (Some m)) is other
  differs_on m (suc n) (a ∷ k) (b ∷ l) x y e f = differs_on m n k l x y e f

  pub differs_here : (m n : ℕ) (k l : List (ℕ × P)) (x y : ℕ × P) → nth k n ≡ Some x → nth l n ≡ Some y → same_message same x y ≡ false → first_differs same m (drop n k) (drop n l) ≡ Some m
  differs_here m n k l x y e f apart = differs_on m n k l x y e f ∙ ap (λ z. cond z (first_differs same (suc m) (drop (suc n) k) (drop (suc n) l)) (Some m)) apart

  pub differs_later : (m n : ℕ) (k l : List (ℕ × P)) (x y : ℕ × P) → nth k n ≡ Some x → nth l n ≡ Some y → same_message same x y ≡ true
      → first_differs same m (drop n k) (drop n l) ≡ first_differs same (m + 1) (drop (n + 1) k) (drop (n + 1) l)
  differs_later m n k l x y e f alike =
      let one : suc m ≡ m + 1 = omega arith in
      let other : suc n ≡ n + 1 = omega arith in
      differs_on m n k l x y e f ∙ ap (λ z. cond z (first_differs same (suc m) (drop (suc n) k) (drop (suc n) l)) (Some m)) alike
      ∙ ap₂ (λ i j. first_differs same i (drop j k) (drop j l)) one other

  pub differs_past : (m n : ℕ) (k l : List (ℕ × P)) → min (length k) (length l) ≤ n → first_differs same m (drop n k) (drop n l) ≡ None
  differs_past m zero [] l h = refl
  differs_past m (suc n) [] l h = refl
  differs_past m zero (a ∷ k) [] h = refl
  differs_past m (suc n) (a ∷ k) [] h = none (drop n k)
    where
      none : (z : List (ℕ × P)) → first_differs same m z [] ≡ None
      none [] = refl
      none (x ∷ z) = refl
  differs_past m zero (a ∷ k) (b ∷ l) h = absurd (omega arith)
  differs_past m (suc n) (a ∷ k) (b ∷ l) h = differs_past m n k l (omega arith)

  pub no_fault : (a b : Know P) → first_differs same 0 a.list b.list ≡ None → late_past a.clock (nth b.list (length a.list)) ≡ None → late_past b.clock (nth a.list (length b.list)) ≡ None → join_fault same a b ≡ None
  no_fault a b e f g = ap (λ o. or_else (differs_at o) (or_else (late_past a.clock (nth b.list (length a.list))) (late_past b.clock (nth a.list (length b.list))))) e ∙ ap₂ (λ o p. or_else o p) f g

-- packets are the same where their octets are
pub octets_same : IsReflexive same_octets
octets_same x = (bytes_decides x x).1 refl

pub octets_tell : TellsApart same_octets
octets_tell x y e = (bytes_decides x y).0 e

pub number_is : (m n : ℕ) → (m == n) ≡ true → m ≡ n
number_is m n h = grind (arith, nat_tests)

pub message_is : {P : Type 0} (same : P → P → Bool) → TellsApart same → (x y : ℕ × P) → same_message same x y ≡ true → x ≡ y
message_is same tells x y e =
    let t = number_is x.0 y.0 (first_so (x.0 == y.0) (same x.1 y.1) e) in
    let p = tells x.1 y.1 (second_so (x.0 == y.0) (same x.1 y.1) e) in
    λ i. (t i, p i)

-- lists of one length that do not differ are the same
same_lists : (n : ℕ) (k l : List (ℕ × List ℕ)) → first_differs same_octets n k l ≡ None → length k ≡ length l → k ≡ l
same_lists n [] [] e h = refl
same_lists n [] (y ∷ l) e h = absurd (omega arith)
same_lists n (x ∷ k) [] e h = absurd (omega arith)
same_lists n (x ∷ k) (y ∷ l) e h = go (same_message same_octets x y) refl e (λ g. same_lists (suc n) k l g (omega arith))
  where
    go : (z : Bool) → same_message same_octets x y ≡ z → cond z (first_differs same_octets (suc n) k l) (Some n) ≡ None → (first_differs same_octets (suc n) k l ≡ None → k ≡ l) → x ∷ k ≡ y ∷ l
    go true f g r = ap₂ (λ z w. z ∷ w) (message_is same_octets octets_tell x y f) (r g)
    go false f g r = absurd (cc)

no_difference : (o : Option ℕ) (p : Option Answer) → or_else (differs_at o) p ≡ None → o ≡ None
no_difference None p e = refl
no_difference (Some n) p e = absurd (cc)

-- the join has its first list where that is as long or longer
pub joins_own : (a b : Know (List ℕ)) → join_fault same_octets a b ≡ None → length b.list ≤ length a.list → join a b ≡ record { list = a.list; clock = max a.clock b.clock }
joins_own a b e h = go (leb (length a.list) (length b.list)) refl
  where
    go : (z : Bool) → leb (length a.list) (length b.list) ≡ z → ◌≡◌ {A = Know (List ℕ)} (record { list = cond z b.list a.list; clock = max a.clock b.clock }) (record { list = a.list; clock = max a.clock b.clock })
    go false f = refl
    go true f =
        let le : length a.list ≤ length b.list = grind (arith, nat_tests) in
        let same = same_lists 0 a.list b.list (no_difference (first_differs same_octets 0 a.list b.list) _ e) (omega arith) in
        λ i. record { list = sym same i; clock = max a.clock b.clock }

-- and its second where that is longer
pub joins_others : (a b : Know (List ℕ)) → length a.list < length b.list → join a b ≡ record { list = b.list; clock = max a.clock b.clock }
joins_others a b h =
    let le : leb (length a.list) (length b.list) ≡ true = grind (arith, nat_tests) in
    λ i. record { list = cond (le i) b.list a.list; clock = max a.clock b.clock }
