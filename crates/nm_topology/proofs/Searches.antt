-- The least number below a bound that passes.
use Rattle.std.proofs.Common.{◌≡◌, ◌⊎◌, ℕ, zero, suc, ◌<◌, ◌+◌, Bool, true, false, List, Option}
use Rattle.std.proofs.Common.{Some, None, IfSome, decimal, length, [], refl, sym, ◌∙◌, ap, subst}
use Rattle.std.proofs.Common.{arith, inl, inr}
use Rattle.std.specs.List.{position_or_len, after_first, before_first}
use Rattle.std.specs.Option.{option_and_then}
use Rattle.std.specs.Str.{bytes_eq}
use Rattle.std.proofs.lemmas.List.{drop_all}
use Rattle.std.proofs.lemmas.Fmt.{decimal_is_IsNumeral}
use Rattle.std.proofs.lemmas.Slice.Eq.{bytes_eq-Decides}
use Rattle.nm_topology.specs.Parse.Forms.{or_this, least_below, is_slash, length_of, address_of}
use Rattle.nm_topology.specs.Parse.Forms.{prefix_at, prefix_of}

below_or_last : (a n : ℕ) → a < suc n → (a < n) ⊎ (a ≡ n)
below_or_last a n h = grind arith

or_this-some : (o : Option ℕ) (k n : ℕ) (b : Bool) → Some k ≡ o → Some k ≡ or_this o n b
or_this-some o k n b e = subst (λ (x : Option ℕ). Some k ≡ or_this x n b) e refl

or_this-none : (o : Option ℕ) (n : ℕ) (b : Bool) → None ≡ o → or_this None n b ≡ or_this o n b
or_this-none o n b e = ap (λ x. or_this x n b) e

last_passes : (r : Option ℕ) (n : ℕ) (b : Bool) → r ≡ Some n → b ≡ true → r ≡ or_this None n b
last_passes r n b e h = e ∙ ap (λ x. or_this None n x) (sym h)

last_fails : (n : ℕ) (b : Bool) → (b ≡ true → None ≡ Some n) → None ≡ or_this None n b
last_fails n true h = h refl
last_fails n false h = refl

-- what passes at one number alone is found there, and what passes at none is not found
pub least_below-is : (n : ℕ) (p : ℕ → Bool) (r : Option ℕ) → IfSome r (λ a. (a < n) × (p a ≡ true)) → ((a : ℕ) → a < n → p a ≡ true → r ≡ Some a) → r ≡ least_below n p
unfolding least_below
least_below-is zero p None found only = refl
least_below-is zero p (Some a) found only = absurd (omega (arith, found.0))
least_below-is (suc n) p None found only =
    last_fails n (p n) (λ h. only n (omega arith) h) ∙ or_this-none (least_below n p) n (p n) (least_below-is n p None found (λ a h q. only a (omega arith) q))
least_below-is (suc n) p (Some a) found only =
    at (λ h. least_below-is n p (Some a) (h, found.1) (λ b i q. only b (omega arith) q))
    (λ e. least_below-is n p None tt (λ b i q. absurd (let same : Some a ≡ Some b = only b (omega arith) q in let s : a ≡ b = cc in omega (arith, s, e))))
    (below_or_last a n found.0)
  where
    at : (a < n → Some a ≡ least_below n p) → (a ≡ n → None ≡ least_below n p) → (a < n) ⊎ (a ≡ n) → Some a ≡ or_this (least_below n p) n (p n)
    at below last (inl h) = or_this-some (least_below n p) a n (p n) (below h)
    at below last (inr e) = last_passes (Some a) n (p n) (ap Some e) (subst (λ (x : ℕ). p x ≡ true) e found.1) ∙ or_this-none (least_below n p) n (p n) (last e)

-- the text that one number has is read as that number
pub text-is : (n : ℕ) (text_of : ℕ → List ℕ) (text : List ℕ) (r : Option ℕ) → IfSome r (λ a. (a < n) × (text ≡ text_of a)) → ((a : ℕ) → a < n → text ≡ text_of a → r ≡ Some a) → r ≡ least_below n (λ a. bytes_eq text (text_of a))
text-is n text_of text r found only = least_below-is n (λ a. bytes_eq text (text_of a)) r (finds r found) (λ a h q. only a h ((bytes_eq-Decides text (text_of a)).0 q))
  where
    finds : (o : Option ℕ) → IfSome o (λ a. (a < n) × (text ≡ text_of a)) → IfSome o (λ a. (a < n) × (bytes_eq text (text_of a) ≡ true))
    finds None h = tt
    finds (Some a) h = (h.0, (bytes_eq-Decides text (text_of a)).1 h.1)

decimal_not_empty : (n : ℕ) → n < 33 → [] ≡ decimal n → ⊥
decimal_not_empty n h e = let p = decimal_is_IsNumeral n (omega arith) in let l : 0 ≡ length (decimal n) = ap length e in omega (arith, p.0.0, l)

and_then-none : {A B : Type 0} (f : A → Option B) (o : Option A) → ((x : A) → None ≡ f x) → None ≡ option_and_then f o
and_then-none f None h = refl
and_then-none f (Some x) h = h x

-- a text without a slash writes no prefix
pub prefix_of-no_slash : (text : List ℕ) → position_or_len is_slash text ≡ length text → None ≡ prefix_of text
prefix_of-no_slash text h =
    let empty : after_first is_slash text ≡ [] = drop_all (position_or_len is_slash text + 1) text (omega arith) in
    let unread : None ≡ length_of [] = text-is 33 decimal [] None tt (λ n l e. absurd (decimal_not_empty n l e)) in
    and_then-none (λ a. option_and_then (λ n. prefix_at a n) (length_of (after_first is_slash text))) (address_of (before_first is_slash text))
    (λ a. subst (λ (o : Option ℕ). None ≡ option_and_then (λ n. prefix_at a n) o) (unread ∙ sym (ap length_of empty)) refl)
