-- Books in a list, and messages of two lists, one after another.
use Rattle.std.proofs.Common.{◌≡◌, ℕ, zero, suc, ◌+◌, ◌<◌, ◌≤◌, All, Contains, true, false, cond, List, [], ◌∷◌, length, map, drop, get_or, Option, Some, None, refl, sym, ap, ◌∙◌, subst, arith}
use Rattle.std.proofs.lemmas.List.{at_drop_more, at_drop_all, get_or-map, length-map}
use Rattle.nm_model.specs.Certificate.{Book, CertificateFault, PrefixFault, first_of, prefix_fault}
use Rattle.nm_model.specs.Join.{or_else}
use Rattle.nm_model.specs.Lists.{nth}
use Rattle.nm_model.proofs.ListLemmas.{nth_below}
use Rattle.nm_knowledge.specs.Octets.{same_octets}
use Rattle.nm_book.specs.Book.{BookValue}
use Rattle.nm_rounds.specs.Certify.{book_of, books_of, is_same_entry}

module _ {A : Type 0} (value : A → BookValue) (l : List A) (n : ℕ) (x : A) (there : n < length l) (is : x ≡ get_or l n x) where
  -- what holds of all holds of the n-th
  pub all_at : (P : BookValue → Type 0) → All P (map value l) → P (value x)
  all_at P all =
      let inside : n < length (map value l) = omega (arith, length-map l value) in
      subst P (get_or-map value l n x (value x) there ∙ ap value (sym is)) (all n (value x) inside)

  pub is_contained : Contains (map value l) (value x)
  is_contained = (n, omega (arith, length-map l value), get_or-map value l n x (value x) there ∙ ap value (sym is))

  -- the first fault from the n-th on is its own, or one behind it
  pub first_at : (f : Book (List ℕ) → Option CertificateFault)
      → first_of f (books_of (map value (drop n l))) ≡ or_else (f (book_of (value x))) (first_of f (books_of (map value (drop (n + 1) l))))
  first_at f =
      at_drop_more (λ z. first_of f (books_of (map value z))) l n x there
      ∙ ap (λ y. or_else (f (book_of (value y))) (first_of f (books_of (map value (drop (n + 1) l))))) (sym is)

  pub first_behind : (f : Book (List ℕ) → Option CertificateFault) → f (book_of (value x)) ≡ None
      → first_of f (books_of (map value (drop n l))) ≡ first_of f (books_of (map value l))
      → first_of f (books_of (map value (drop (n + 1) l))) ≡ first_of f (books_of (map value l))
  first_behind f none rest = ap (λ o. or_else o (first_of f (books_of (map value (drop (n + 1) l))))) (sym none) ∙ sym (first_at f) ∙ rest

  pub first_here : (f : Book (List ℕ) → Option CertificateFault) (fault : CertificateFault) → f (book_of (value x)) ≡ Some fault
      → first_of f (books_of (map value (drop n l))) ≡ first_of f (books_of (map value l))
      → first_of f (books_of (map value l)) ≡ Some fault
  first_here f fault found rest = sym rest ∙ first_at f ∙ ap (λ o. or_else o (first_of f (books_of (map value (drop (n + 1) l))))) found

-- behind the last there is no fault
pub first_past : {A : Type 0} (value : A → BookValue) (l : List A) (n : ℕ) → length l ≤ n → (f : Book (List ℕ) → Option CertificateFault)
    → first_of f (books_of (map value (drop n l))) ≡ first_of f (books_of (map value l)) → first_of f (books_of (map value l)) ≡ None
first_past value l n past f rest = sym rest ∙ at_drop_all (λ z. first_of f (books_of (map value z))) l n past

-- message n decides whether a prefix goes on
module _ (c : ℕ) where
  prefix_on : (m n : ℕ) (k l : List (ℕ × List ℕ)) → n < length k
      → prefix_fault same_octets c m (drop n k) (drop n l)
      ≡ cond (is_same_entry (nth k n) (nth l n)) (prefix_fault same_octets c (suc m) (drop (suc n) k) (drop (suc n) l)) (Some (PrefixFault c m))
  prefix_on m n [] l h = absurd (omega arith)
  prefix_on m zero (x ∷ k) [] h = refl
  prefix_on m zero (x ∷ k) (y ∷ l) h = refl
  prefix_on m (suc n) (x ∷ k) [] h = past n k (nth_below k n (omega arith))
    where
      past : (n : ℕ) (k : List (ℕ × List ℕ)) → (y : ℕ × List ℕ) × (nth k n ≡ Some y)
          → prefix_fault same_octets c m (drop n k) [] ≡ cond (is_same_entry (nth k n) None) (prefix_fault same_octets c (suc m) (drop (suc n) k) []) (Some (PrefixFault c m))
      past n [] there = let e = there.1 in absurd (cc)
      past zero (x ∷ k) there = refl
      past (suc n) (x ∷ k) there = past n k there
  prefix_on m (suc n) (x ∷ k) (y ∷ l) h = prefix_on m n k l (omega arith)

  pub prefix_ends : (n : ℕ) (k l : List (ℕ × List ℕ)) → n < length k → is_same_entry (nth k n) (nth l n) ≡ false
      → prefix_fault same_octets c n (drop n k) (drop n l) ≡ Some (PrefixFault c n)
  prefix_ends n k l h apart =
      prefix_on n n k l h ∙ ap (λ z. cond z (prefix_fault same_octets c (suc n) (drop (suc n) k) (drop (suc n) l)) (Some (PrefixFault c n))) apart

  pub prefix_goes_on : (n : ℕ) (k l : List (ℕ × List ℕ)) → n < length k → is_same_entry (nth k n) (nth l n) ≡ true
      → prefix_fault same_octets c n (drop n k) (drop n l) ≡ prefix_fault same_octets c (n + 1) (drop (n + 1) k) (drop (n + 1) l)
  prefix_goes_on n k l h alike =
      let more : suc n ≡ n + 1 = omega arith in
      prefix_on n n k l h ∙ ap (λ z. cond z (prefix_fault same_octets c (suc n) (drop (suc n) k) (drop (suc n) l)) (Some (PrefixFault c n))) alike
      ∙ ap (λ j. prefix_fault same_octets c j (drop j k) (drop j l)) more
