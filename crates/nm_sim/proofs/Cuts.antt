-- The records of some interfaces.
use Rattle.std.proofs.Common.{◌≡◌, ℕ, suc, ◌≤◌, ◌==◌, Bool, true, false, cond, All as AllOf, List, [], ◌∷◌, ◌++◌, filter, length, refl, sym, ap, ◌∙◌, arith}
use Rattle.std.proofs.lemmas.List.Elements.{All-cons, All-head, All-nil, All-tail}
use Rattle.nm_base.specs.declared.record.Record.{Record}
use Rattle.nm_base.specs.declared.wanted.Wanted.{Wanted}
use Rattle.nm_base.specs.declared.wanted.Wanted.TheVariants.{All, Nothing, One}
use Rattle.nm_model.specs.Lists.{keep_where}
use Rattle.nm_model.proofs.ListLemmas.{kept-append}
use Rattle.nm_sim.specs.Records.{cut}

-- the records of some interfaces, of two lists one after the other
pub cut-append : (w : Wanted) (xs ys : List (Record (List ℕ))) → cut w (xs ++ ys) ≡ cut w xs ++ cut w ys
cut-append All xs ys = refl
cut-append Nothing xs ys = refl
cut-append (One i) xs ys = kept-append (λ r. r.iface == i) xs ys

-- they are no more than all
pub length-cut : (w : Wanted) (xs : List (Record (List ℕ))) → length (cut w xs) ≤ length xs
length-cut All xs = omega arith
length-cut Nothing xs = omega arith
length-cut (One i) xs = go xs
  where
    go : (l : List (Record (List ℕ))) → length (keep_where (λ r. r.iface == i) l) ≤ length l
    go [] = omega arith
    go (x ∷ l) =
        let h = go l in
        elim (x.iface == i) as (λ b. length (cond b (x ∷ keep_where (λ r. r.iface == i) l) (keep_where (λ r. r.iface == i) l)) ≤ suc (length l)) [ true ↦ omega (arith, h) | false ↦ omega (arith, h) ]

-- what is true of each record is true of those
pub All-cut : (P : Record (List ℕ) → Type 0) (w : Wanted) (xs : List (Record (List ℕ))) → AllOf P xs → AllOf P (cut w xs)
All-cut P All xs h = h
All-cut P Nothing xs h = All-nil P
All-cut P (One i) xs h = go xs h
  where
    go : (l : List (Record (List ℕ))) → AllOf P l → AllOf P (keep_where (λ r. r.iface == i) l)
    go [] h = All-nil P
    go (x ∷ l) h =
        let rest = go l (All-tail P x l h) in
        elim (x.iface == i) as (λ b. AllOf P (cond b (x ∷ keep_where (λ r. r.iface == i) l) (keep_where (λ r. r.iface == i) l))) [
          | true ↦ All-cons P x (keep_where (λ r. r.iface == i) l) (All-head P x l h) rest
          | false ↦ rest
        ]

-- of the records of one interface as many are at it as of all, whichever of them are left out
pub cut-here : (q : Record (List ℕ) → Bool) (i : ℕ) (xs : List (Record (List ℕ)))
    → filter (λ r. r.iface == i) (filter q (cut (One i) xs)) ≡ filter (λ r. r.iface == i) (filter q xs)
cut-here q i [] = refl
cut-here q i (x ∷ xs) = go (cut-here q i xs) (x.iface == i) refl
  where
    p : Record (List ℕ) → Bool
    p r = r.iface == i

    go : filter p (filter q (keep_where p xs)) ≡ filter p (filter q xs) → (b : Bool) → p x ≡ b
        → filter p (filter q (cond b (x ∷ keep_where p xs) (keep_where p xs))) ≡ filter p (filter q (x ∷ xs))
    go more true e = elim (q x) as (λ c. filter p (cond c (x ∷ filter q (keep_where p xs)) (filter q (keep_where p xs))) ≡ filter p (cond c (x ∷ filter q xs) (filter q xs))) [
      | true ↦ ap (λ l. cond (p x) (x ∷ l) l) more
      | false ↦ more
    ]
    go more false e = more ∙ elim (q x) as (λ c. filter p (filter q xs) ≡ filter p (cond c (x ∷ filter q xs) (filter q xs))) [
      | true ↦ sym (ap (λ b. cond b (x ∷ filter p (filter q xs)) (filter p (filter q xs))) e)
      | false ↦ refl
    ]
