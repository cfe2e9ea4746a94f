-- Each step on a word keeps the board's rule.
use Rattle.std.proofs.Common.{◌≡◌, ◌≢◌, ◌⊎◌, ℕ, List, [], ◌∷◌, ◌++◌, set, refl, sym, ap, ◌∙◌, subst, ⊎_elim, inl, inr, arith}
use Rattle.std.specs.Prelude.{slice_index, slice_set, max}
use mathlib.Core.Option.{some}
use lib.ListN.{get_elem?}
use Rattle.atomic_table.specs.Table.{State, keeps, Allows, Splits, Joins}
use Rattle.atomic_table.proofs.Lists.{at_set, at_snoc, set_again}
use Rattle.nm_shared.specs.declared.word.View.{View}
use Rattle.nm_shared.specs.Clock.{looker, all_max, raised_view, looked, joined_view, AllAre, Fits, EachFits, OneOwns, IsKept}

abbrev holds : State ℕ View → Type 0
holds s = IsKept s.words s.views

all_are_max : (n k : ℕ) (xs : List ℕ) → AllAre n xs → AllAre (max n k) (all_max k xs)
all_are_max n k [] h = tt
all_are_max n k (x ∷ xs) h = (ap (λ y. max y k) h.0, all_are_max n k xs h.1)

all_are_both : (n : ℕ) (xs ys : List ℕ) → AllAre n xs → AllAre n ys → AllAre n (xs ++ ys)
all_are_both n [] ys h k = k
all_are_both n (x ∷ xs) ys h k = (h.0, all_are_both n xs ys h.1 k)

pub all_are_front : (n : ℕ) (xs ys : List ℕ) → AllAre n (xs ++ ys) → AllAre n xs
all_are_front n [] ys h = tt
all_are_front n (x ∷ xs) ys h = (h.0, all_are_front n xs ys h.1)

pub all_are_back : (n : ℕ) (xs ys : List ℕ) → AllAre n (xs ++ ys) → AllAre n ys
all_are_back n [] ys h = h
all_are_back n (x ∷ xs) ys h = all_are_back n xs ys h.1

-- what fits a joined view fits both
pub joined_fits : (n : ℕ) (v w : View) → Fits n (joined_view v w) → Fits n v × Fits n w
joined_fits n v w h = ((all_are_front n v.owned w.owned h.0, omega arith), (all_are_back n v.owned w.owned h.0, omega arith))

nothing : (n : ℕ) (xs : List ℕ) → (xs ≢ [] → ⊥) → AllAre n xs
nothing n [] h = tt
nothing n (x ∷ xs) h = absurd (h (λ e. cc))

some_of : (xs ys : List ℕ) → xs ++ ys ≢ [] → (xs ≢ []) ⊎ (ys ≢ [])
some_of [] ys h = inr h
some_of (x ∷ xs) ys h = inl (λ e. cc)

one_set : (views : List View) (id : ℕ) (v w : View) → OneOwns views → get_elem? views id ≡ some v → (w.owned ≢ [] → v.owned ≢ []) → OneOwns (set views id w)
one_set views id v w one at imp i j u x eu ex ou ox =
    ⊎_elim
    (λ (a : (i ≡ id) × (w ≡ u)). ⊎_elim
    (λ (b : (j ≡ id) × (w ≡ x)). a.0 ∙ sym b.0)
    (λ (b : (j ≢ id) × (get_elem? views j ≡ some x)). a.0 ∙ one id j v x at b.1 (imp (subst (λ (y : View). y.owned ≢ []) (sym a.1) ou)) ox)
    (at_set views id j w x ex))
    (λ (a : (i ≢ id) × (get_elem? views i ≡ some u)). ⊎_elim
    (λ (b : (j ≡ id) × (w ≡ x)). one i id u v a.1 at ou (imp (subst (λ (y : View). y.owned ≢ []) (sym b.1) ox)) ∙ sym b.0)
    (λ (b : (j ≢ id) × (get_elem? views j ≡ some x)). one i j u x a.1 b.1 ou ox)
    (at_set views id j w x ex))
    (at_set views id i w u eu)

each_set : (n : ℕ) (views : List View) (id : ℕ) (w : View) → ((j : ℕ) (u : View) → j ≢ id → get_elem? views j ≡ some u → Fits n u) → Fits n w → EachFits n (set views id w)
each_set n views id w others mine j u e =
    ⊎_elim
    (λ (a : (j ≡ id) × (w ≡ u)). subst (Fits n) a.1 mine)
    (λ (a : (j ≢ id) × (get_elem? views j ≡ some u)). others j u a.0 a.1)
    (at_set views id j w u e)

pub raises : (slots id : ℕ) (v : View) (c : List (ℕ × ℕ)) (k : ℕ) → v.owned ≢ [] → Allows holds slots id (v, c) 0 (λ n. max n k) (λ n after. (after.0 ≡ raised_view k v) × (after.1 ≡ c))
raises slots id v c k owns s h homes at bound =
    let P : List ℕ → Type 0 = λ ws. IsKept (slice_set ws 0 (max (slice_index ws 0) k)) (set s.views id (raised_view k v)) in
    let fits : EachFits (max h.word k) (set s.views id (raised_view k v)) =
    each_set (max h.word k) s.views id (raised_view k v)
    (λ j u apart e. let f = h.fits j u e in (nothing (max h.word k) u.owned (λ o. apart (h.one j id u v e at o owns)), omega arith))
    (let f = h.fits id v at in (all_are_max h.word k v.owned f.0, omega arith)) in
    let one : OneOwns (set s.views id (raised_view k v)) = one_set s.views id v (raised_view k v) h.one at (λ _. owns) in
    (raised_view k v, keeps, tt, subst P (sym h.is) (record { word = max h.word k; is = refl; fits = fits; one = one }), (refl, refl))

pub looks : (slots id : ℕ) (v : View) (c : List (ℕ × ℕ)) → Allows holds slots id (v, c) 0 (λ n. n) (λ n after. (after.0 ≡ looked n v) × Fits n v × (after.1 ≡ c))
looks slots id v c s h homes at bound =
    let P : List ℕ → Type 0 = λ ws. IsKept (slice_set ws 0 (slice_index ws 0)) (set s.views id (looked (slice_index ws 0) v)) in
    let f : Fits h.word v = h.fits id v at in
    let fits : EachFits h.word (set s.views id (looked h.word v)) = each_set h.word s.views id (looked h.word v) (λ j u apart e. h.fits j u e) (f.0, omega arith) in
    let one : OneOwns (set s.views id (looked h.word v)) = one_set s.views id v (looked h.word v) h.one at (λ o. o) in
    let Q : List ℕ → Type 0 = λ ws. Fits (slice_index ws 0) v in
    (looked (slice_index s.words 0) v, keeps, tt, subst P (sym h.is) (record { word = h.word; is = refl; fits = fits; one = one }), (refl, subst Q (sym h.is) f, refl))

pub splits : (id : ℕ) (v : View) → Splits holds id v v looker
splits id v s h at =
    let P : List View → Type 0 = λ vs. IsKept s.words (vs ++ looker ∷ []) in
    let fits : EachFits h.word (s.views ++ looker ∷ []) = λ j u e. ⊎_elim (λ (a : get_elem? s.views j ≡ some u). h.fits j u a) (λ (a : looker ≡ u). subst (Fits h.word) a (tt, omega arith)) (at_snoc s.views looker u j e) in
    let none : (u : View) → looker ≡ u → u.owned ≢ [] → ⊥ = λ u a o. subst (λ (y : View). y.owned ≢ []) (sym a) o refl in
    let one : OneOwns (s.views ++ looker ∷ []) = λ i j u x eu ex ou ox. ⊎_elim
    (λ (a : get_elem? s.views i ≡ some u). ⊎_elim (λ (b : get_elem? s.views j ≡ some x). h.one i j u x a b ou ox) (λ (b : looker ≡ x). absurd (none x b ox)) (at_snoc s.views looker x j ex))
    (λ (a : looker ≡ u). absurd (none u a ou))
    (at_snoc s.views looker u i eu) in
    subst P (sym (set_again s.views id v at)) (record { word = h.word; is = h.is; fits = fits; one = one })

pub joins : (id : ℕ) (v : View) (other : ℕ) (w : View) → Joins holds id v other w (joined_view v w) looker
joins id v other w s h at apart there =
    let b : View = joined_view v w in
    let at' : get_elem? s.views other ≡ some w = ⊎_elim (λ (t : (other ≡ id) × (b ≡ w)). absurd (apart t.0)) (λ (t : (other ≢ id) × (get_elem? s.views other ≡ some w)). t.1) (at_set s.views id other b w there) in
    let fv : Fits h.word v = h.fits id v at in
    let fw : Fits h.word w = h.fits other w at' in
    let fb : Fits h.word b = (all_are_both h.word v.owned w.owned fv.0 fw.0, omega arith) in
    let fits : EachFits h.word (set (set s.views id b) other looker) =
    each_set h.word (set s.views id b) other looker (λ j u _ e. each_set h.word s.views id b (λ j' u' _ e'. h.fits j' u' e') fb j u e) (tt, omega arith) in
    let none : (u : View) → looker ≡ u → u.owned ≢ [] → ⊥ = λ u a o. subst (λ (y : View). y.owned ≢ []) (sym a) o refl in
    let lone : (j : ℕ) (x : View) → j ≢ id → j ≢ other → get_elem? s.views j ≡ some x → x.owned ≢ [] → b.owned ≢ [] → ⊥ = λ j x n m e o ob. ⊎_elim
    (λ (ov : v.owned ≢ []). n (sym (h.one id j v x at e ov o)))
    (λ (ow : w.owned ≢ []). m (sym (h.one other j w x at' e ow o)))
    (some_of v.owned w.owned ob) in
    let owns : (u : View) → b ≡ u → u.owned ≢ [] → b.owned ≢ [] = λ u a o. subst (λ (y : View). y.owned ≢ []) (sym a) o in
    let inner : (i j : ℕ) (u x : View) → i ≢ other → j ≢ other → get_elem? (set s.views id b) i ≡ some u → get_elem? (set s.views id b) j ≡ some x → u.owned ≢ [] → x.owned ≢ [] → i ≡ j = λ i j u x ni nj eu ex ou ox. ⊎_elim
    (λ (a : (i ≡ id) × (b ≡ u)). ⊎_elim
    (λ (t : (j ≡ id) × (b ≡ x)). a.0 ∙ sym t.0)
    (λ (t : (j ≢ id) × (get_elem? s.views j ≡ some x)). absurd (lone j x t.0 nj t.1 ox (owns u a.1 ou)))
    (at_set s.views id j b x ex))
    (λ (a : (i ≢ id) × (get_elem? s.views i ≡ some u)). ⊎_elim
    (λ (t : (j ≡ id) × (b ≡ x)). absurd (lone i u a.0 ni a.1 ou (owns x t.1 ox)))
    (λ (t : (j ≢ id) × (get_elem? s.views j ≡ some x)). h.one i j u x a.1 t.1 ou ox)
    (at_set s.views id j b x ex))
    (at_set s.views id i b u eu) in
    let one : OneOwns (set (set s.views id b) other looker) = λ i j u x eu ex ou ox. ⊎_elim
    (λ (a : (i ≡ other) × (looker ≡ u)). absurd (none u a.1 ou))
    (λ (a : (i ≢ other) × (get_elem? (set s.views id b) i ≡ some u)). ⊎_elim
    (λ (t : (j ≡ other) × (looker ≡ x)). absurd (none x t.1 ox))
    (λ (t : (j ≢ other) × (get_elem? (set s.views id b) j ≡ some x)). inner i j u x a.0 t.0 a.1 t.1 ou ox)
    (at_set (set s.views id b) other j looker x ex))
    (at_set (set s.views id b) other i looker u eu) in
    record { word = h.word; is = h.is; fits = fits; one = one }
