-- One link more, and the far ends of interfaces.
use Rattle.std.proofs.Common.{◌≡◌, All, ℕ, zero, suc, ◌<◌, true, false, ◌==◌, cond, List, [], ◌∷◌}
use Rattle.std.proofs.Common.{length, set, Some, refl, sym, ap, ◌∙◌, arith, ⊎_elim, length-set}
use Rattle.std.specs.Prelude.{slice_get}
use Rattle.std.proofs.lemmas.Bool.Decides.{nat_tests}
use Rattle.std.proofs.lemmas.List.Elements.{All-set}
use Rattle.nm_topology.specs.declared.parts.Far.{Far}
use Rattle.nm_topology.specs.declared.parts.Link.{Link}
use Rattle.nm_topology.specs.Build.{far_by_links, joined}
use Rattle.nm_topology.proofs.Uses.{same_or_not}

pub is_same : (a i : ℕ) → a ≡ i → (a == i) ≡ true
is_same a i e = grind (arith, nat_tests)

pub is_other : (a i : ℕ) → (a ≡ i → ⊥) → (a == i) ≡ false
is_other a i e = grind (arith, nat_tests)

set_same : {X : Type 0} (xs : List X) (a : ℕ) (x : X) → a < length xs → slice_get (set xs a x) a ≡ Some x
set_same [] a x h = absurd (omega arith)
set_same (y ∷ ys) zero x h = refl
set_same (y ∷ ys) (suc a) x h = set_same ys a x (omega arith)

set_here : {X : Type 0} (xs : List X) (a i : ℕ) (x : X) → a < length xs → a ≡ i → slice_get (set xs a x) i ≡ Some x
set_here xs a i x h e = ap (slice_get (set xs a x)) (sym e) ∙ set_same xs a x h

set_there : {X : Type 0} (xs : List X) (a i : ℕ) (x : X) → (a ≡ i → ⊥) → slice_get (set xs a x) i ≡ slice_get xs i
set_there [] a i x e = refl
set_there (y ∷ ys) zero zero x e = absurd (e refl)
set_there (y ∷ ys) zero (suc i) x e = refl
set_there (y ∷ ys) (suc a) zero x e = refl
set_there (y ∷ ys) (suc a) (suc i) x e = set_there ys a i x (λ f. e (ap suc f))

pub joined-get : (far : List Far) (l : Link) (rest : List Link) (i : ℕ) → l.a < length far → l.b < length far → slice_get far i ≡ Some (far_by_links i rest) → slice_get (joined far l) i ≡ Some (far_by_links i (l ∷ rest))
joined-get far l rest i a b h =
    let ends_b : Far = record { iface = l.a; rate = l.rate; delay = l.delay } in
    let ends_a : Far = record { iface = l.b; rate = l.rate; delay = l.delay } in
    let other : Far = far_by_links i rest in
    ⊎_elim
    (λ e. set_here (set far l.b ends_b) l.a i ends_a (omega (arith, length-set far l.b ends_b)) e ∙ ap (λ t. Some (cond t ends_a (cond (l.b == i) ends_b other))) (sym (is_same l.a i e)))
    (λ e. set_there (set far l.b ends_b) l.a i ends_a e ∙ ⊎_elim
    (λ f. set_here far l.b i ends_b b f ∙ ap (λ t. Some (cond t ends_b other)) (sym (is_same l.b i f)))
    (λ f. set_there far l.b i ends_b f ∙ h ∙ ap (λ t. Some (cond t ends_b other)) (sym (is_other l.b i f)))
    (same_or_not l.b i)
    ∙ ap (λ t. Some (cond t ends_a (cond (l.b == i) ends_b other))) (sym (is_other l.a i e)))
    (same_or_not l.a i)

-- a property of each far end stays
pub All-joined : (n : ℕ) (far : List Far) (l : Link) → l.a < n → l.b < n → All (λ f. f.iface < n) far → All (λ f. f.iface < n) (joined far l)
All-joined n far l a b h = All-set (λ f. f.iface < n) (set far l.b (record { iface = l.a; rate = l.rate; delay = l.delay })) l.a (record { iface = l.b; rate = l.rate; delay = l.delay }) b (All-set (λ f. f.iface < n) far l.b (record { iface = l.a; rate = l.rate; delay = l.delay }) a h)
