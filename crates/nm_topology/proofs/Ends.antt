-- Interfaces that are one end of one link.
use Rattle.std.proofs.Common.{◌≡◌, ℕ, ◌+◌, ◌≤◌, ◌==◌, cond, List, [], ◌∷◌, refl, sym, ap, ◌∙◌}
use Rattle.std.proofs.Common.{subst, arith, ⊎_elim}
use Rattle.nm_topology.specs.declared.parts.Far.{Far}
use Rattle.nm_topology.specs.declared.parts.Link.{Link}
use Rattle.nm_topology.specs.Build.{far_by_links}
use Rattle.nm_topology.specs.Validate.{uses}
use Rattle.nm_topology.proofs.Uses.{same_or_not, one_here, one_there}
use Rattle.nm_topology.proofs.Wires.{is_same, is_other}

abbrev toward : Link → ℕ → Far
toward l p = record { iface = p; rate = l.rate; delay = l.delay }

module _ (l : Link) (ls : List Link) (i : ℕ) where
  pub far-a : l.a ≡ i → far_by_links i (l ∷ ls) ≡ toward l l.b
  far-a e = ap (λ t. cond t (toward l l.b) (cond (l.b == i) (toward l l.a) (far_by_links i ls))) (is_same l.a i e)

  pub far-b : (l.a ≡ i → ⊥) → l.b ≡ i → far_by_links i (l ∷ ls) ≡ toward l l.a
  far-b e f =
      ap (λ t. cond t (toward l l.b) (cond (l.b == i) (toward l l.a) (far_by_links i ls))) (is_other l.a i e)
      ∙ ap (λ t. cond t (toward l l.a) (far_by_links i ls)) (is_same l.b i f)

  pub far-on : (l.a ≡ i → ⊥) → (l.b ≡ i → ⊥) → far_by_links i (l ∷ ls) ≡ far_by_links i ls
  far-on e f =
      ap (λ t. cond t (toward l l.b) (cond (l.b == i) (toward l l.a) (far_by_links i ls))) (is_other l.a i e)
      ∙ ap (λ t. cond t (toward l l.a) (far_by_links i ls)) (is_other l.b i f)

  uses-a : l.a ≡ i → 1 ≤ uses i (l ∷ ls)
  uses-a e = omega (arith, one_here l.a i e)

  uses-b : l.b ≡ i → 1 ≤ uses i (l ∷ ls)
  uses-b e = omega (arith, one_here l.b i e)

  uses-a-on : l.a ≡ i → 1 + uses i ls ≤ uses i (l ∷ ls)
  uses-a-on e = omega (arith, one_here l.a i e)

  uses-b-on : l.b ≡ i → 1 + uses i ls ≤ uses i (l ∷ ls)
  uses-b-on e = omega (arith, one_here l.b i e)

  uses-both : l.a ≡ i → l.b ≡ i → 2 ≤ uses i (l ∷ ls)
  uses-both e f = omega (arith, one_here l.a i e, one_here l.b i f)

  pub uses-on : (l.a ≡ i → ⊥) → (l.b ≡ i → ⊥) → uses i (l ∷ ls) ≡ uses i ls
  uses-on e f = omega (arith, one_there l.a i e, one_there l.b i f)

-- what an end is linked to is an end
pub mate : (ls : List Link) (i : ℕ) → 1 ≤ uses i ls → 1 ≤ uses (far_by_links i ls).iface ls
mate [] i h = absurd (omega arith)
mate (l ∷ ls) i h =
    let P : Far → Type 0 = λ f. 1 ≤ uses f.iface (l ∷ ls) in
    ⊎_elim
    (λ e. subst P (sym (far-a l ls i e)) (uses-b l ls l.b refl))
    (λ e. ⊎_elim
    (λ f. subst P (sym (far-b l ls i e f)) (uses-a l ls l.a refl))
    (λ f. subst P (sym (far-on l ls i e f)) (grown l ls (far_by_links i ls).iface (mate ls i (subst (λ n. 1 ≤ n) (uses-on l ls i e f) h))))
    (same_or_not l.b i))
    (same_or_not l.a i)
  where
    grown : (l : Link) (ls : List Link) (p : ℕ) → 1 ≤ uses p ls → 1 ≤ uses p (l ∷ ls)
    grown l ls p h = omega arith

-- the one end of one link is not linked to itself
pub apart : (ls : List Link) (i : ℕ) → uses i ls ≡ 1 → (far_by_links i ls).iface ≡ i → ⊥
apart [] i h = absurd (omega arith)
apart (l ∷ ls) i h =
    let P : Far → Type 0 = λ f. f.iface ≡ i → ⊥ in
    ⊎_elim
    (λ e. subst P (sym (far-a l ls i e)) (λ f. omega (arith, uses-both l ls i e f)))
    (λ e. ⊎_elim
    (λ f. subst P (sym (far-b l ls i e f)) e)
    (λ f. subst P (sym (far-on l ls i e f)) (apart ls i (sym (uses-on l ls i e f) ∙ h)))
    (same_or_not l.b i))
    (same_or_not l.a i)

-- ends of one link each are each other's, over the same link
pub back : (ls : List Link) (i : ℕ) → uses i ls ≡ 1 → uses (far_by_links i ls).iface ls ≡ 1 → far_by_links (far_by_links i ls).iface ls ≡ record { iface = i; rate = (far_by_links i ls).rate; delay = (far_by_links i ls).delay }
back [] i h = absurd (omega arith)
back (l ∷ ls) i h =
    let P : Far → Type 0 = λ f. uses f.iface (l ∷ ls) ≡ 1 → far_by_links f.iface (l ∷ ls) ≡ record { iface = i; rate = f.rate; delay = f.delay } in
    ⊎_elim
    (λ e. subst P (sym (far-a l ls i e)) (λ g.
    far-b l ls l.b (λ f. omega (arith, uses-both l ls l.b f refl)) refl ∙ ap (toward l) e))
    (λ e. ⊎_elim
    (λ f. subst P (sym (far-b l ls i e f)) (λ g. far-a l ls l.a refl ∙ ap (toward l) f))
    (λ f. subst P (sym (far-on l ls i e f)) (λ g.
    let p = (far_by_links i ls).iface in
    let one : uses i ls ≡ 1 = sym (uses-on l ls i e f) ∙ h in
    let some : 1 ≤ uses p ls = mate ls i (omega (arith, one)) in
    let no_a : l.a ≡ p → ⊥ = λ a. omega (arith, uses-a-on l ls p a) in
    let no_b : l.b ≡ p → ⊥ = λ b. omega (arith, uses-b-on l ls p b) in
    far-on l ls p no_a no_b ∙ back ls i one (sym (uses-on l ls p no_a no_b) ∙ g)))
    (same_or_not l.b i))
    (same_or_not l.a i)
