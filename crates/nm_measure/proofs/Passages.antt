-- Hops are in the order of time.
use Rattle.std.proofs.Common.{◌≡◌, ℕ, zero, suc, ◌≤◌, Bool, true, false, cond, List, [], ◌∷◌, map, Some, refl, sym, ap, ◌∙◌, arith}
use Rattle.nm_model.proofs.ListLemmas.{not_some, some_inj}
use Rattle.nm_model.specs.Lists.{keep_where, nth}
use Rattle.nm_model.specs.TraceLaws.{RecordsInOrder}
use Rattle.nm_base.specs.declared.record.Record.{Record}
use Rattle.nm_topology.specs.TopologyValue.{TopologyValue}
use Rattle.nm_measure.specs.declared.courses.Hop.{Hop}
use Rattle.nm_measure.specs.declared.tag.Tag.{Tag}
use Rattle.nm_measure.specs.Courses.{hops_in, is_packet, pass_of, passes_in}
use Rattle.nm_measure.specs.Ways.{tagged_list, tagged_net}

-- a number of each member does not fall
abbrev Climbs : {X : Type 0} → (X → ℕ) → List X → Type 0
Climbs {X} f xs = (a b : ℕ) (x y : X) → a ≤ b → nth xs a ≡ Some x → nth xs b ≡ Some y → f x ≤ f y

nth_mapped : {X Y : Type 0} (g : X → Y) (xs : List X) (n : ℕ) (y : Y) → nth (map g xs) n ≡ Some y → (x : X) × (nth xs n ≡ Some x) × (g x ≡ y)
nth_mapped g [] n y at = absurd (not_some y at)
nth_mapped g (x ∷ xs) zero y at = (x, refl, some_inj (g x) y at)
nth_mapped g (x ∷ xs) (suc n) y at = nth_mapped g xs n y at

climbs_mapped : {X Y : Type 0} (f : X → ℕ) (e : Y → ℕ) (g : X → Y) → ((x : X) → e (g x) ≡ f x) → (xs : List X) → Climbs f xs → Climbs e (map g xs)
climbs_mapped f e g same xs climbs a b y z le one two =
    let u = nth_mapped g xs a y one in
    let v = nth_mapped g xs b z two in
    let up = climbs a b u.0 v.0 le u.1 v.1 in
    let p = ap e (sym u.2) ∙ same u.0 in
    let q = ap e (sym v.2) ∙ same v.0 in
    omega (arith, up, p, q)

-- what is kept was there
kept_there : {X : Type 0} (p : X → Bool) (xs : List X) (n : ℕ) (y : X) → nth (keep_where p xs) n ≡ Some y → (m : ℕ) × (nth xs m ≡ Some y)
kept_there p [] n y at = absurd (not_some y at)
kept_there {X} p (x ∷ xs) n y at = go (p x) n (kept_there p xs) at
  where
    go : (b : Bool) (n : ℕ) → ((n : ℕ) (y : X) → nth (keep_where p xs) n ≡ Some y → (m : ℕ) × (nth xs m ≡ Some y)) → nth (cond b (x ∷ keep_where p xs) (keep_where p xs)) n ≡ Some y → (m : ℕ) × (nth (x ∷ xs) m ≡ Some y)
    go true zero rest at = (0, at)
    go true (suc n) rest at = let z = rest n y at in (suc z.0, z.1)
    go false n rest at = let z = rest n y at in (suc z.0, z.1)

climbs_kept : {X : Type 0} (f : X → ℕ) (p : X → Bool) (xs : List X) → Climbs f xs → Climbs f (keep_where p xs)
climbs_kept f p [] climbs = climbs
climbs_kept {X} f p (x ∷ xs) climbs = go (p x) (climbs_kept f p xs (λ a b y z le one two. climbs (suc a) (suc b) y z (omega (arith, le)) one two))
  where
    go : (b : Bool) → Climbs f (keep_where p xs) → Climbs f (cond b (x ∷ keep_where p xs) (keep_where p xs))
    go false rest a b y z le one two = rest a b y z le one two
    go true rest zero zero y z le one two = let e = ap f (sym (some_inj x y one) ∙ some_inj x z two) in omega (arith, e)
    go true rest zero (suc b) y z le one two =
        let m = kept_there p xs b z two in
        climbs 0 (suc m.0) y z (omega arith) one m.1
    go true rest (suc a) zero y z le one two = absurd (omega (arith, le))
    go true rest (suc a) (suc b) y z le one two = rest a b y z (omega (arith, le)) one two

pub time_passes : (t : TopologyValue) → RecordsInOrder (tagged_net t) → (j k n a b : ℕ) (g h : Hop) → a ≤ b → nth (hops_in j k (passes_in t n)) a ≡ Some g → nth (hops_in j k (passes_in t n)) b ≡ Some h → g.time ≤ h.time
time_passes t order j k n =
    climbs_mapped (λ (p : Tag × Hop). p.1.time) (λ (h : Hop). h.time) (λ (p : Tag × Hop). p.1) (λ p. refl) (keep_where (λ (p : Tag × Hop). is_packet j k p.0) (passes_in t n))
    (climbs_kept (λ (p : Tag × Hop). p.1.time) (λ (p : Tag × Hop). is_packet j k p.0) (passes_in t n)
    (climbs_mapped (λ (r : Record (Tag × List ℕ)). r.time) (λ (p : Tag × Hop). p.1.time) pass_of (λ r. refl) (tagged_list t n).records (λ a b x y. order.whole n a b x y)))
