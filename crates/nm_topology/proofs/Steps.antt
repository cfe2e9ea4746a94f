-- Readings that succeed: what each of their steps gave.
use Rattle.std.proofs.Common.{◌≡◌, All, ℕ, pos, negsuc, suc, ◌≤◌, Bool, true, false, List, [], ◌∷◌}
use Rattle.std.proofs.Common.{length, Option, Some, None, Result, Ok, Err, refl, sym, ap, ◌∙◌}
use Rattle.std.proofs.Common.{subst, arith}
use Rattle.std.specs.Prelude.{nat_le, if◌then◌else◌}
use Rattle.std.proofs.lemmas.Bool.Decides.{nat_tests}
use Rattle.std.proofs.lemmas.List.Elements.{All-nil, All-cons}
use Rattle.toml.specs.Data.{Data, integer, array, table, Items, no_items, item, Members}
use Rattle.nm_topology.specs.declared.fault.Refusal.{Refusal}
use Rattle.nm_topology.specs.declared.fault.Refusal.TheVariants.{Kind, TooMany}
use Rattle.nm_topology.specs.Fault.{◌>>=◌}
use Rattle.nm_topology.specs.Parse.Fields.{required, optional, number_in}
use Rattle.nm_topology.specs.Parse.Arrays.{count, all_fit, each, array_of, in_table}

-- a step, and what follows it
pub step : {A B : Type 0} (r : Result A Refusal) (f : A → Result B Refusal) (y : B) → (r >>= f) ≡ Ok y → (x : A) × (r ≡ Ok x) × (f x ≡ Ok y)
step (Ok x) f y e = (x, refl, e)
step (Err r) f y e = cc

pub number-within : (least greatest n : ℕ) (d : Data) → number_in least greatest d ≡ Ok n → (least ≤ n) × (n ≤ greatest)
number-within least greatest n (integer (pos k)) e = grind (arith, nat_tests, e)
number-within least greatest n (integer (negsuc k)) e = cc
number-within least greatest n _ e = cc

pub required-within : (least greatest n : ℕ) (o : Option Data) → required (number_in least greatest) o ≡ Ok n → (least ≤ n) × (n ≤ greatest)
required-within least greatest n None e = cc
required-within least greatest n (Some d) e = number-within least greatest n d e

pub optional-within : (absent least greatest n : ℕ) (o : Option Data) → least ≤ absent → absent ≤ greatest → optional absent (number_in least greatest) o ≡ Ok n → (least ≤ n) × (n ≤ greatest)
optional-within absent least greatest n None h k e = let same : absent ≡ n = cc in (omega arith, omega arith)
optional-within absent least greatest n (Some d) h k e = number-within least greatest n d e

pub required-holds : {X : Type 0} (P : X → Type 0) (read : Data → Result X Refusal) (o : Option Data) (x : X) → ((d : Data) → read d ≡ Ok x → P x) → required read o ≡ Ok x → P x
required-holds P read None x h e = cc
required-holds P read (Some d) x h e = h d e

-- tests that were both passed
pub both_passed : {X : Type 0} (b c : Bool) (r : Result X Refusal) (p q : Refusal) (x : X) → (if b then (if c then r else Err p) else Err q) ≡ Ok x → (c ≡ true) × (r ≡ Ok x)
both_passed true true r p q x e = (refl, e)
both_passed true false r p q x e = cc
both_passed false c r p q x e = cc

-- what each member is read to has a property, and there are as many
module _ {X : Type 0} (P : X → Type 0) (fits : Data → Bool) (limit : ℕ) (read : Data → Result X Refusal)
    (holds : (d : Data) (x : X) → read d ≡ Ok x → P x) where
  pub each-holds : (ds : Items) (xs : List X) → each read ds ≡ Ok xs → All P xs × (length xs ≡ count ds)
  each-holds no_items xs e =
      let none : [] ≡ xs = cc in
      (subst (λ ys. All P ys) none (All-nil P), ap length (sym none))
  each-holds (item d ds) xs e =
      let a = step (read d) (λ x. each read ds >>= λ ys. Ok (x ∷ ys)) xs e in
      let b = step (each read ds) (λ ys. Ok (a.0 ∷ ys)) xs a.2 in
      let rest = each-holds ds b.0 b.1 in
      let whole : a.0 ∷ b.0 ≡ xs = cc (b.2) in
      (subst (λ ys. All P ys) whole (All-cons P a.0 b.0 (holds d a.0 a.1) rest.0), sym (ap length whole) ∙ ap suc rest.1)

  pub array-holds : (d : Data) (xs : List X) → array_of fits limit read d ≡ Ok xs → All P xs × (length xs ≤ limit)
  array-holds (array ds) xs e =
      let passed = both_passed (all_fit fits ds) (nat_le (count ds) limit) (each read ds) TooMany Kind xs e in
      let all = each-holds ds xs passed.1 in
      let few : count ds ≤ limit = grind (arith, nat_tests, passed.0) in
      (all.0, omega (arith, all.1, few))
  array-holds _ xs e = cc

  pub optional-holds : (o : Option Data) (xs : List X) → optional [] (array_of fits limit read) o ≡ Ok xs → All P xs × (length xs ≤ limit)
  optional-holds None xs e =
      let none : [] ≡ xs = cc in
      (subst (λ ys. All P ys) none (All-nil P), omega (arith, ap length none))
  optional-holds (Some d) xs e = array-holds d xs e

pub in_table-holds : {X : Type 0} (P : X → Type 0) (read : Members → Result X Refusal) → ((t : Members) (x : X) → read t ≡ Ok x → P x) → (d : Data) (x : X) → in_table read d ≡ Ok x → P x
in_table-holds P read holds (table t) x e = holds t x e
in_table-holds P read holds _ x e = cc
