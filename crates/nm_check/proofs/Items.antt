-- Values and their data, item by item.
use Rattle.std.proofs.Common.{◌≡◌, ℕ, zero, suc, ◌<◌, ◌≤◌, List, [], ◌∷◌, length, get_or, Some, None, refl, ap, arith}
use Rattle.toml.specs.Data.{get_item}
use Rattle.toml.specs.View.{items_view, view}
use Rattle.toml.specs.declared.value.Value.{Value}
use Rattle.nm_topology.specs.Parse.Arrays.{count}

pub count_view : (vs : List Value) → count (items_view vs) ≡ length vs
count_view [] = refl
count_view (v ∷ vs) = ap suc (count_view vs)

pub get_item-view : (vs : List Value) (n : ℕ) (v : Value) → n < length vs → get_item n (items_view vs) ≡ Some (view (get_or vs n v))
get_item-view [] n v h = absurd (let no : ⊥ = omega arith in no)
get_item-view (w ∷ vs) zero v h = refl
get_item-view (w ∷ vs) (suc n) v h = get_item-view vs n v (omega arith)

pub get_item-past : (vs : List Value) (n : ℕ) → length vs ≤ n → get_item n (items_view vs) ≡ None
get_item-past [] n h = refl
get_item-past (w ∷ vs) zero h = absurd (let no : ⊥ = omega arith in no)
get_item-past (w ∷ vs) (suc n) h = get_item-past vs n (omega arith)
