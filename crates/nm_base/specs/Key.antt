-- The order of keys.
use Rattle.std.specs.Prelude.{◌≡◌, ℕ, zero, suc, ◌+◌, ◌*◌, ◌<◌, List, [], ◌∷◌}
use Rattle.std.proofs.Common.{refl, sym, ap, ◌∙◌}
use Rattle.std.specs.declared.cmp.Ordering.{Ordering}
use Rattle.std.specs.Ordering.{nat_cmp, on}
use Rattle.std.specs.Cmp.{IsTotalOrder, on_total}
use Rattle.std.specs.Cmp.Lexicographic.{slice_cmp, nat_list_cmp_total}
use Rattle.std.specs.FinMap.{IsAntisymmetric, nat_cmp-IsAntisymmetric, slice_cmp-IsAntisymmetric}
use Rattle.nm_base.specs.declared.key.Place.{Place}
use Rattle.nm_base.specs.declared.key.Place.TheVariants.{Arrive, Complete, Fire}
use Rattle.nm_base.specs.declared.key.Key.{Key}

abbrev pub key_of : ℕ → Place → ℕ → Key
key_of time place number = record { time = time; place = place; number = number }

-- interfaces before sources
abbrev pub class_of : Place → ℕ
class_of (Arrive i) = 0
class_of (Complete i) = 0
class_of (Fire j) = 1

abbrev pub index_of : Place → ℕ
index_of (Arrive i) = i
index_of (Complete i) = i
index_of (Fire j) = j

-- an interface's arrival before its completion
abbrev pub end_of : Place → ℕ
end_of (Arrive i) = 0
end_of (Complete i) = 1
end_of (Fire j) = 0

abbrev pub key_code : Key → List ℕ
key_code k = k.time ∷ class_of k.place ∷ index_of k.place ∷ end_of k.place ∷ k.number ∷ []

-- keys in the lexicographic order of their codes
unfoldable pub key_cmp : Key → Key → Ordering
key_cmp = on key_code (slice_cmp nat_cmp)

pub key_cmp_total : IsTotalOrder key_cmp
unfolding key_cmp
key_cmp_total = on_total key_code nat_list_cmp_total

-- the place of a class, an index and an end
abbrev place_from : ℕ → ℕ → ℕ → Place
place_from zero i zero = Arrive i
place_from zero i (suc e) = Complete i
place_from (suc c) i e = Fire i

place_back : (p : Place) → place_from (class_of p) (index_of p) (end_of p) ≡ p
place_back (Arrive i) = refl
place_back (Complete i) = refl
place_back (Fire j) = refl

-- the key of a code
abbrev key_from : Key → List ℕ → Key
key_from d (t ∷ c ∷ i ∷ e ∷ n ∷ []) = key_of t (place_from c i e) n
key_from d _ = d

key_back : (d k : Key) → key_from d (key_code k) ≡ k
key_back d k = ap (λ p. key_of k.time p k.number) (place_back k.place)

-- keys that their order does not tell apart are the same
pub key_cmp-IsAntisymmetric : IsAntisymmetric key_cmp
unfolding key_cmp
key_cmp-IsAntisymmetric a b e =
    sym (key_back a a) ∙ ap (key_from a)
    (slice_cmp-IsAntisymmetric nat_cmp-IsAntisymmetric (key_code a)
    (key_code b) e) ∙ key_back a b

-- A place as a number, with so many interfaces: 2i, 2i + 1, and then the sources.
abbrev pub place_number : ℕ → Place → ℕ
place_number ifaces (Arrive i) = 2 * i
place_number ifaces (Complete i) = 2 * i + 1
place_number ifaces (Fire j) = 2 * ifaces + j

-- the place names one of so many interfaces, or a source
abbrev pub IsPlaceOf : ℕ → Place → Type 0
IsPlaceOf ifaces (Arrive i) = i < ifaces
IsPlaceOf ifaces (Complete i) = i < ifaces
IsPlaceOf ifaces (Fire j) = Unit {0}

-- (time, place, number)
abbrev pub key_numbers : ℕ → Key → List ℕ
key_numbers ifaces k = k.time ∷ place_number ifaces k.place ∷ k.number ∷ []
