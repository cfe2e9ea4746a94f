-- Listeners of which no two are of one replica.
use Rattle.std.proofs.Common.{◌≡◌, Bool, ◌||◌, true, false, List, [], ◌∷◌, ◌++◌, refl, arith}
use Rattle.std.specs.List.{AllByRecursion, IsDistinct, list_any}
use Rattle.std.proofs.lemmas.Map.Keys.{IsDistinct-cons, IsDistinct-from_apart, IsDistinct-head, IsDistinct-tail}
use Rattle.nm_peers.specs.declared.listener.Listener.{Listener}
use Rattle.nm_peers.specs.Listeners.{is_listener_of, is_same}

neither : (a b : Bool) → (a || b) ≡ false → (a ≡ false) × (b ≡ false)
neither true b h = absurd (cc)
neither false b h = (refl, h)

not_one : (a b : Bool) → a ≡ false → b ≡ false → (a || b) ≡ false
not_one true b p q = absurd (cc)
not_one false b p q = q

all_more : (P : Listener → Type 0) (xs : List Listener) (y : Listener) → AllByRecursion P xs → P y → AllByRecursion P (xs ++ y ∷ [])
all_more P [] y h one = (one, tt)
all_more P (x ∷ xs) y h one = (h.0, all_more P xs y h.1 one)

all_at : (P : Listener → Type 0) (xs : List Listener) (y : Listener) (ys : List Listener) → AllByRecursion P (xs ++ y ∷ ys) → P y
all_at P [] y ys h = h.0
all_at P (x ∷ xs) y ys h = all_at P xs y ys h.1

pub apart_none : IsDistinct is_same []
apart_none = IsDistinct-from_apart is_same [] (λ i j d h k. absurd (omega arith))

pub apart_more : (xs : List Listener) (y : Listener) → IsDistinct is_same xs → list_any (is_listener_of y.partition y.replica) xs ≡ false → IsDistinct is_same (xs ++ y ∷ [])
apart_more [] y h none = IsDistinct-cons is_same y [] tt apart_none
apart_more (x ∷ xs) y h none =
    let free = neither (is_same x y) (list_any (is_listener_of y.partition y.replica) xs) none in
    IsDistinct-cons is_same x (xs ++ y ∷ []) (all_more (λ z. is_same x z ≡ false) xs y (IsDistinct-head is_same x xs h) free.0)
    (apart_more xs y (IsDistinct-tail is_same x xs h) free.1)

pub apart_before : (xs : List Listener) (y : Listener) (ys : List Listener) → IsDistinct is_same (xs ++ y ∷ ys) → list_any (is_listener_of y.partition y.replica) xs ≡ false
apart_before [] y ys h = refl
apart_before (x ∷ xs) y ys h =
    not_one (is_same x y) (list_any (is_listener_of y.partition y.replica) xs) (all_at (λ z. is_same x z ≡ false) xs y ys (IsDistinct-head is_same x (xs ++ y ∷ ys) h))
    (apart_before xs y ys (IsDistinct-tail is_same x (xs ++ y ∷ ys) h))
