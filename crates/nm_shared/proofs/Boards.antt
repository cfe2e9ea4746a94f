-- Seats and words as lists: what stays the same, and what fits.
use Rattle.std.proofs.Common.{◌≡◌, ◌≢◌, ℕ, zero, suc, ◌+◌, ◌<◌, List, [], ◌∷◌, ◌++◌, length, map, take, set, get_or, refl, sym, ap, ◌∙◌, arith}
use Rattle.std.specs.Prelude.{slice_index, max}
use Rattle.std.proofs.lemmas.List.{map-set, length-map, map-append, take_more}
use Rattle.std.proofs.Math.Seq.{map-set_same}
use mathlib.Core.Option.{some, some-ne-none, some-injective}
use lib.ListN.{get_elem?}
use Rattle.atomic_table.specs.Seated.{TableId}
use Rattle.atomic_table.proofs.Lists.{at_index, at_map, set_here}
use Rattle.nm_shared.specs.declared.word.View.{View}
use Rattle.nm_shared.specs.declared.word.WordSeat.{WordSeat}
use Rattle.nm_shared.specs.declared.word.Word.{Word}
use Rattle.nm_shared.specs.Clock.{Fits, all_max, raised_view, looked}
use Rattle.nm_shared.specs.Board.{FindsAt, word_id, id_of, view_of, Sit, SitsAt}

pub sit_length : (ws : List Word) (ps : List WordSeat) → Sit ws ps → length ps ≡ length ws
sit_length ws ps sit = sym (length-map ps id_of) ∙ ap length sit ∙ length-map ws word_id

pub same_id : (ws : List Word) (ps : List WordSeat) (k : ℕ) (w : Word) (p : WordSeat) → Sit ws ps → k < length ws → w ≡ get_or ws k w → p ≡ get_or ps k p → id_of p ≡ word_id w
same_id ws ps k w p sit lt here there =
    let len = sit_length ws ps sit in
    let lt' : k < length ps = omega arith in
    some-injective _ _ (sym (at_map id_of ps k p (at_index ps k p lt' there)) ∙ ap (λ (l : List TableId). get_elem? l k) sit ∙ at_map word_id ws k w (at_index ws k w lt here))

pub sit_set : (ws : List Word) (ps : List WordSeat) (k : ℕ) (p q : WordSeat) → Sit ws ps → p ≡ get_or ps k p → id_of q ≡ id_of p → Sit ws (set ps k q)
sit_set ws ps k p q sit there same = map-set_same id_of ps k q p (same ∙ ap id_of there) ∙ sit

pub some_below : {A : Type 0} (l : List A) (i : ℕ) (a : A) → get_elem? l i ≡ some a → i < length l
some_below [] i a e = absurd (some-ne-none a (sym e))
some_below (x ∷ xs) zero a e = omega arith
some_below (x ∷ xs) (suc i) a e = let h = some_below xs i a e in omega arith

pub sits_below : (ws : List Word) (k : ℕ) (p : WordSeat) → SitsAt ws k p → k < length ws
sits_below ws k p at = let h = some_below (map word_id ws) k (id_of p) at in omega (arith, length-map ws word_id)

pub sits_here : (ws : List Word) (k : ℕ) (p : WordSeat) (w : Word) → SitsAt ws k p → w ≡ get_or ws k w → id_of p ≡ word_id w
sits_here ws k p w at here = some-injective _ _ (sym at ∙ at_map word_id ws k w (at_index ws k w (sits_below ws k p at) here))

length-all_max : (k : ℕ) (xs : List ℕ) → length (all_max k xs) ≡ length xs
length-all_max k [] = refl
length-all_max k (x ∷ xs) = ap suc (length-all_max k xs)

pub still_one : (k : ℕ) (v w : View) → w ≡ raised_view k v → length v.owned ≡ 1 → length w.owned ≡ 1
still_one k v w e one = ap (λ (y : View). length y.owned) e ∙ length-all_max k v.owned ∙ one

pub raises_clock : (k : ℕ) (v w : View) → w ≡ raised_view k v → length v.owned ≡ 1 → slice_index w.owned 0 ≡ max (slice_index v.owned 0) k
raises_clock k v w e one = ap (λ (y : View). slice_index y.owned 0) e ∙ first v.owned one
  where
    first : (xs : List ℕ) → length xs ≡ 1 → slice_index (all_max k xs) 0 ≡ max (slice_index xs 0) k
    first [] h = absurd (omega arith)
    first (x ∷ xs) h = refl

pub owns_some : (xs : List ℕ) → length xs ≡ 1 → xs ≢ []
owns_some xs one e = let h : length xs ≡ 0 = ap length e in omega arith

pub finds_at : (ps : List WordSeat) (k : ℕ) (p q : WordSeat) (n : ℕ) → k < length ps → p ≡ get_or ps k p → view_of q ≡ looked n (view_of p) → Fits n (view_of p) → FindsAt ps k n (set ps k q)
finds_at ps k p q n lt there is fits =
    (view_of p, at_map view_of ps k p (at_index ps k p lt there), map-set view_of ps k q ∙ ap (λ (v : View). set (map view_of ps) k v) is, fits)

get_or_some : {A : Type 0} (l : List A) (i : ℕ) (a d : A) → get_elem? l i ≡ some a → get_or l i d ≡ a
get_or_some [] i a d e = absurd (some-ne-none a (sym e))
get_or_some (x ∷ xs) zero a d e = some-injective x a e
get_or_some (x ∷ xs) (suc i) a d e = get_or_some xs i a d e

pub seat_more : (ws : List Word) (ps : List WordSeat) (k : ℕ) (w : Word) (p : WordSeat) → map id_of ps ≡ take k (map word_id ws) → k < length ws → w ≡ get_or ws k w → id_of p ≡ word_id w → map id_of (ps ++ p ∷ []) ≡ take (k + 1) (map word_id ws)
seat_more ws ps k w p so lt here same =
    let at : get_or (map word_id ws) k (word_id w) ≡ word_id w = get_or_some (map word_id ws) k (word_id w) (word_id w) (at_map word_id ws k w (at_index ws k w lt here)) in
    let len = length-map ws word_id in
    let more : take (k + 1) (map word_id ws) ≡ take k (map word_id ws) ++ get_or (map word_id ws) k (word_id w) ∷ [] = take_more (map word_id ws) k (word_id w) (omega arith) in
    let left : map id_of (ps ++ p ∷ []) ≡ map id_of ps ++ id_of p ∷ [] = map-append id_of ps (p ∷ []) in
    left ∙ (λ i. so i ++ (same ∙ sym at) i ∷ []) ∙ sym more

-- the k-th of seats that sit
pub sits_of : (ws : List Word) (ps : List WordSeat) (k j : ℕ) (p : WordSeat) → Sit ws ps → k ≡ j → get_elem? ps j ≡ some p → SitsAt ws k p
sits_of ws ps k j p sit e at = ap (λ (l : List TableId). get_elem? l k) (sym sit) ∙ ap (λ i. get_elem? (map id_of ps) i) e ∙ at_map id_of ps j p at

at_set_map : (vs us : List View) (k : ℕ) (v w : View) → us ≡ set vs k w → get_elem? vs k ≡ some v → get_elem? us k ≡ some w
at_set_map vs us k v w e at = ap (λ (l : List View). get_elem? l k) e ∙ set_here vs k w (some_below vs k v at)
