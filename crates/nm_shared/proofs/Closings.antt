-- Seats taken in, one after another from the back.
use Rattle.std.proofs.Common.{Option, Some, None, ◌≡◌, ◌≢◌, ◌⊎◌, ⊎_elim, inl, inr, ℕ, map, get_or-set_same, get_or-set_other, zero, suc, ◌+◌, ◌<◌, ◌≤◌, List, [], ◌∷◌, ◌++◌, length, length-set, set, get_or, refl, sym, ap, ◌∙◌, subst, append_assoc, length-append, arith}
use Rattle.std.specs.Prelude.{slice_index, IfSome}
use Rattle.std.proofs.lemmas.List.{map-append, length-map}
use mathlib.Core.Option.{some, some-ne-none, some-injective}
use mathlib.Core.Logic.{dite}
use native.Mathlib.Decide.{ℕ_discrete}
use lib.ListN.{get_elem?}
use Rattle.atomic_table.proofs.Lists.{at_index, at_map, at_set, at_longer, at_last, set_here, set_else}
use Rattle.nm_shared.specs.declared.word.WordSeat.{WordSeat}
use Rattle.nm_shared.specs.Clock.{owner, AllAre, Fits, joined_view}
use Rattle.nm_shared.specs.declared.word.Word.{Word}
use Rattle.nm_shared.specs.Board.{AreOwners, Each, FitsAt, Sit, SitsAt, id_of, view_of, word_id}
use Rattle.nm_shared.specs.Closing.{FitIf, From, SeatsSit, SitIf}
use Rattle.nm_shared.specs.declared.board.OwnerSeat.{OwnerSeat}
use Rattle.nm_shared.specs.declared.board.Seat.{Seat}
use Rattle.nm_shared.proofs.Clocks.{joined_fits}
use Rattle.nm_shared.proofs.Boards.{sits_here, some_below}

module _ {A : Type 0} (P : ℕ → A → Type 0) where
  pub from_end : (xs : List A) → From P (length xs) xs
  from_end xs w a le at = let h = some_below xs w a at in absurd (omega arith)

  pub from_more : (all : List A) (m n : ℕ) (x : A) → n ≡ m + 1 → get_elem? all m ≡ some x → From P n all → P m x → From P m all
  from_more all m n x is here from px w a le at = dite (ℕ_discrete w m)
      (λ e. let same : x ≡ a = some-injective x a (sym here ∙ ap (λ k. get_elem? all k) (sym e) ∙ at) in subst (λ k. P k a) (sym e) (subst (P m) same px))
      (λ ne. let lt : n ≤ w = omega arith in from w a lt at)

  pub from_start : (all xs : List A) → length xs ≡ 0 → From P (length xs) all → Each P all
  from_start all xs none from w a at = from w a (omega arith) at

module _ {A : Type 0} (all xs : List A) (x : A) (rs : List A) (e : all ≡ (xs ++ x ∷ []) ++ rs) where
  pub popped : get_elem? all (length xs) ≡ some x
  popped = subst (λ (l : List A). get_elem? l (length xs) ≡ some x) (sym e) (at_longer (xs ++ x ∷ []) rs (length xs) x (at_last xs x (length xs) refl))

  pub rest_more : (rs' : List A) × (all ≡ xs ++ rs')
  rest_more = (x ∷ rs, e ∙ append_assoc xs (x ∷ []) rs)

pub snoc_length : {A : Type 0} (xs : List A) (x : A) → length (xs ++ x ∷ []) ≡ length xs + 1
snoc_length xs x = length-append xs (x ∷ [])

-- what the seat that takes the place of o fits, o and the seat r fit
pub fit_taken : (ns : List ℕ) (cs : List (Option WordSeat)) (k : ℕ) (o e : Option WordSeat) (q r : WordSeat) → k < length cs → o ≡ get_or cs k o
    → (Fits (slice_index ns k) (view_of q) → IfSome o (FitsAt ns k) × FitsAt ns k r)
    → FitIf ns (set (set cs k e) k (Some q)) → FitIf ns cs × FitsAt ns k r
fit_taken ns cs k o e q r lt there both fit =
    let here = at_index cs k o lt there in
    let lt' : k < length (set cs k e) = omega (arith, length-set cs k e) in
    let b = both (fit k (Some q) (set_here (set cs k e) k (Some q) lt')) in (
      (λ w c at. dite (ℕ_discrete w k)
          (λ i. let same : o ≡ c = some-injective o c (sym here ∙ ap (λ j. get_elem? cs j) (sym i) ∙ at) in subst (λ j. IfSome c (FitsAt ns j)) (sym i) (subst (λ (x : Option WordSeat). IfSome x (FitsAt ns k)) same b.0))
          (λ ne. fit w c (set_else (set cs k e) k w (Some q) ne ∙ (set_else cs k w e ne ∙ at)))),
      b.1,
    )

pub both_fit : (n : ℕ) (p q r : WordSeat) (c : Option WordSeat) → c ≡ Some p → view_of q ≡ joined_view (view_of p) (view_of r) → Fits n (view_of q) → IfSome c (λ y. Fits n (view_of y)) × Fits n (view_of r)
both_fit n p q r c some_p is h =
    let both = joined_fits n (view_of p) (view_of r) (subst (Fits n) is h) in
    (subst (λ (x : Option WordSeat). IfSome x (λ y. Fits n (view_of y))) (sym some_p) both.0, both.1)

-- a seat that is at a word takes the place of one there, or of none
pub sit_taken : (ws : List Word) (cs : List (Option WordSeat)) (k : ℕ) (e : Option WordSeat) (q : WordSeat) → SitIf ws cs → SitsAt ws k q → SitIf ws (set (set cs k e) k (Some q))
sit_taken ws cs k e q sit here = (
  length-set (set cs k e) k (Some q) ∙ length-set cs k e ∙ sit.0,
  λ w c at. ⊎_elim
      (λ (t : (w ≡ k) × (Some q ≡ c)). subst (λ j. IfSome c (SitsAt ws j)) (sym t.0) (subst (λ (x : Option WordSeat). IfSome x (SitsAt ws k)) t.1 here))
      (λ (t : (w ≢ k) × (get_elem? (set cs k e) w ≡ some c)). ⊎_elim
      (λ (u : (w ≡ k) × (e ≡ c)). absurd (t.0 u.0))
      (λ (u : (w ≢ k) × (get_elem? cs w ≡ some c)). sit.1 w c u.1)
      (at_set cs k w e c t.1))
      (at_set (set cs k e) k w (Some q) c at),
)

-- the seat at a word, if there is one, is of that word
pub sit_here : (ws : List Word) (cs : List (Option WordSeat)) (k : ℕ) (o : Option WordSeat) (w : Word) → SitIf ws cs → k < length cs → o ≡ get_or cs k o → w ≡ get_or ws k w → IfSome o (λ p. id_of p ≡ word_id w)
sit_here ws cs k None w sit lt there here = tt
sit_here ws cs k (Some p) w sit lt there here = sits_here ws k p w (sit.1 k (Some p) (at_index cs k (Some p) lt there)) here

-- a seat at the word of another is where that is
pub sits_same : (ws : List Word) (k : ℕ) (w : Word) (p : WordSeat) → k < length ws → w ≡ get_or ws k w → id_of p ≡ word_id w → SitsAt ws k p
sits_same ws k w p lt here same = at_map word_id ws k w (at_index ws k w lt here) ∙ ap some (sym same)

pub owned_is : (n : ℕ) (xs : List ℕ) → AllAre n xs → length xs ≡ 1 → n ≡ slice_index xs 0
owned_is n [] h one = absurd (omega arith)
owned_is n (x ∷ xs) h one = sym h.0

pub fits_more : (room : List ℕ) (all : List (Option WordSeat)) (k m n : ℕ) (p : Option WordSeat) → m ≡ k + 1 → k < length room → get_elem? all k ≡ some p → From (λ w q. IfSome q (FitsAt room w)) m all → IfSome p (λ q. Fits n (view_of q))
    → From (λ w q. IfSome q (FitsAt (set room k n) w)) k all
fits_more room all k m n p is lt here from fits w q le at = dite (ℕ_discrete w k)
    (λ e. let same : p ≡ q = some-injective p q (sym here ∙ ap (λ j. get_elem? all j) (sym e) ∙ at) in
    let value : slice_index (set room k n) k ≡ n = get_or-set_same room k n 0 lt in
    let P : ℕ → ℕ → Type 0 = λ x j. IfSome q (λ y. Fits x (view_of y)) in
    let here' : IfSome q (λ y. Fits n (view_of y)) = subst (λ x. IfSome x (λ y. Fits n (view_of y))) same fits in
    subst (λ x. IfSome q (λ y. Fits x (view_of y))) (sym (ap (slice_index (set room k n)) e ∙ value)) here')
    (λ ne. let lt' : m ≤ w = omega arith in
    let value : slice_index (set room k n) w ≡ slice_index room w = get_or-set_other room k w n 0 ne in
    subst (λ x. IfSome q (λ y. Fits x (view_of y))) (sym value) (from w q lt' at))

at_end : {A : Type 0} (l : List A) (a b : A) (j : ℕ) → get_elem? (l ++ a ∷ []) j ≡ some b → (get_elem? l j ≡ some b) ⊎ ((j ≡ length l) × (a ≡ b))
at_end [] a b zero e = inr (refl, some-injective a b e)
at_end [] a b (suc j) e = absurd (some-ne-none b (sym e))
at_end (x ∷ xs) a b zero e = inl e
at_end (x ∷ xs) a b (suc j) e = ⊎_elim inl (λ (t : (j ≡ length xs) × (a ≡ b)). inr (ap suc t.0, t.1)) (at_end xs a b j e)

ids_longer : (ws : List Word) (w : Word) → map word_id (ws ++ w ∷ []) ≡ map word_id ws ++ word_id w ∷ []
ids_longer ws w = map-append word_id ws (w ∷ [])

pub sit_more : (ws : List Word) (ps : List WordSeat) (w : Word) (p : WordSeat) → Sit ws ps → id_of p ≡ word_id w → Sit (ws ++ w ∷ []) (ps ++ p ∷ [])
sit_more ws ps w p sit same =
    let l : map id_of (ps ++ p ∷ []) ≡ map id_of ps ++ id_of p ∷ [] = map-append id_of ps (p ∷ []) in
    l ∙ (λ i. sit i ++ same i ∷ []) ∙ sym (ids_longer ws w)

pub owners_more : (ws : List Word) (os : List OwnerSeat) (w : Word) (o : OwnerSeat) → AreOwners ws os → length os ≡ length ws → o.word ≡ length ws → id_of o.place ≡ word_id w → view_of o.place ≡ owner → AreOwners (ws ++ w ∷ []) (os ++ o ∷ [])
owners_more ws os w o are len number same view k x at =
    ⊎_elim
    (λ (t : get_elem? os k ≡ some x). let a = are k x t in (a.0, ap (λ l. get_elem? l k) (ids_longer ws w) ∙ at_longer (map word_id ws) (word_id w ∷ []) k (id_of x.place) a.1, a.2))
    (λ (t : (k ≡ length os) × (o ≡ x)).
    let end : k ≡ length ws = t.0 ∙ len in
    let ids : length (map word_id ws) ≡ k = length-map ws word_id ∙ sym end in
    let here : SitsAt (ws ++ w ∷ []) k o.place = ap (λ l. get_elem? l k) (ids_longer ws w) ∙ at_last (map word_id ws) (word_id w) k ids ∙ ap some (sym same) in
    subst (λ (y : OwnerSeat). (y.word ≡ k) × SitsAt (ws ++ w ∷ []) k y.place × (view_of y.place ≡ owner)) t.1 (number ∙ sym end, here, view))
    (at_end os o x k at)

pub seats_more : (ws : List Word) (ss : List Seat) (s : Seat) → SeatsSit ws ss → Sit ws s.places.items → SeatsSit ws (ss ++ s ∷ [])
seats_more ws ss s all one k x at = ⊎_elim (λ (t : get_elem? ss k ≡ some x). all k x t) (λ (t : (k ≡ length ss) × (s ≡ x)). subst (λ (y : Seat). Sit ws y.places.items) t.1 one) (at_end ss s x k at)

module _ {A : Type 0} (P : ℕ → A → Type 0) (all xs : List A) (x : A) (e : all ≡ xs ++ x ∷ []) where
  pub each_back : Each P all → P (length xs) x
  each_back each = each (length xs) x (ap (λ (l : List A). get_elem? l (length xs)) e ∙ at_last xs x (length xs) refl)

  pub each_front : Each P all → Each P xs
  each_front each w a at = each w a (ap (λ (l : List A). get_elem? l w) e ∙ at_longer xs (x ∷ []) w a at)

  pub each_snoc : Each P xs → P (length xs) x → Each P all
  each_snoc each last w a at =
      ⊎_elim (λ (t : get_elem? xs w ≡ some a). each w a t) (λ (t : (w ≡ length xs) × (x ≡ a)). subst (λ (y : A). P w y) t.1 (subst (λ k. P k x) (sym t.0) last))
      (at_end xs x a w (ap (λ (l : List A). get_elem? l w) (sym e) ∙ at))

-- a word without a seat yet
pub none_more : (ws : List Word) (cs : List (Option WordSeat)) → Each (λ k c. IfSome c (SitsAt ws k)) cs → Each (λ k c. IfSome c (SitsAt ws k)) (cs ++ None ∷ [])
none_more ws cs each = each_snoc (λ k c. IfSome c (SitsAt ws k)) (cs ++ None ∷ []) cs None refl each tt

pub none_each : (ws : List Word) → Each (λ k c. IfSome c (SitsAt ws k)) []
none_each ws w a at = absurd (some-ne-none a (sym at))

sits_front : (ws : List Word) (w : Word) (k : ℕ) (p : WordSeat) → k < length ws → SitsAt (ws ++ w ∷ []) k p → SitsAt ws k p
sits_front ws w k p lt at = front (map word_id ws) (word_id w) k (id_of p) (omega (arith, length-map ws word_id)) (ap (λ l. get_elem? l k) (sym (ids_longer ws w)) ∙ at)
  where
    front : {A : Type 0} (l : List A) (b : A) (k : ℕ) (a : A) → k < length l → get_elem? (l ++ b ∷ []) k ≡ some a → get_elem? l k ≡ some a
    front [] b k a lt at = absurd (omega arith)
    front (x ∷ l) b zero a lt at = at
    front (x ∷ l) b (suc k) a lt at = front l b k a (omega arith) at

-- without the last word
pub sit_if_front : (ws vs : List Word) (w : Word) (cs ds : List (Option WordSeat)) (c : Option WordSeat) → vs ≡ ws ++ w ∷ [] → ds ≡ cs ++ c ∷ [] → SitIf vs ds → SitIf ws cs
sit_if_front ws vs w cs ds c ev ed sit =
    let l = ap length ed ∙ snoc_length cs c in
    let m = ap length ev ∙ snoc_length ws w in
    let len : length cs ≡ length ws = omega (arith, sit.0) in (
      len,
      λ k x at.
          let lt = some_below cs k x at in
          front k x (omega arith) (sit.1 k x (ap (λ e. get_elem? e k) ed ∙ at_longer cs (c ∷ []) k x at)),
    )
  where
    front : (k : ℕ) (x : Option WordSeat) → k < length ws → IfSome x (SitsAt vs k) → IfSome x (SitsAt ws k)
    front k None lt h = tt
    front k (Some p) lt h = sits_front ws w k p lt (subst (λ l. SitsAt l k p) ev h)

-- the last word's
pub sit_if_last : (ws vs : List Word) (w : Word) (cs ds : List (Option WordSeat)) (c : Option WordSeat) → vs ≡ ws ++ w ∷ [] → ds ≡ cs ++ c ∷ [] → SitIf vs ds → IfSome c (λ p. id_of p ≡ word_id w)
sit_if_last ws vs w cs ds c ev ed sit =
    let l = ap length ed ∙ snoc_length cs c in
    let m = ap length ev ∙ snoc_length ws w in
    let len : length ws ≡ length cs = omega (arith, sit.0) in
    last c (sit.1 (length cs) c (ap (λ e. get_elem? e (length cs)) ed ∙ at_last cs c (length cs) refl)) len
  where
    last : (c : Option WordSeat) → IfSome c (SitsAt vs (length cs)) → length ws ≡ length cs → IfSome c (λ p. id_of p ≡ word_id w)
    last None h len = tt
    last (Some p) h len = some-injective _ _ (sym h ∙ ap (λ l. get_elem? (map word_id l) (length cs)) ev ∙ ap (λ l. get_elem? l (length cs)) (ids_longer ws w) ∙ at_last (map word_id ws) (word_id w) (length cs) (length-map ws word_id ∙ len))
