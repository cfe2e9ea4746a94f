-- Seats that own words of a board.
use Rattle.std.proofs.Common.{◌≡◌, ℕ, zero, suc, ◌+◌, ◌<◌, Bool, true, false, cond, List, [], ◌∷◌, ◌++◌, append-nil, All, length, map, slice_set, take, refl, sym, ◌∙◌, ap, subst, arith}
use Rattle.std.specs.List.{filter}
use Rattle.std.proofs.lemmas.List.{append_assoc, map-append, take_more_set}
use Rattle.std.proofs.lemmas.List.Elements.{All-cons, All-nil, All-push, All-rest}
use Rattle.nm_shared.specs.declared.board.ClockBoard.{ClockBoard}
use Rattle.nm_shared.specs.declared.board.OwnerSeat.{OwnerSeat}
use Rattle.nm_shared.specs.Board.{AreFirstOwners, Each, IsOwnerOf, SitsAt, owned_word}

-- what holds of each element and its place holds of each
each_all : {A : Type 0} (P : ℕ → A → Type 0) (Q : A → Type 0) → ((k : ℕ) (a : A) → P k a → Q a) → (xs : List A) → Each P xs → All Q xs
each_all P Q to [] each = All-nil Q
each_all P Q to (x ∷ xs) each =
    All-cons Q x xs (to zero x (each zero x refl)) (each_all (λ k a. P (suc k) a) Q (λ k a. to (suc k) a) xs (λ k a at. each (suc k) a at))

-- the first owners of a board own its words
pub first_are_owners : (board : ClockBoard) (os : List OwnerSeat) → AreFirstOwners board os → All (IsOwnerOf board) os
first_are_owners board os first = each_all _ _ (λ k o at. subst (λ (w : ℕ). SitsAt board.words.items w o.place) (sym at.0) at.1) os first

-- the first of a list goes to the end of another
pub moves_one : {A : Type 0} (P : A → Type 0) (own mine rest left : List A) (x : A) → rest ≡ x ∷ left → mine ≡ own ++ x ∷ [] → All P own → All P rest → All P mine
moves_one P own mine rest left x first last all more =
    let head : P x = subst (All P) first more zero x (omega arith) in
    subst (All P) (sym last) (All-push P own x all head)

pub lets_one : {A : Type 0} (P : A → Type 0) (rest left : List A) (x : A) → rest ≡ x ∷ left → All P rest → All P left
lets_one P rest left x first more = All-rest P x left rest first more

-- the next of a list goes to the end of those whose words are chosen
pub chooses_one : (p : ℕ → Bool) (own mine rest left : List OwnerSeat) (x : OwnerSeat) (all : List ℕ) → rest ≡ x ∷ left → mine ≡ own ++ x ∷ [] → p (owned_word x) ≡ true
    → map owned_word own ++ filter p (map owned_word rest) ≡ all → map owned_word mine ++ filter p (map owned_word left) ≡ all
chooses_one p own mine rest left x all first last is before =
    ap (λ l. map owned_word l ++ filter p (map owned_word left)) last
    ∙ ap (λ l. l ++ filter p (map owned_word left)) (map-append owned_word own (x ∷ []))
    ∙ append_assoc (map owned_word own) (owned_word x ∷ []) (filter p (map owned_word left))
    ∙ ap (λ b. map owned_word own ++ cond b (owned_word x ∷ filter p (map owned_word left)) (filter p (map owned_word left))) (sym is)
    ∙ ap (λ l. map owned_word own ++ filter p (map owned_word l)) (sym first) ∙ before

-- or is passed over
pub passes_one : (p : ℕ → Bool) (own rest left : List OwnerSeat) (x : OwnerSeat) (all : List ℕ) → rest ≡ x ∷ left → p (owned_word x) ≡ false
    → map owned_word own ++ filter p (map owned_word rest) ≡ all → map owned_word own ++ filter p (map owned_word left) ≡ all
passes_one p own rest left x all first is before =
    ap (λ b. map owned_word own ++ cond b (owned_word x ∷ filter p (map owned_word left)) (filter p (map owned_word left))) (sym is)
    ∙ ap (λ l. map owned_word own ++ filter p (map owned_word l)) (sym first) ∙ before

-- all were chosen or passed over
pub chose_all : (p : ℕ → Bool) (own rest : List OwnerSeat) (all : List ℕ) → rest ≡ [] → map owned_word own ++ filter p (map owned_word rest) ≡ all → map owned_word own ≡ all
chose_all p own rest all none before = sym (append-nil (map owned_word own)) ∙ ap (λ l. map owned_word own ++ filter p (map owned_word l)) (sym none) ∙ before

-- one seat more is told
pub one_told : (P : OwnerSeat → Type 0) (seats : List OwnerSeat) (n : ℕ) (seat : OwnerSeat) → n < length seats → All P (take n seats) → P seat
    → All P (take (n + 1) (slice_set seats n seat))
one_told P seats n seat low before is = subst (All P) (sym (take_more_set seats n seat low)) (All-push P (take n seats) seat before is)
