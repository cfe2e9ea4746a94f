-- The seats that came back to a board.
use Rattle.std.specs.Prelude.{◌≡◌, ℕ, ◌≤◌, List, length, Option, IfSome}
use mathlib.Core.Option.{some}
use lib.ListN.{get_elem?}
use Rattle.nm_shared.specs.declared.board.OwnerSeat.{OwnerSeat}
use Rattle.nm_shared.specs.declared.board.Seat.{Seat}
use Rattle.nm_shared.specs.declared.word.WordSeat.{WordSeat}
use Rattle.nm_shared.specs.declared.word.Word.{Word}
use Rattle.nm_shared.specs.Board.{Each, FitsAt, Sit, SitsAt}

-- P holds of each element and its place, from the m-th on
abbrev pub From : {A : Type 0} → (ℕ → A → Type 0) → ℕ → List A → Type 0
From {A} P m xs = (w : ℕ) (a : A) → m ≤ w → get_elem? xs w ≡ some a → P w a

-- a seat at each word, or none, in order
abbrev pub SitIf : List Word → List (Option WordSeat) → Type 0
SitIf ws cs = (length cs ≡ length ws) × Each (λ k c. IfSome c (SitsAt ws k)) cs

-- each word is the value that the seat there owns, if one does, and that seat found no more
abbrev pub FitIf : List ℕ → List (Option WordSeat) → Type 0
FitIf ns cs = Each (λ k c. IfSome c (FitsAt ns k)) cs

abbrev pub OwnersSit : List Word → List OwnerSeat → Type 0
OwnersSit ws os = Each (λ _ o. SitsAt ws o.word o.place) os

abbrev pub SeatsSit : List Word → List Seat → Type 0
SeatsSit ws ss = Each (λ _ s. Sit ws s.places.items) ss
