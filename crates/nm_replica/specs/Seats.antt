-- Seats that own words of a board.
use Rattle.std.specs.Prelude.{◌≡◌, ℕ, ◌/◌, ◌≤◌, All, Bool, true, List, length, map}
use Rattle.nm_book.specs.Book.{BookValue, is_outgoing, promise_on}
use Rattle.nm_model.specs.Promise.{Tight}
use Rattle.nm_shared.specs.Board.{owned_word, raised_to}
use Rattle.nm_shared.specs.Home.{Home, home_of}
use Rattle.nm_shared.specs.declared.board.ClockBoard.{ClockBoard}
use Rattle.nm_shared.specs.declared.board.OwnerSeat.{OwnerSeat}
use Rattle.nm_replica.specs.declared.seats.OwnSeats.{OwnSeats}

-- the board, and how many seats there are
abbrev pub board_of : OwnSeats → ClockBoard
board_of own = own.board.now

abbrev pub seat_count : OwnSeats → ℕ
seat_count own = length own.seats.items

-- the words that they own, in order
abbrev pub words_of : OwnSeats → List ℕ
words_of own = map owned_word own.seats.items

-- they are of the same board, and as many
abbrev pub AreKept : (old new : OwnSeats) → Type 0
AreKept old new = (board_of new ≡ board_of old) × (seat_count new ≡ seat_count old)

-- a book, which is this replica's if the counts are exact, was seen, and the seat's word is no less
-- than its promise of the seat's channel, if that goes out
abbrev pub StandsOnBoard : (exact : Bool) → Home → OwnerSeat → Type 0
StandsOnBoard exact own seat =
    (b : BookValue) × (exact ≡ true → home_of b ≡ own)
    × (is_outgoing b (owned_word seat / 2) ≡ true
    → promise_on Tight b (owned_word seat / 2) ≤ raised_to seat)

abbrev pub StandOnBoard : (exact : Bool) → Home → OwnSeats → Type 0
StandOnBoard exact own seats = All (StandsOnBoard exact own) seats.seats.items
