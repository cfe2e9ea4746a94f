use Rattle.std.proofs.Common.{◌≡◌, ◌+◌, vec_len}
use Rattle.nm_shared.specs.Board.{Sit}
use Rattle.nm_shared.specs.Closing.{SeatsSit}
use Rattle.nm_shared.proofs.board.opening.seats_of.Given as goal

abbrev pub invariant-loop-number : goal.invariant-loop-number
invariant-loop-number l = record {
  len : vec_len l.seats + 1 ≡ l._number;
  seats : SeatsSit l.words.items l.seats.items;
  sit : Sit l.words.items l.places.items;
}
