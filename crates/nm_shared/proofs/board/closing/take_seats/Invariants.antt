use Rattle.std.proofs.Common.{◌≡◌, ℕ, List, ◌++◌, length}
use Rattle.nm_shared.specs.declared.board.Seat.{Seat}
use Rattle.nm_shared.specs.Board.{FitAll}
use Rattle.nm_shared.specs.Closing.{FitIf, From, SitIf}
use Rattle.nm_shared.proofs.board.closing.take_seats.Given as goal

abbrev pub invariant-loop-seat : goal.invariant-loop-seat
invariant-loop-seat l = record {
  sit : SitIf l.words.items l.closers.items;
  rest : (rs : List Seat) × (l.initial.seats.items ≡ l.seats.items ++ rs);
  fits : (ns : List ℕ) → FitIf ns l.closers.items → FitIf ns l.initial.closers.items × From (λ _ s. FitAll ns s.places.items) (length l.seats.items) l.initial.seats.items;
}

abbrev pub decreases-loop-seat : goal.decreases-loop-seat
decreases-loop-seat l = goal.left-loop-seat l
