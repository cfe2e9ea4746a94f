use Rattle.std.proofs.Common.{◌≡◌, ℕ, List, ◌++◌, length}
use Rattle.nm_shared.specs.declared.word.WordSeat.{WordSeat}
use Rattle.nm_shared.specs.Board.{FitsAt}
use Rattle.nm_shared.specs.Closing.{FitIf, From, SitIf}
use Rattle.nm_shared.proofs.board.closing.take_seat.Given as goal

abbrev pub invariant-loop-place : goal.invariant-loop-place
invariant-loop-place l = record {
  sit : SitIf l.words.items l.closers.items;
  rest : (rs : List WordSeat) × (l.initial.places.items ≡ l.places.items ++ rs);
  fits : (ns : List ℕ) → FitIf ns l.closers.items → FitIf ns l.initial.closers.items × From (FitsAt ns) (length l.places.items) l.initial.places.items;
}

abbrev pub decreases-loop-place : goal.decreases-loop-place
decreases-loop-place l = goal.left-loop-place l
