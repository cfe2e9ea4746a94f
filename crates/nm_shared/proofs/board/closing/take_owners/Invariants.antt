use Rattle.std.proofs.Common.{◌≡◌, ℕ, List, ◌++◌, length}
use Rattle.std.specs.Prelude.{slice_index}
use Rattle.nm_shared.specs.declared.board.OwnerSeat.{OwnerSeat}
use Rattle.nm_shared.specs.Board.{raised_to}
use Rattle.nm_shared.specs.Closing.{FitIf, From, SitIf}
use Rattle.nm_shared.proofs.board.closing.take_owners.Given as goal

abbrev pub invariant-loop-owner : goal.invariant-loop-owner
invariant-loop-owner l = record {
  sit : SitIf l.words.items l.closers.items;
  rest : (rs : List OwnerSeat) × (l.initial.owners.items ≡ l.owners.items ++ rs);
  fits : (ns : List ℕ) → FitIf ns l.closers.items → FitIf ns l.initial.closers.items × From (λ _ o. slice_index ns o.word ≡ raised_to o) (length l.owners.items) l.initial.owners.items;
}

abbrev pub decreases-loop-owner : goal.decreases-loop-owner
decreases-loop-owner l = goal.left-loop-owner l
