use Rattle.std.proofs.Common.{◌≡◌, ◌≤◌, vec_capacity, vec_len}
use Rattle.std.specs.Prelude.{IfSome}
use Rattle.nm_shared.specs.Board.{Each, SitsAt}
use Rattle.nm_shared.proofs.board.closing.none_yet.Given as goal

abbrev pub invariant-loop-number : goal.invariant-loop-number
invariant-loop-number l = record {
  len : vec_len l.places ≡ l._number;
  room : 1024 ≤ vec_capacity l.places;
  sit : Each (λ k c. IfSome c (SitsAt l.words.items k)) l.places.items;
}
