use Rattle.std.proofs.Common.{◌≡◌, List, ◌++◌, length, vec_len, Option}
use Rattle.std.specs.Prelude.{IfSome}
use Rattle.nm_shared.specs.declared.word.WordSeat.{WordSeat}
use Rattle.nm_shared.specs.Board.{FitsAt}
use Rattle.nm_shared.specs.Closing.{From, SitIf}
use Rattle.nm_shared.proofs.board.closing.close_words.Given as goal

abbrev pub invariant-loop-closer : goal.invariant-loop-closer
invariant-loop-closer l = record {
  sit : SitIf l.words.items l.closers.items;
  rest : (rs : List (Option WordSeat)) × (l.initial.closers.items ≡ l.closers.items ++ rs);
  clocks : vec_len l.clocks ≡ vec_len l.initial.words;
  fits : From (λ w c. IfSome c (FitsAt l.clocks.items w)) (length l.closers.items) l.initial.closers.items;
}

abbrev pub decreases-loop-closer : goal.decreases-loop-closer
decreases-loop-closer l = vec_len l.closers
