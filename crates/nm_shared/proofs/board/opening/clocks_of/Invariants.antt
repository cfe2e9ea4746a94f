use Rattle.std.proofs.Common.{◌≡◌, vec_len}
use Rattle.nm_shared.proofs.board.opening.clocks_of.Given as goal

abbrev pub invariant-loop-number : goal.invariant-loop-number
invariant-loop-number l = vec_len l.clocks ≡ l._number
