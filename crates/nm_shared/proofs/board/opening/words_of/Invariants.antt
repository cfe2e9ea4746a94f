use Rattle.std.proofs.Common.{◌≡◌, vec_len}
use Rattle.nm_shared.specs.Board.{AreOwners, Sit}
use Rattle.nm_shared.proofs.board.opening.words_of.Given as goal

abbrev pub invariant-loop-number : goal.invariant-loop-number
invariant-loop-number l = record {
  words : vec_len l.words ≡ l.number;
  owners : vec_len l.owners ≡ l.number;
  are : AreOwners l.words.items l.owners.items;
  sit : Sit l.words.items l.places.items;
}
