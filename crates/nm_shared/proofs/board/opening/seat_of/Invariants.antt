use Rattle.std.proofs.Common.{◌≡◌, take, map}
use Rattle.nm_shared.specs.Board.{Sit, id_of, word_id}
use Rattle.nm_shared.proofs.board.opening.seat_of.Given as goal

abbrev pub invariant-loop-number : goal.invariant-loop-number
invariant-loop-number l = Sit l.words.items l.places.items × (map id_of l.others.items ≡ take l.number (map word_id l.words.items))
