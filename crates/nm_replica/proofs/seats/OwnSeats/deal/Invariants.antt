use Rattle.std.proofs.Common.{◌≡◌, ◌++◌, All, map, not}
use Rattle.std.specs.List.{filter}
use Rattle.nm_shared.specs.Board.{IsOwnerOf, owned_word}
use Rattle.nm_replica.specs.Seats.{words_of}
use Rattle.nm_replica.specs.Words.{is_word_of}
use Rattle.nm_replica.proofs.seats.OwnSeats.deal.Given as goal

abbrev pub invariant-loop-seat : goal.invariant-loop-seat
invariant-loop-seat l = record {
  own : All (IsOwnerOf l.board) l.own.items;
  others : All (IsOwnerOf l.board) l.others.items;
  rest : All (IsOwnerOf l.board) l.seat-iterator.rest.items;
  own_words : map owned_word l.own.items ++ filter (is_word_of l.topology l.partition l.replica) (map owned_word l.seat-iterator.rest.items) ≡ filter (is_word_of l.topology l.partition l.replica) (words_of l.fn.self);
  other_words : map owned_word l.others.items ++ filter (λ w. not (is_word_of l.topology l.partition l.replica w)) (map owned_word l.seat-iterator.rest.items) ≡ filter (λ w. not (is_word_of l.topology l.partition l.replica w)) (words_of l.fn.self);
}
