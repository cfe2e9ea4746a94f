use Rattle.std.proofs.Common.{◌≡◌, ◌+◌, ◌++◌, All, length, map, vec_len}
use Rattle.std.specs.Vec.Iter.{into_iter_items}
use Rattle.std.specs.Arc.{arc_value}
use Rattle.std.specs.List.{filter}
use Rattle.nm_files.specs.Files.{AreCounted}
use Rattle.nm_replica.specs.Seats.{board_of, words_of}
use Rattle.nm_replica.specs.Words.{is_word_of}
use Rattle.nm_run.proofs.Dealing.{AreLeft}
use Rattle.nm_run.specs.Watching.{AreOwns, names_of}
use Rattle.nm_shared.specs.Board.{owned_word}
use Rattle.nm_run.proofs.run.sides_of.Given as goal

abbrev pub invariant-loop-post : goal.invariant-loop-post
invariant-loop-post g l = record {
  all : vec_len l.sides + length (into_iter_items l.post-iterator) ≡ vec_len l.fn.posts;
  posts : map (λ s. s.post) l.sides.items ++ into_iter_items l.post-iterator ≡ l.fn.posts.items;
  rest : board_of l.rest ≡ l.threaded.board.now;
  left : AreLeft (arc_value l.threaded.plan.now.topology.now) (names_of l.threaded) (length l.sides.items) (words_of l.rest) (map owned_word l.fn.owners.items);
  own : AreOwns (names_of l.threaded) (map (λ s. s.own) l.sides.items);
  board : All (λ s. board_of s.holdings.seats ≡ l.threaded.board.now) l.sides.items;
  seats : All (λ s. words_of s.holdings.seats ≡ filter (is_word_of (arc_value l.threaded.plan.now.topology.now) s.own.book.now.partition s.own.book.now.replica) (map owned_word l.fn.owners.items)) l.sides.items;
  counted : All (λ s. AreCounted g.F.File.Sink.seen (g.F.Outputs.made l.initial.outputs) s.holdings.files.files.items) l.sides.items;
  same : g.F.Outputs.made l.outputs ≡ g.F.Outputs.made l.initial.outputs;
}
