use Rattle.std.proofs.Common.{◌≡◌, ◌≤◌, length, map, take, vec_len}
use Rattle.nm_run.specs.Posts.{ArePosted}
use Rattle.nm_run.specs.Replicas.{listener_pair}
use Rattle.nm_run.proofs.posts.open_posts.Given as goal

abbrev pub invariant-loop-number : goal.invariant-loop-number
invariant-loop-number g l = record {
  within : l.number ≤ length l.books;
  stations : vec_len l.posts.stations ≡ l.number;
  posts : vec_len l.posts.posts ≡ l.number;
  posted : ArePosted l.posts;
  named : map listener_pair l.posts.listeners.items ≡ map (λ b. (b.partition, b.replica)) (take l.number l.books);
}
