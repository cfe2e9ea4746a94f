use Rattle.std.proofs.Common.{◌≡◌, ℕ, map, take}
use Rattle.nm_run.proofs.run.passes_of.Given as goal

abbrev pub invariant-loop-book : goal.invariant-loop-book
invariant-loop-book g l = map {B = ℕ × ℕ} (λ p. (p.partition, p.replica)) l.passes.items ≡ map (λ b. (b.partition, b.replica)) (take l.book-index l.books)
