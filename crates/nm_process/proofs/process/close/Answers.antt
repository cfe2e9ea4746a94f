use Rattle.std.proofs.Common.{◌<◌, inl, inr, refl, rules, sym, ◌∙◌}
use Rattle.nm_process.proofs.process.close.Goals as goal
use Rattle.nm_process.proofs.process.close.Goals.{then-not-done-via-then-not-done, then-not-done-via-else-not-done+then-handed-gt0}

pub returns-then-not-done-clause-left : goal.returns-then-not-done-clause-left
returns-then-not-done-clause-left g c = λ _. (
  c.book_of-book.result,
  c.book_of-book.ensures refl,
  elim c.then-not-done.branch [
    | then-not-done-via-then-not-done w ↦ inl (sym c.done.ensures ∙ w.if-not-done.true)
    | then-not-done-via-else-not-done+then-handed-gt0 w ↦ (let more : 0 < c.book_of-book.result.handed = search rules in inr more)
  ],
)
