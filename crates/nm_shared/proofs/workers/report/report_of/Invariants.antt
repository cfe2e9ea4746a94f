use Rattle.std.proofs.Common.{◌≡◌, ℕ, ◌<◌, ◌≤◌, length, take, map, vec_len}
use Rattle.std.specs.Prelude.{slice_index}
use Rattle.nm_shared.specs.Known.{ran}
use Rattle.nm_shared.specs.Pool.{AreAnswers}
use Rattle.nm_shared.proofs.workers.report.report_of.Given as goal

abbrev pub invariant-loop-place : goal.invariant-loop-place
invariant-loop-place g l = record {
  slots : vec_len l.slots ≡ length l.jobs;
  answers : vec_len l.answers ≡ l.place;
  books : map (λ p. p.book) l.passes.items ≡ take l.place g.J.Jobs.books;
  counted : map (λ p. g.C.Counts.events_of p.pass.share) l.passes.items ≡ map ran l.answers.items;
  within : (j : ℕ) → j < l.place → slice_index (map ran l.answers.items) j ≤ slice_index g.J.Jobs.limits j;
  runs : AreAnswers g.J.Jobs.limits l.answers.items;
}
