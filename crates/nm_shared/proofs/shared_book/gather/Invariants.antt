use Rattle.std.proofs.Common.{◌≡◌, ◌+◌, ◌≤◌, ◌^◌, true, length}
use Rattle.std.specs.List.{sum_by}
use Rattle.nm_shared.proofs.shared_book.gather.Given as goal

abbrev pub invariant-loop-pass : goal.invariant-loop-pass
invariant-loop-pass g l = record {
  parts : g.C.Counts.exact ≡ true → g.C.Counts.parts l.whole ≡ g.C.Counts.parts l.fn.rest + length l.yielded;
  apart : g.C.Counts.exact ≡ true → g.C.Counts.cut true → g.C.Counts.parts l.whole ≤ 2 ^ 32;
  messages : g.C.Counts.exact ≡ true → g.C.Counts.messages_of l.whole ≡ g.C.Counts.messages_of l.fn.rest + sum_by (λ p. g.C.Counts.messages_of p.share) l.yielded;
  events : g.C.Counts.exact ≡ true → g.C.Counts.events_of l.whole ≡ g.C.Counts.events_of l.fn.rest + sum_by (λ p. g.C.Counts.events_of p.share) l.yielded;
}
