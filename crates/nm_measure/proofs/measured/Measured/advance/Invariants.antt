use Rattle.std.proofs.Common.{ℕ, List, Option}
use Rattle.nm_measure.specs.declared.courses.Ended.{Ended}
use Rattle.nm_measure.specs.Followed.{IsFollowed}
use Rattle.nm_measure.specs.Measured.{IsMeasuring}
use Rattle.nm_measure.proofs.measured.Measured.advance.Given as goal

abbrev pub invariant-loop-done : goal.invariant-loop-done
invariant-loop-done l = record {
  measuring : IsMeasuring l.topology l.fn.self.part.steps l.until l.self;
  followed : (j : Option ℕ) (taken : List Ended) → IsFollowed l.topology j l.fn.self.part.steps taken l.fn.self.courses → IsFollowed l.topology j l.self.part.steps taken l.self.courses;
}
