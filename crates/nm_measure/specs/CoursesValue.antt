-- The ways of one source's packets.
use Rattle.std.specs.Prelude.{ℕ, List}
use Rattle.nm_measure.specs.CourseValue.{CourseValue}
use Rattle.nm_measure.specs.declared.courses.Ended.{Ended}

-- of those that are under way, by their numbers, and of those that ended and were not taken yet
pub record CoursesValue : Type 0 where
  pub source : ℕ
  pub under_way : List CourseValue
  pub ended : List Ended
