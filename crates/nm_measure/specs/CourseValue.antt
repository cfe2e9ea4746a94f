-- The way of a packet, and those of one source's packets.
use Rattle.std.specs.Prelude.{ℕ, List}
use Rattle.nm_measure.specs.declared.courses.Hop.{Hop}

-- which packet of its source it is, when it was made, and where it passed
pub record CourseValue : Type 0 where
  pub number : ℕ
  pub sent : ℕ
  pub hops : List Hop
