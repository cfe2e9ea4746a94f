-- What contracts see of the octets that a wire has not taken, and of the counted frames.
use Rattle.std.specs.Prelude.{ℕ, List, Option}
use Rattle.nm_engine.specs.declared.given.GivenCounts.{GivenCounts}

pub record Waiting : Type 0 where
  pub items : List ℕ
  -- how many frames were put there, if they are counted
  pub given : Option GivenCounts
