-- What knowledge gains by a merge.
use Rattle.std.specs.Prelude.{ℕ, ◌≤◌, ◌^◌, List, length, Option, unwrap_or}
use Rattle.nm_model.specs.Knowledge.{Know, IsKnow}

-- a list of messages in place of one that is not longer, if there is one, and a clock
pub record Gain : Type 0 where
  pub messages : Option (List (ℕ × List ℕ))
  pub clock : ℕ

abbrev pub gained : Know (List ℕ) → Gain → Know (List ℕ)
gained a g = record { list = unwrap_or g.messages a.list; clock = g.clock }

-- with it, it is knowledge
pub record IsGain (a : Know (List ℕ)) (g : Gain) : Type 0 where
  pub known : IsKnow (gained a g)
  pub most : length (gained a g).list ≤ 2 ^ 50
