-- Messages in blocks.
use Rattle.std.specs.Prelude.{◌≡◌, ◌≤◌, ◌^◌, List, ◌++◌, length}
use Rattle.std.specs.Arc.{arc_value}
use Rattle.std.specs.declared.sync.Arc.{Arc}
use Rattle.std.specs.declared.vec.Vec.{Vec}
use Rattle.std.specs.List.{flat_map, AllByRecursion}

abbrev pub messages_in : {A Y Z : Type 0} → Arc (Vec A Y) Z → List A
messages_in block = (arc_value block).items

-- those of the full blocks, one block after another, and then the last ones
abbrev pub in_blocks : {A Y Z : Type 0} → List (Arc (Vec A Y) Z) → List A → List A
in_blocks full last = flat_map messages_in full ++ last

-- full blocks have 256 messages, and the last has at most as many
pub record AreBlocks {A Y Z : Type 0} (full : List (Arc (Vec A Y) Z)) (last : List A) : Type 0 where
  pub each : AllByRecursion (λ b. length (messages_in b) ≡ 256) full
  pub fits : length last ≤ 256
  pub most : length (in_blocks full last) ≤ 2 ^ 50
