-- The first of a list is taken.
use Rattle.std.specs.Prelude.{◌≡◌, List, [], ◌∷◌, Option, None, Some}

-- none is only where there is none
abbrev pub IsFirstOf : {X : Type 0} → List X → Option X → List X → Type 0
IsFirstOf old None new = (old ≡ []) × (new ≡ [])
IsFirstOf old (Some x) new = old ≡ x ∷ new
