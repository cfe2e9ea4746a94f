-- The words of a script and their numbers.
use Rattle.std.specs.Prelude.{ℕ, if◌then◌else◌, List, [], ◌∷◌, min, codes, Option, Some, None}
use Rattle.std.specs.Str.{bytes_eq}
use Rattle.nm_rounds.specs.declared.step.WorldStep.{WorldStep}
use Rattle.nm_rounds.specs.declared.step.WorldStep.TheVariants.{Run, Data, Resend, Null, OldNull, Deliver, Merge, Restart}

-- A number that is past its type names nothing that is there, and is read as the greatest of the
-- type, which names nothing either.
abbrev pub to_u32 : ℕ → ℕ
to_u32 n = min n 4294967295

abbrev pub to_u8 : ℕ → ℕ
to_u8 n = min n 255

-- `deliver K R`, `merge P R`, `restart P R`
abbrev pub step_of_two : List ℕ → ℕ → ℕ → Option WorldStep
step_of_two word n r =
    if bytes_eq word (codes "deliver") then Some (Deliver n (to_u8 r))
    else (if bytes_eq word (codes "merge") then Some (Merge (to_u32 n) (to_u8 r))
    else (if bytes_eq word (codes "restart") then Some (Restart (to_u32 n) (to_u8 r)) else None))

-- `run P R N`, `null P R C`, `oldnull P R C`
abbrev pub step_of_three : List ℕ → ℕ → ℕ → ℕ → Option WorldStep
step_of_three word p r n =
    if bytes_eq word (codes "run") then Some (Run (to_u32 p) (to_u8 r) n)
    else (if bytes_eq word (codes "null") then Some (Null (to_u32 p) (to_u8 r) (to_u32 n))
    else (if bytes_eq word (codes "oldnull") then Some (OldNull (to_u32 p) (to_u8 r) (to_u32 n))
    else None))

-- `data P R C N`, `resend P R C N`
abbrev pub step_of_four : List ℕ → ℕ → ℕ → ℕ → ℕ → Option WorldStep
step_of_four word p r c n =
    if bytes_eq word (codes "data") then Some (Data (to_u32 p) (to_u8 r) (to_u32 c) n)
    else (if bytes_eq word (codes "resend") then Some (Resend (to_u32 p) (to_u8 r) (to_u32 c) n)
    else None)

-- the step of a word and its numbers
abbrev pub step_said : List ℕ → List ℕ → Option WorldStep
step_said word [] = None
step_said word (a ∷ []) = None
step_said word (a ∷ b ∷ []) = step_of_two word a b
step_said word (a ∷ b ∷ c ∷ []) = step_of_three word a b c
step_said word (a ∷ b ∷ c ∷ d ∷ []) = step_of_four word a b c d
step_said word (a ∷ b ∷ c ∷ d ∷ e ∷ more) = None
