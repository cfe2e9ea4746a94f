-- The meaning of a script, line by line.
use Rattle.std.specs.Prelude.{◌≡◌, ◌⊎◌, ℕ, ◌+◌, ◌<◌, ◌≤◌, List, [], ◌∷◌, ◌++◌, length, codes, Result, Ok, Err}
use Rattle.std.specs.List.{All, flat_map}
use Rattle.std.specs.declared.vec.Vec.{Vec}
use Rattle.std.specs.declared.alloc.Global.{Global}
use Rattle.nm_base.specs.Text.{HasNo}
use Rattle.nm_base.specs.declared.fault.Fault.{Fault}
use Rattle.nm_base.specs.declared.fault.Fault.TheVariants.{Refused, Memory}
use Rattle.nm_rounds.specs.declared.step.WorldStep.{WorldStep}
use Rattle.nm_script.specs.declared.fault.BadLine.{BadLine}
use Rattle.nm_script.specs.declared.line.Line.{Line}
use Rattle.nm_script.specs.declared.line.Line.TheVariants.{Skipped, Step}
use Rattle.nm_base.specs.declared.limits.TheConstants.{MAX_SCRIPT_STEPS}
use Rattle.nm_script.specs.Grammar.{Says}

-- the steps of a line: none, or one
abbrev pub steps_in : Line → List WorldStep
steps_in Skipped = []
steps_in (Step s) = s ∷ []

-- a line, and its meaning
abbrev pub Said : Type 0
Said = List ℕ × Line

-- The text is these lines, each with its line feed, and they mean these steps, which are not too
-- many.
pub record AreLines (lines : List Said) (text : List ℕ) (steps : List WorldStep) : Type 0 where
  pub whole : text ≡ flat_map (λ l. l.0 ++ codes "\n") lines
  pub ended : All (λ l. HasNo 10 l.0) lines
  pub say : All (λ l. Says l.0 l.1) lines
  pub all : steps ≡ flat_map (λ l. steps_in l.1) lines
  pub few : length steps ≤ MAX_SCRIPT_STEPS

-- After so many steps no line like this may come: it is no line of a script, or a step too many.
abbrev pub IsBadLine : ℕ → List ℕ → Type 0
IsBadLine count line =
    (said : Line) → Says line said → MAX_SCRIPT_STEPS < count + length (steps_in said)

-- The text begins with such a line, or with one that has no line feed.
abbrev pub BeginsBadly : ℕ → List ℕ → Type 0
BeginsBadly count text =
    ((0 < length text) × HasNo 10 text)
    ⊎ ((line : List ℕ) × (more : List ℕ) × (text ≡ line ++ 10 ∷ more) × HasNo 10 line
    × IsBadLine count line)

-- the text is a script of these steps
pub record IsScript (text : List ℕ) (steps : List WorldStep) : Type 0 where
  pub lines : List Said
  pub are : AreLines lines text steps

-- The line of this number, counted from 1, is the first that no script may have there.
pub record IsFirstFault (text : List ℕ) (number : ℕ) : Type 0 where
  pub front : List ℕ
  pub rest : List ℕ
  pub parts : text ≡ front ++ rest
  pub steps : List WorldStep
  pub lines : List Said
  pub are : AreLines lines front steps
  pub counted : number ≡ length lines + 1
  pub bad : BeginsBadly (length steps) rest

-- the steps of a script; or its first fault; or memory was refused
abbrev pub Tells : List ℕ → Result (Vec WorldStep Global) (Fault BadLine) → Type 0
Tells text (Ok steps) = IsScript text steps.items
Tells text (Err (Refused bad)) = IsFirstFault text bad.number
Tells text (Err Memory) = Unit {0}

-- A line of this number is taken in behind others: its steps come behind theirs. Or it is bad; or
-- memory was refused.
abbrev pub AddsStep : List WorldStep → List ℕ → ℕ → Result Unit (Fault BadLine)
    → List WorldStep → Type 0
AddsStep before line number (Ok done) after =
    (said : Line) × Says line said × (after ≡ before ++ steps_in said)
    × (length after ≤ MAX_SCRIPT_STEPS)
AddsStep before line number (Err (Refused bad)) after =
    (bad.number ≡ number) × IsBadLine (length before) line
AddsStep before line number (Err Memory) after = Unit {0}
