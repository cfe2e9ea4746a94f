-- The meaning of a line of a script, given without its line feed.
use Rattle.std.specs.Prelude.{◌≡◌, ℕ, ◌<◌, ◌^◌, ◌==◌, Bool, true, List, [], ◌∷◌, map, decimal, Some}
use Rattle.std.specs.List.{All}
use Rattle.std.specs.Str.{IsAscii}
use Rattle.nm_base.specs.Text.{parts_at}
use Rattle.nm_rounds.specs.declared.step.WorldStep.{WorldStep}
use Rattle.nm_script.specs.declared.line.Line.{Line}
use Rattle.nm_script.specs.declared.line.Line.TheVariants.{Skipped, Step}
use Rattle.nm_script.specs.Tokens.{step_said}

-- the words of a line, which one space parts
abbrev pub words_of : List ℕ → List (List ℕ)
words_of line = parts_at 32 line

-- The line is a step: its words are a word and numbers, which are written in decimal without
-- leading zeros.
pub record IsStep (line : List ℕ) (s : WorldStep) : Type 0 where
  pub word : List ℕ
  pub numbers : List ℕ
  pub small : All (λ n. n < 2 ^ 64) numbers
  pub words : words_of line ≡ word ∷ map decimal numbers
  pub named : step_said word numbers ≡ Some s

-- it is empty, or it begins with `#`
abbrev pub is_idle : List ℕ → Bool
is_idle [] = true
is_idle (c ∷ cs) = c == 35

-- the meaning of a line: nothing, which must be ASCII, or a step
abbrev pub Says : List ℕ → Line → Type 0
Says line Skipped = (is_idle line ≡ true) × IsAscii line
Says line (Step s) = IsStep line s
