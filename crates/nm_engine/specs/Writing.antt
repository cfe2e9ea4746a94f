-- The result of one write of a link.
use Rattle.std.specs.Prelude.{◌≡◌, ℕ, ◌+◌, List, ◌++◌, length, Result, Ok, Err}
use Rattle.nm_base.specs.Wire.{WireSeen}
use Rattle.nm_engine.specs.declared.answer.Cause.{Cause}
use Rattle.nm_engine.specs.declared.answer.Cause.TheVariants.{Fault}

module _ (old new : WireSeen) (before after : List ℕ) where
  -- these octets were written from the front of the buffer
  pub record Leaves : Type 0 where
    pub went : List ℕ
    pub went_out : new.taken ≡ old.taken ++ went
    pub front : went ++ after ≡ before

  -- so many of them, or the wire failed
  abbrev pub Writes : Result ℕ Cause → Type 0
  Writes (Ok n) = (l : Leaves) × (length l.went ≡ n) × (new.failures ≡ old.failures)
  Writes (Err cause) = (cause ≡ Fault) × Leaves × (new.failures ≡ old.failures + 1)
