-- Whether a replica of a run goes on.
use Rattle.std.specs.Prelude.{◌≡◌, ℕ, ◌&&◌, not, IfSome, is_some}
use Rattle.nm_run.specs.declared.going.Going.{Going}
use Rattle.nm_run.specs.declared.going.RunGate.{RunGate}

-- It was asked when so many octets had moved, and the run's own gate was told how many. A replica
-- goes on if that gate lets it, and the run was not seen to have failed.
pub record IsAsked {G : Type 0} (run : RunGate G) (moved : ℕ) (going : Going) : Type 0 where
  pub told : going.gate.moved ≡ moved
  pub own : IfSome going.failure (λ noted. noted.of ≡ run.has_failed.now.id)
  pub answer : going.goes_on ≡ (going.gate.may && not (is_some going.failure))
