-- A write from what the wire answered.
use Rattle.std.proofs.Common.{◌≡◌, ℕ, ◌≤◌, List, [], ◌++◌, length, take, drop, Ok, refl, sym, ◌∙◌, subst, append-nil, arith}
use Rattle.std.proofs.lemmas.Grind.{common_steps}
use Rattle.std.proofs.lemmas.List.{take-append-drop}
use Rattle.nm_base.specs.Wire.{Goes, WireSeen}
use Rattle.nm_engine.specs.Writing.{Leaves, Writes}

module _ (old new : WireSeen) where
  -- nothing went
  pub leaves_none : (out : List ℕ) → new.taken ≡ old.taken → Leaves old new out out
  leaves_none out same = record { went = []; went_out = same ∙ sym (append-nil old.taken); front = refl }

  pub wrote_none : (out : List ℕ) → new.taken ≡ old.taken → new.failures ≡ old.failures → Writes old new out out (Ok 0)
  unfolding leaves_none
  wrote_none out same sound = (leaves_none out same, refl, sound)

  length_front : (n : ℕ) (out : List ℕ) → n ≤ length out → length (take n out) ≡ n
  length_front n out le = grind (arith, common_steps, le)

  pub wrote_some : (n : ℕ) (out after : List ℕ) → Goes (λ w. w.taken) old new n out → after ≡ drop n out → Writes old new out after (Ok n)
  wrote_some n out after goes e = (
    record { went = take n out; went_out = goes.2; front = subst (λ (l : List ℕ). take n out ++ l ≡ out) (sym e) (take-append-drop n out) },
    length_front n out goes.1,
    goes.3,
  )
