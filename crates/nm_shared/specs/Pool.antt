-- The answers of a pool to its jobs.
use Rattle.std.specs.Prelude.{◌≡◌, ℕ, List, [], ◌∷◌, ◌++◌, Option, Some, Result, Ok, Err}
use Rattle.std.specs.Prelude.{slice_get, slice_index, slice_set}
use Rattle.std.specs.declared.vec.Vec.{Vec}
use Rattle.nm_book.specs.Book.{BookValue}
use Rattle.nm_book.specs.Running.{Runs}
use Rattle.nm_book.specs.declared.running.Ran.{Ran}

-- a book ran for at most so many events, and answered so
abbrev pub IsRunAnswer : ℕ → Ran → Type 0
IsRunAnswer limit answer = ∥ ((b : BookValue) × (c : BookValue) × Runs b c limit answer) ∥₁

-- reports are put one after another, each in the place of its job
unfoldable pub put_in_places : {A : Type 0} → (place_of : A → ℕ) → List (Option A) → List A → List (Option A)
put_in_places place_of slots [] = slots
put_in_places place_of slots (report ∷ more) =
    put_in_places place_of (slice_set slots (place_of report) (Some report)) more

-- what threads did, one behind another; nothing of a thread that was refused memory
unfoldable pub done_by : {A Y E : Type 0} → List (Result (Vec A Y) E) → List A
done_by [] = []
done_by (Ok done ∷ more) = done.items ++ done_by more
done_by (Err e ∷ more) = done_by more

-- no thread was refused memory
unfoldable pub HadMemory : {A Y E : Type 0} → List (Result (Vec A Y) E) → Type 0
HadMemory [] = Unit {0}
HadMemory (Ok done ∷ more) = HadMemory more
HadMemory (Err e ∷ more) = ⊥

-- each answer is one to the limit of the job at its place
abbrev pub AreAnswers : List ℕ → List Ran → Type 0
AreAnswers limits answers =
    (k : ℕ) (a : Ran) → slice_get answers k ≡ Some a → IsRunAnswer (slice_index limits k) a
