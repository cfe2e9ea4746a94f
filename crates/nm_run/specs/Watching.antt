-- The replicas of a run, and the dispatcher's notes of them.
use Rattle.std.specs.Prelude.{◌≡◌, ◌⊎◌, ℕ, true, false, List, map, slice_get, Some, is_some}
use Rattle.nm_book.specs.declared.running.Ran.{Ran}
use Rattle.nm_book.specs.declared.running.Ran.TheVariants.{All, Limit, Memory}
use Rattle.nm_run.specs.declared.jobs.Answered.{Answered}
use Rattle.nm_run.specs.declared.jobs.Watched.{Watched}
use Rattle.nm_run.specs.declared.stations.Own.{Own}
use Rattle.nm_run.specs.declared.threads.Threaded.{Threaded}

-- the replicas of a run, by partition and replica, in the order of their books
abbrev pub names_of : {G : Type 0} → Threaded G → List (ℕ × ℕ)
names_of threaded = map (λ b. (b.partition, b.replica)) threaded.books.now

-- the replica with this number among these
abbrev pub IsOwnAt : List (ℕ × ℕ) → ℕ → Own → Type 0
IsOwnAt names number own = (own.index ≡ number)
    × (slice_get names number ≡ Some (own.book.now.partition, own.book.now.replica))

-- these replicas, in their order
abbrev pub AreOwns : List (ℕ × ℕ) → List Own → Type 0
AreOwns names owns =
    (i : ℕ) (own : Own) → slice_get owns i ≡ Some own → IsOwnAt names i own

-- the notes of a book are up to date: nothing is left to do for it, or it did no event since it was
-- read
abbrev pub WasLookedAt : Watched → Type 0
WasLookedAt w = (w.is_done ≡ true) ⊎ (w.is_stale ≡ false)

-- a job with this answer is noted: how many events it did, and that its book was given back if none
-- is left
abbrev pub Answers : Ran → Answered → Type 0
Answers (All n) a = (a.events ≡ n) × (is_some a.given_back ≡ true)
Answers (Limit n) a = (a.events ≡ n) × (is_some a.given_back ≡ false)
Answers (Memory n) a = ⊥

-- the replicas that the notes are of
abbrev pub owns_of : List Watched → List Own
owns_of watched = map (λ w. w.own) watched
