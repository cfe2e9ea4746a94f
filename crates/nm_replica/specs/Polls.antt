-- The results of polls: how long nothing was ready or done, and when serving ends by that.
use Rattle.std.specs.Prelude.{◌≡◌, ℕ, ◌+◌, ◌-◌, ◌%◌, ◌==◌, Bool, true, false, nat_le, nat_lt, ◌||◌, not, Option, Some, None, IfSome, is_some, Result, Ok, Err, if◌then◌else◌}
use Rattle.std.specs.declared.alloc.AllocError.{AllocError}
use Rattle.nm_base.specs.Count.{saturated}
use Rattle.nm_book.specs.declared.running.Ran.{Ran}
use Rattle.nm_book.specs.declared.running.Ran.TheVariants.{All, Limit, Memory}
use Rattle.nm_replica.specs.declared.served.Served.{Served}
use Rattle.nm_replica.specs.declared.limits.TheConstants.{MAX_FAILED_WAITS, MERGE_POLLS}
use Rattle.nm_replica.specs.declared.news.News.{News}
use Rattle.nm_replica.specs.declared.news.News.TheVariants.{Done, Written}
use Rattle.nm_shared.specs.Pool.{IsRunAnswer}
use Rattle.nm_replica.specs.declared.served.Served.TheVariants.{Ended, Net, Stalled}
use Rattle.nm_replica.specs.declared.serving.Serving.{Serving}
use Rattle.nm_transport.specs.Transport.{has_run_out}
use Rattle.nm_transport.specs.declared.transport.Waited.{Waited}
use Rattle.nm_transport.specs.declared.transport.Waited.TheVariants.{Ready, RanOut, Fault}

-- what is counted of a replica stays as it is: octets, events, how long it stayed, whether its book
-- was done, and polls
abbrev pub KeepsCounts : {W : Type 0} → (old new : Serving W) → Type 0
KeepsCounts old new =
    (new.moved ≡ old.moved) × (new.counted ≡ old.counted) × (new.events ≡ old.events)
    × (new.stay ≡ old.stay) × (new.was_done ≡ old.was_done) × (new.polls ≡ old.polls)

-- nothing was counted of a replica so far, and its first poll does not wait
abbrev pub HasCountedNothing : {W : Type 0} → Serving W → Type 0
HasCountedNothing s =
    (s.moved ≡ 0) × (s.counted ≡ 0) × (s.events ≡ 0) × (s.was_done ≡ false) × (s.polls ≡ 0)
    × (s.stay.all.periods ≡ 0) × (s.stay.quiet ≡ 0) × (s.short.periods ≡ 0)
    × (s.failed_waits ≡ 0) × (s.is_busy ≡ true)

-- a poll was active: octets moved, records were written, or the book did events
abbrev pub is_active : (octets written : ℕ) → (was_run : Bool) → Bool
is_active octets written was_run = nat_lt 0 octets || nat_lt 0 written || was_run

-- for how many periods in a row nothing moved and nothing was done, after one more poll; `ran_out`:
-- a period was over
abbrev pub idle_after : (before : ℕ) → (was_active ran_out : Bool) → ℕ
idle_after before true ran_out = 0
idle_after before false ran_out = if ran_out then saturated (before + 1) else before

-- how many waits in a row have failed after one more, or how serving ends after too many
abbrev pub failed_waits : (before : ℕ) → Waited → Result ℕ Served
failed_waits before Ready = Ok 0
failed_waits before RanOut = Ok 0
failed_waits before Fault = if nat_le MAX_FAILED_WAITS before then Err Net else Ok (before + 1)

-- a wait was made, at which a period was over or not; so many in a row have failed before and after
abbrev pub Waits : (ran_out : Bool) → (before after : ℕ) → Type 0
Waits ran_out before after =
    (waited : Waited) × (has_run_out waited ≡ ran_out) × (failed_waits before waited ≡ Ok after)

-- whether a replica goes on at once after a run of its book, or after none: if the run left events
-- to do, and no pool does them; or the run was refused memory
abbrev pub runs_on : (has_pool : Bool) → Option Ran → Result Bool AllocError
runs_on has_pool None = Ok false
runs_on has_pool (Some (All n)) = Ok false
runs_on has_pool (Some (Limit n)) = Ok (not has_pool)
runs_on has_pool (Some (Memory n)) = Err (record {})

-- the answer of a run of at most so many events, if the book ran: without a pool it runs unless the
-- limit is 0
abbrev pub RunsOwn : (has_pool : Bool) → (limit : ℕ) → Option Ran → Type 0
RunsOwn has_pool limit ran =
    IfSome ran (IsRunAnswer limit) × (has_pool ≡ false → is_some ran ≡ nat_lt 0 limit)

-- whether what the sister knows is merged after so many polls
abbrev pub is_merge_due : (polls : ℕ) → Bool
is_merge_due polls = polls % MERGE_POLLS == MERGE_POLLS - 1

-- A pool is notified if the book is newly done, lent or not; and if records were written and the
-- book is lent.
abbrev pub IsNews : (is_newly_done has_written : Bool) → Option News → Type 0
IsNews true has_written (Some (Done told)) = Unit {0}
IsNews true has_written (Some (Written told)) = ⊥
IsNews true has_written None = ⊥
IsNews false true (Some (Done told)) = ⊥
IsNews false true (Some (Written told)) = Unit {0}
IsNews false true None = ⊥
IsNews false false (Some news) = ⊥
IsNews false false None = Unit {0}

-- how serving ends after a poll, if it does: it is done, or as many periods in a row were idle as
-- its limit
abbrev pub ending_of : (is_done : Bool) → (idle limit polls : ℕ) → Option Served
ending_of true idle limit polls = Some Ended
ending_of false idle limit polls = if nat_le limit idle then Some (Stalled polls) else None
