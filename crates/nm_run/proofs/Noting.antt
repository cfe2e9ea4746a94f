-- The events of jobs that were noted.
use Rattle.std.proofs.Common.{◌≡◌, ℕ, ◌+◌, ◌<◌, List, length, get_or, take, ◌∙◌, ap, arith}
use Rattle.std.specs.List.{sum_by}
use Rattle.std.proofs.lemmas.List.{take_more}
use Rattle.std.proofs.lemmas.List.Sums.{sum_by_push}
use Rattle.nm_base.specs.Count.{saturated}
use Rattle.nm_book.specs.declared.running.Ran.{Ran}
use Rattle.nm_book.specs.declared.running.Ran.TheVariants.{All, Limit, Memory}
use Rattle.nm_shared.specs.Known.{ran}
use Rattle.nm_run.specs.Watching.{Answers}
use Rattle.nm_run.specs.declared.jobs.Answered.{Answered}

-- a job is noted with as many events as it did
pub events_are : (answer : Ran) (answered : Answered) → Answers answer answered → answered.events ≡ ran answer
events_are (All n) answered is = is.0
events_are (Limit n) answered is = is.0
events_are (Memory n) answered is = absurd is

-- one more is counted, up to the greatest number
pub counted_more : (answers : List Ran) (k : ℕ) (d : Ran) (events n : ℕ) → k < length answers
    → events ≡ saturated (sum_by ran (take k answers)) → n ≡ ran (get_or answers k d)
    → saturated (events + n) ≡ saturated (sum_by ran (take (k + 1) answers))
counted_more answers k d events n low before here =
    let more = ap (sum_by ran) (take_more answers k d low) ∙ sum_by_push ran (take k answers) (get_or answers k d) in
    omega (arith, before, here, more)
