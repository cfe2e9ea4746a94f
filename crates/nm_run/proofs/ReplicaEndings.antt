-- The endings of replicas, looked at one after another.
use Rattle.std.proofs.Common.{◌≡◌, ◌≢◌, inl, inr, ℕ, ◌+◌, ◌<◌, All, List, length, map, get_or, slice_get, Option, Some, None, Result, Ok, Err, refl, sym, ◌∙◌, ap, subst, arith, below_more}
use Rattle.std.proofs.lemmas.List.{get_or-map, length-map}
use Rattle.std.proofs.lemmas.List.Elements.{All-from_get_or}
use Rattle.std.proofs.lemmas.Option.{slice_get-get_or}
use Rattle.nm_base.specs.Sink.{SinkSeen}
use Rattle.nm_files.specs.Files.{AreCounted}
use Rattle.nm_files.specs.Outputs.{Files}
use Rattle.nm_replica.specs.declared.served.Served.{Served}
use Rattle.nm_replica.specs.declared.served.Served.TheVariants as served
use Rattle.nm_run.specs.Endings.{AreEndings, GivesNoReason, fault_of}
use Rattle.nm_run.specs.Sides.{StillCounts}
use Rattle.nm_run.specs.declared.sides.SideEnd.{SideEnd}
use Rattle.nm_run.specs.declared.stop.Stop.{Stop}
use Rattle.nm_run.specs.declared.stop.Stop.TheVariants as stop

-- one ended with `Net`
pub record OneFailed (ends : List Served) : Type 0 where
  pub number : ℕ
  pub ended : Served
  pub place : slice_get ends number ≡ Some ended
  pub failed : fault_of ended ≡ Some stop.Net

-- what the first n give: none was not done; or one failed, and none gives a reason
abbrev pub AreSoFar : List Served → ℕ → Result Unit Stop → Type 0
AreSoFar ends n (Ok u) = (i : ℕ) (s : Served) → i < n → slice_get ends i ≡ Some s → fault_of s ≡ None
AreSoFar ends n (Err why) = (why ≡ stop.Net) × OneFailed ends × ((i : ℕ) (s : Served) → i < n → slice_get ends i ≡ Some s → GivesNoReason s)

module _ (ends : List Served) (n : ℕ) where
  reasons : (outcome : Result Unit Stop) → AreSoFar ends n outcome → (i : ℕ) (s : Served) → i < n → slice_get ends i ≡ Some s → GivesNoReason s
  reasons (Ok u) far i s low at = inl (far i s low at)
  reasons (Err why) far i s low at = far.2 i s low at

  module _ (outcome : Result Unit Stop) (s : Served) (far : AreSoFar ends n outcome) (here : slice_get ends n ≡ Some s) where
    same : (x : Served) → slice_get ends n ≡ Some x → x ≡ s
    same x at = let e : Some x ≡ Some s = sym at ∙ here in cc

    -- one more gives no reason
    more : GivesNoReason s → (i : ℕ) (x : Served) → i < n + 1 → slice_get ends i ≡ Some x → GivesNoReason x
    more none i x low =
        below_more (λ k. (x : Served) → slice_get ends k ≡ Some x → GivesNoReason x) n (λ k less x at. reasons outcome far k x less at)
        (λ x at. subst GivesNoReason (sym (same x at)) none) i low x

    -- one more was not done
    pub one_failed : fault_of s ≡ Some stop.Net → AreSoFar ends (n + 1) (Err stop.Net)
    one_failed failed = (refl, record { number = n; ended = s; place = here; failed = failed }, more (inr failed))

    -- it gives the first reason
    pub first_reason : (why : Stop) → fault_of s ≡ Some why → why ≢ stop.Net → AreEndings ends (Err why)
    first_reason why reason own = inl (record { number = n; ended = s; place = here; reason = reason; is_own = own; before = reasons outcome far })

  -- one more was done
  pub one_done : (outcome : Result Unit Stop) (s : Served) → AreSoFar ends n outcome → slice_get ends n ≡ Some s → fault_of s ≡ None → AreSoFar ends (n + 1) outcome
  one_done (Ok u) s far here none = λ i x low.
      below_more (λ k. (x : Served) → slice_get ends k ≡ Some x → fault_of x ≡ None) n (λ k less x at. far k x less at)
      (λ x at. ap fault_of (same (Ok u) s far here x at) ∙ none) i low x
  one_done (Err why) s far here none =
      (far.0, far.1, more (Err why) s far here (inl none))

  was_done : (s : Served) → fault_of s ≡ None → s ≡ served.Ended
  was_done served.Ended none = refl
  was_done served.Net none = absurd (let e : Some stop.Net ≡ None = none in cc)
  was_done served.Memory none = absurd (let e : Some stop.Memory ≡ None = none in cc)
  was_done (served.File iface written) none = absurd (let e : Some (stop.File iface written) ≡ None = none in cc)
  was_done (served.Stalled polls) none = absurd (let e : Some (stop.Stalled polls) ≡ None = none in cc)

  -- all were looked at
  pub all_looked_at : (outcome : Result Unit Stop) → n ≡ length ends → AreSoFar ends n outcome → AreEndings ends outcome
  all_looked_at (Ok u) all far =
      All-from_get_or (λ s. s ≡ served.Ended) ends served.Ended (λ i low.
      was_done (get_or ends i served.Ended) (far i (get_or ends i served.Ended) (omega (arith, low, all)) (slice_get-get_or ends i served.Ended low)))
  all_looked_at (Err why) all far = inr (
    far.0,
    record {
      number = far.1.number;
      ended = far.1.ended;
      place = far.1.place;
      failed = far.1.failed;
      all = All-from_get_or GivesNoReason ends served.Ended (λ i low. far.2 i (get_or ends i served.Ended) (omega (arith, low, all)) (slice_get-get_or ends i served.Ended low));
    },
  )

-- where all replicas were done, the files of all are counted
pub all_counted : {S : Type 0} (seen : S → SinkSeen) (made : Option Files) (ends : List (SideEnd S)) → All (λ s. s ≡ served.Ended) (map (λ e. e.served) ends)
    → All (StillCounts seen made) ends → All (λ e. AreCounted seen made e.files.files.items) ends
all_counted seen made ends ended still k d low =
    let same = length-map ends (λ e. e.served) in
    still k d low (sym (get_or-map (λ e. e.served) ends k d d.served low) ∙ ended k d.served (omega (arith, low, same)))
