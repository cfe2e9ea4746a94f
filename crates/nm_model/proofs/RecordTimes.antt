-- The times of the records of a run, of the whole network or of a part.
use Rattle.std.proofs.Common.{◌≡◌, ℕ, zero, suc, ◌<◌, Bool, true, [], All, Option, Some, None, refl, arith}
use Rattle.std.proofs.lemmas.Bool.Decides.{nat_tests}
use Rattle.std.proofs.lemmas.List.Elements.{All-append, All-cons, All-nil}
use Rattle.nm_base.specs.declared.key.Key.{Key}
use Rattle.nm_base.specs.declared.key.Place.{Place}
use Rattle.nm_base.specs.declared.event.Event.{Event}
use Rattle.nm_model.specs.EventList.{is_before}
use Rattle.nm_model.specs.Network.{Net}
use Rattle.nm_model.specs.Run.{State, effect, in_record, one_list, out_record, pends_before, run, start, step_at}

in_at : {P : Type 0} (t time : ℕ) (o : Option (ℕ × P)) → time < t → All (λ r. r.time < t) (in_record time o)
in_at t time None h = All-nil (λ r. r.time < t)
in_at t time (Some a) h = All-cons (λ r. r.time < t) _ [] h (All-nil (λ r. r.time < t))

out_at : {P : Type 0} (t time : ℕ) (o : Option (ℕ × P)) → time < t → All (λ r. r.time < t) (out_record time o)
out_at t time None h = All-nil (λ r. r.time < t)
out_at t time (Some a) h = All-cons (λ r. r.time < t) _ [] h (All-nil (λ r. r.time < t))

module _ {P N : Type 0} (net : Net P N) (here : Place → Bool) (t : ℕ) where
  step_before : (s : State P N) (o : Option (Key × Event P)) → is_before t o ≡ true → All (λ r. r.time < t) s.records → All (λ r. r.time < t) (step_at net here s o).records
  step_before s None h g = g
  step_before s (Some e) h g =
      let early : e.0.time < t = grind (arith, nat_tests, h) in
      let does = effect net s.node s.port e.0.time e.0.number e.1 in
      All-append (λ r. r.time < t) s.records _ g (All-append (λ r. r.time < t) (in_record e.0.time does.came) _ (in_at t e.0.time does.came early) (out_at t e.0.time does.transmission early))

  -- events before a time make records before it
  pub run_before : (s : State P N) (n : ℕ) → s.records ≡ [] → ((m : ℕ) → m < n → pends_before t (run net here m s) ≡ true) → All (λ r. r.time < t) (run net here n s).records
  run_before s zero none h = rw none (All-nil (λ r. r.time < t))
  run_before s (suc n) none h = step_before (run net here n s) _ (h n (omega arith)) (run_before s n none (λ m l. h m (omega arith)))

-- so of the whole network
pub records_before : {P N : Type 0} (net : Net P N) (t n : ℕ) → ((m : ℕ) → m < n → pends_before t (one_list net m) ≡ true) → All (λ r. r.time < t) (one_list net n).records
records_before net t n h = run_before net (λ q. true) t (start net (λ q. true) []) n refl h
