-- A run whose records are shown: what it has recorded stays at the front of the whole trace.
use Rattle.std.proofs.Common.{◌≡◌, ℕ, zero, suc, ◌<◌, ◌≤◌, Bool, true, false, List, [], ◌++◌, drop, length, take, Option, Some, None, Result, Ok, Err, refl, sym, ◌∙◌, ap, subst, arith, ⊎_elim, append-nil, append_assoc}
use Rattle.std.proofs.Math.Seq.{take-append_seam}
use Rattle.std.proofs.lemmas.Bool.{cases_lt}
use Rattle.std.proofs.lemmas.List.{drop-append-le, drop_all}
use Rattle.std.specs.FinMap.{FinMap}
use Rattle.nm_base.specs.declared.event.Event.{Event}
use Rattle.nm_base.specs.declared.key.Key.{Key}
use Rattle.nm_base.specs.declared.record.Record.{Record}
use Rattle.nm_base.specs.Key.{key_cmp}
use Rattle.std.specs.declared.alloc.AllocError.{AllocError}
use Rattle.nm_topology.specs.TopologyValue.{TopologyValue}
use Rattle.nm_model.specs.Before.{IsBefore}
use Rattle.nm_model.specs.EventList.{least}
use Rattle.nm_model.specs.Network.{Net}
use Rattle.nm_model.specs.Run.{State, one_list, pends_before, step_at}
use Rattle.nm_sim.specs.Network.{net_of}
use Rattle.nm_sim.specs.Part.{Advanced, PartValue, Represents}
use Rattle.nm_sim.specs.Records.{cut}
use Rattle.nm_sim.specs.Trace.{IsTraceBefore}
use Rattle.nm_sim.specs.Tracing.{IsTracing, ShowsAt}
use Rattle.nm_sim.proofs.Cuts.{cut-append}

module _ {P N : Type 0} (net : Net P N) where
  stays_in_step : (s : State P N) (o : Option (Key × Event P)) → (more : List (Record P)) × ((step_at net (λ q. true) s o).records ≡ s.records ++ more)
  stays_in_step s None = ([], sym (append-nil s.records))
  stays_in_step s (Some e) = (_, refl)

  -- the records of the first n events are the first of those of more events
  records_stay : (n m : ℕ) → n ≤ m → (more : List (Record P)) × ((one_list net m).records ≡ (one_list net n).records ++ more)
  records_stay n zero h = let same : n ≡ zero = omega (arith, h) in subst (λ k. (more : List (Record P)) × ((one_list net zero).records ≡ (one_list net k).records ++ more)) (sym same) ([], sym (append-nil (one_list net zero).records))
  records_stay n (suc m) h = ⊎_elim
      (λ (l : m < n). let same : n ≡ suc m = omega (arith, l, h) in subst (λ k. (more : List (Record P)) × ((one_list net (suc m)).records ≡ (one_list net k).records ++ more)) (sym same) ([], sym (append-nil (one_list net (suc m)).records)))
      (λ (l : n ≤ m).
      let before = records_stay n m l in
      let after = stays_in_step (one_list net m) (least (one_list net m).pending) in
      (before.0 ++ after.0, after.1 ∙ ap (λ r. r ++ after.0) before.1 ∙ append_assoc (one_list net n).records before.0 after.0))
      (cases_lt m n)

module _ {L : Type 0} (pending : L → FinMap key_cmp (Event (List ℕ))) (t : TopologyValue) (p : PartValue L) (tracing : IsTracing pending t p) where
  -- the events so far are no more than those of the whole trace
  no_more : (m : ℕ) → IsBefore (net_of t) t.stop m → tracing.events ≤ m
  no_more m h = ⊎_elim
      (λ (l : m < tracing.events). let e : true ≡ false = sym (tracing.early m l) ∙ h.over in cc)
      (λ (l : tracing.events ≤ m). l)
      (cases_lt m tracing.events)

  whole : (records : List (Record (List ℕ))) → IsTraceBefore t t.stop records → (m : ℕ) × IsBefore (net_of t) t.stop m × (records ≡ (one_list (net_of t) m).records)
  whole records trace = (trace.0, subst (λ b. IsBefore (net_of t) b trace.0) (omega arith) trace.1, trace.2)

  -- what was recorded stands at the front of the trace
  pub front : (records : List (Record (List ℕ))) → IsTraceBefore t t.stop records → (rest : List (Record (List ℕ))) × (records ≡ (one_list (net_of t) tracing.events).records ++ rest)
  front records trace =
      let w = whole records trace in
      let more = records_stay (net_of t) tracing.events w.0 (no_more w.0 w.1) in
      (more.0, w.2 ∙ more.1)

  -- what is kept comes next in it
  pub shown : (records : List (Record (List ℕ))) → IsTraceBefore t t.stop records → p.records.kept ≡ take (length p.records.kept) (drop p.records.keeping.handed (cut p.records.keeping.wanted records))
  shown records trace =
      let w = p.records.keeping.wanted in
      let handed = p.records.keeping.handed in
      let made = cut w (one_list (net_of t) tracing.events).records in
      let f = front records trace in
      let rest = cut w f.0 in
      let few = tracing.represents.records.few in
      let kept = tracing.represents.records.kept in
      let left : drop handed (cut w records) ≡ drop handed made ++ rest = ap (λ l. drop handed (cut w l)) f.1
      ∙ ap (drop handed) (cut-append w (one_list (net_of t) tracing.events).records f.0) ∙ drop-append-le handed made rest few in
      kept ∙ sym (take-append_seam (drop handed made) rest) ∙ ap (λ l. take (length l) (drop handed made ++ rest)) (sym kept) ∙ ap (take (length p.records.kept)) (sym left)

  -- one more event
  pub tracing_on : (q : PartValue L) → Advanced pending t (record { part = None; state = one_list (net_of t) tracing.events; until = t.stop }) p q (Ok true) → IsTracing pending t q
  tracing_on q done = record {
    events = suc tracing.events;
    early = λ m l. ⊎_elim
        (λ (h : m < tracing.events). tracing.early m h)
        (λ (h : tracing.events ≤ m). let same : tracing.events ≡ m = omega (arith, h, l) in subst (λ k. pends_before t.stop (one_list (net_of t) k) ≡ true) same done.1)
        (cases_lt m tracing.events);
    represents = done.0;
  }

  -- where nothing is to come before stop, what was recorded is the trace
  pub all_made : ((m n : ℕ) → IsBefore (net_of t) t.stop m → IsBefore (net_of t) t.stop n → m ≡ n) → pends_before t.stop (one_list (net_of t) tracing.events) ≡ false
      → (records : List (Record (List ℕ))) → IsTraceBefore t t.stop records → (one_list (net_of t) tracing.events).records ≡ records
  all_made once over records trace =
      let w = whole records trace in
      let same : w.0 ≡ tracing.events = once w.0 tracing.events w.1 (record { over = over; first = tracing.early }) in
      ap (λ n. (one_list (net_of t) n).records) (sym same) ∙ sym w.2

-- the run after one event, if there was one
module _ {L : Type 0} (pending : L → FinMap key_cmp (Event (List ℕ))) (t : TopologyValue) (p q : PartValue L) (tracing : IsTracing pending t p) where
  nothing_kept : (q : PartValue L) (n : ℕ) → p.records.keeping.handed ≡ length (cut p.records.keeping.wanted (one_list (net_of t) n).records) → q.records.keeping ≡ p.records.keeping
      → Represents pending t None q (one_list (net_of t) n) → q.records.kept ≡ []
  nothing_kept q n all same h =
      let trace = (one_list (net_of t) n).records in
      let made = cut p.records.keeping.wanted trace in
      h.records.kept ∙ ap (λ k. drop k.handed (cut k.wanted trace)) same ∙ ap (λ k. drop k made) all ∙ drop_all (length made) made (omega arith)

  pub tracing_after : (outcome : Result Bool AllocError) → Advanced pending t (record { part = None; state = one_list (net_of t) tracing.events; until = t.stop }) p q outcome → IsTracing pending t q
  tracing_after (Ok false) done = subst (IsTracing pending t) (sym done.0) tracing
  tracing_after (Ok true) done = tracing_on pending t p tracing q done
  tracing_after (Err e) done = record { events = tracing.events; early = tracing.early; represents = done.0 }

  -- what it shows then, where all that it had recorded was let go
  pub shows_after : ((m n : ℕ) → IsBefore (net_of t) t.stop m → IsBefore (net_of t) t.stop n → m ≡ n) → p.records.keeping.handed ≡ length (cut p.records.keeping.wanted (one_list (net_of t) tracing.events).records)
      → q.records.keeping ≡ p.records.keeping → (outcome : Result Bool AllocError) → Advanced pending t (record { part = None; state = one_list (net_of t) tracing.events; until = t.stop }) p q outcome
      → (records : List (Record (List ℕ))) → IsTraceBefore t t.stop records → ShowsAt (cut p.records.keeping.wanted records) outcome q.records
  shows_after once all same (Ok true) done records trace =
      subst (λ w. ShowsAt (cut w records) (Ok true) q.records) (ap (λ k. k.wanted) same) (shown pending t q (tracing_after (Ok true) done) records trace)
  shows_after once all same (Ok false) done records trace = (
    nothing_kept q tracing.events all same (subst (λ x. Represents pending t None x (one_list (net_of t) tracing.events)) (sym done.0) tracing.represents),
    ap (λ k. k.handed) same ∙ all ∙ ap (λ l. length (cut p.records.keeping.wanted l)) (all_made pending t p tracing once done.1 records trace),
  )
  shows_after once all same (Err e) done records trace = nothing_kept q tracing.events all same done.0
