-- What an interface has never falls.
use Rattle.std.proofs.Common.{◌≡◌, ℕ, zero, suc, ◌+◌, ◌-◌, ◌≤◌, ◌<◌, ◌==◌, min, ltb, true≢false, Bool, true, false, cond, List, [], ◌∷◌, ◌++◌, length, sum_by, Option, Some, None, refl, sym, ap, subst, ◌∙◌, arith, ⊎_elim, append-nil, length-append}
use Rattle.std.specs.Int.{sum_through}
use Rattle.std.proofs.lemmas.Bool.Decides.{nat_tests}
use Rattle.std.proofs.lemmas.List.Sums.{sum_by-append}
use Rattle.std.proofs.lemmas.Bool.{cases_lt}
use Rattle.std.proofs.Math.Nat.{min-le_right, min-eq_left}
use Rattle.nm_base.specs.declared.event.Event.{Event}
use Rattle.nm_base.specs.declared.event.Event.TheVariants.{Completion, Delivery}
use Rattle.nm_base.specs.declared.key.Key.{Key}
use Rattle.nm_base.specs.declared.event.Origin.TheVariants.{Arrival, Source}
use Rattle.nm_base.specs.declared.record.Record.{Record}
use Rattle.nm_model.specs.Before.{IsBefore}
use Rattle.nm_model.specs.EventList.{is_before, least}
use Rattle.nm_model.specs.Lists.{keep_where, set_at}
use Rattle.nm_model.specs.Network.{Net}
use Rattle.nm_model.specs.Port.{Busy, Port, completed, offered}
use Rattle.nm_model.specs.Run.{State, effect, one_list, sent_on, step_at, turned}
use Rattle.nm_model.proofs.ListLemmas.{kept-append}
use Rattle.nm_topology.specs.TopologyValue.{TopologyValue}
use Rattle.nm_sim.specs.Network.{net_of}
use Rattle.nm_forward.specs.State.{NodeStateValue}
use Rattle.nm_sim.specs.Traffic.{amount_of, came_to, went_from}
use Rattle.nm_series.specs.Rows.{had}
use Rattle.nm_series.specs.Steps.{step_time}
use Rattle.nm_laws.specs.Series.{AddUp, AllAddUp, BeginAt, drops, octets_in, octets_out, packets_in, packets_out}

module _ {P N : Type 0} (net : Net P N) where
  -- one step more records what the steps before recorded, and maybe more
  step_more : (s : State P N) (o : Option (Key × Event P)) → (more : List (Record P)) × ((step_at net (λ q. true) s o).records ≡ s.records ++ more)
  step_more s None = ([], sym (append-nil s.records))
  step_more s (Some e) = (_, refl)

  -- a port's count of dropped packets does not fall
  offered_drops : (room : List P → P → Bool) (tx : P → ℕ) (now : ℕ) (x : P) (d : ℕ) (b : Option (Busy P)) → d ≤ (offered room tx now x d b).0.dropped
  offered_drops room tx now x d None = omega arith
  offered_drops room tx now x d (Some b) = go (room b.waiting x)
    where
      go : (z : Bool) → d ≤ (cond {A = Port P × Option P} z (record { busy = Some (record { completes = b.completes; waiting = b.waiting ++ x ∷ [] }); dropped = d }, None)
          (record { busy = Some b; dropped = d + 1 }, None)).0.dropped
      go true = omega arith
      go false = omega arith

  completed_drops : (tx : P → ℕ) (now d : ℕ) (b : Option (Busy P)) → d ≤ (completed tx now d b).0.dropped
  completed_drops tx now d None = omega arith
  completed_drops tx now d (Some b) = go b.waiting
    where
      go : (l : List P) → d ≤ (completed tx now d (Some (record { completes = b.completes; waiting = l }))).0.dropped
      go [] = omega arith
      go (x ∷ l) = omega arith

  -- an event's turn of a port
  abbrev Keeps : (ℕ → Port P) → Option (ℕ × Port P) → Type 0
  Keeps ports None = Unit {0}
  Keeps ports (Some w) = (ports w.0).dropped ≤ w.1.dropped

  sent_keeps : (ports : ℕ → Port P) (time : ℕ) (came : Option (ℕ × P)) (n : N) (sent : Option (ℕ × P)) (follows : Option (ℕ × ℕ × P)) → Keeps ports (sent_on net ports time came n sent follows).turn
  sent_keeps ports time came n None follows = tt
  sent_keeps ports time came n (Some s) follows = offered_drops (net.room s.0) (net.tx s.0) time s.1 (ports s.0).dropped (ports s.0).busy

  effect_keeps : (nodes : ℕ → N) (ports : ℕ → Port P) (time number : ℕ) (e : Event P) → Keeps ports (effect net nodes ports time number e).turn
  effect_keeps nodes ports time number (Delivery (Arrival i) x) = sent_keeps ports time _ _ _ _
  effect_keeps nodes ports time number (Delivery (Source j) x) = sent_keeps ports time _ _ _ _
  effect_keeps nodes ports time number (Completion i) = completed_drops (net.tx i) time (ports i).dropped (ports i).busy

  set_keeps : (ports : ℕ → Port P) (j : ℕ) (w : Port P) (i : ℕ) → (ports j).dropped ≤ w.dropped → (ports i).dropped ≤ (set_at ports j w i).dropped
  unfolding set_at
  set_keeps ports j w i h = go (i == j) refl
    where
      go : (z : Bool) → (i == j) ≡ z → (ports i).dropped ≤ (cond z w (ports i)).dropped
      go true e = let same : j ≡ i = grind (arith, nat_tests, e) in subst (λ k. (ports k).dropped ≤ w.dropped) same h
      go false e = omega arith

  turned_keeps : (ports : ℕ → Port P) (turn : Option (ℕ × Port P)) (i : ℕ) → Keeps ports turn → (ports i).dropped ≤ (turned ports turn i).dropped
  turned_keeps ports None i h = omega arith
  turned_keeps ports (Some w) i h = set_keeps ports w.0 w.1 i h

  step_drops : (s : State P N) (o : Option (Key × Event P)) (i : ℕ) → (s.port i).dropped ≤ ((step_at net (λ q. true) s o).port i).dropped
  step_drops s None i = omega arith
  step_drops s (Some e) i = turned_keeps s.port _ i (effect_keeps s.node s.port e.0.time e.0.number e.1)

-- the lesser of what is later and a limit is not earlier
min_over : (a more limit : ℕ) → a ≤ limit → a ≤ min (a + more) limit
min_over a more limit l = omega (arith, l)

-- what is before a time is before a later one
stays_before : {X : Type 0} (o : Option (Key × X)) (t u : ℕ) → t ≤ u → is_before t o ≡ true → is_before u o ≡ true
stays_before None t u l h = h
stays_before (Some e) t u l h = grind (arith, nat_tests, l, h)

none_at_begin : {X : Type 0} (o : Option (Key × X)) → is_before 0 o ≡ true → false ≡ true
none_at_begin None h = h
none_at_begin (Some e) h = grind (arith, nat_tests, h)

module _ {P N : Type 0} (net : Net P N) where
  -- no fewer events are before a later time
  later_has_more : (t u n m : ℕ) → t ≤ u → IsBefore net t n → IsBefore net u m → n ≤ m
  later_has_more t u n m l a b = ⊎_elim
      (λ (o : m < n). absurd (true≢false (sym (stays_before (least (one_list net m).pending) t u l (a.first m o)) ∙ b.over)))
      (λ (o : n ≤ m). o)
      (cases_lt m n)

  -- and none before the begin of the run
  none_before_begin : (n : ℕ) → IsBefore net 0 n → n ≡ 0
  none_before_begin zero a = refl
  none_before_begin (suc n) a = absurd (true≢false (sym (none_at_begin (least (one_list net 0).pending) (a.first 0 (omega arith)))))

within_stop : (step stop k : ℕ) → step_time step stop k ≤ stop
within_stop step stop zero = omega arith
within_stop step stop (suc k) = min-le_right (step_time step stop k + step) stop

steps_follow : (step stop k : ℕ) → step_time step stop k ≤ step_time step stop (suc k)
steps_follow step stop k = let w = within_stop step stop k in min_over (step_time step stop k) step stop w

-- a number that never falls from one event to the next does not fall over more of them
rises_over : (f : ℕ → ℕ) → ((n : ℕ) → f n ≤ f (suc n)) → (n m : ℕ) → n ≤ m → f n ≤ f m
rises_over f h n zero l = let same : n ≡ zero = omega (arith, l) in subst (λ k. f n ≤ f k) same (omega arith)
rises_over f h n (suc m) l = ⊎_elim
    (λ (o : m < n). let same : n ≡ suc m = omega (arith, o, l) in subst (λ k. f n ≤ f k) same (omega arith))
    (λ (o : n ≤ m). let a = rises_over f h n m o in let b = h m in omega (arith, a, b))
    (cases_lt m n)

-- what is added in each step is all together what there is at the end, where there was nothing at the begin
adds_up : (total : ℕ → ℕ) → ((k : ℕ) → total k ≤ total (suc k)) → total 0 ≡ 0 → (last : ℕ) → sum_through (λ k. total (suc k) - total k) last ≡ total (suc last)
adds_up total h none zero = omega (arith, none)
adds_up total h none (suc n) =
    let more = h (suc n) in
    ap (λ x. x + (total (suc (suc n)) - total (suc n))) (adds_up total h none n) ∙ omega (arith, more)

module _ (net : Net (List ℕ) NodeStateValue) (i : ℕ) where
  packets_grow : (f : Record (List ℕ) → Bool) (n : ℕ) → (amount_of f (one_list net n).records).packets ≤ (amount_of f (one_list net (suc n)).records).packets
  packets_grow f n =
      let s = one_list net n in
      let m = step_more net s (least s.pending) in
      let e = ap (λ l. length (keep_where f l)) m.1 ∙ ap length (kept-append f s.records m.0) ∙ length-append (keep_where f s.records) (keep_where f m.0) in
      omega (arith, e)

  octets_grow : (f : Record (List ℕ) → Bool) (n : ℕ) → (amount_of f (one_list net n).records).octets ≤ (amount_of f (one_list net (suc n)).records).octets
  octets_grow f n =
      let s = one_list net n in
      let m = step_more net s (least s.pending) in
      let size = λ (r : Record (List ℕ)). length r.packet in
      let e = ap (λ l. sum_by size (keep_where f l)) m.1 ∙ ap (sum_by size) (kept-append f s.records m.0) ∙ sum_by-append size (keep_where f s.records) (keep_where f m.0) in
      omega (arith, e)

  drops_grow : (n : ℕ) → (had i (one_list net n)).dropped ≤ (had i (one_list net (suc n))).dropped
  drops_grow n = let s = one_list net n in let d = step_drops net s (least s.pending) i in omega (arith, d)

module _ (t : TopologyValue) (step : ℕ) (events : ℕ → ℕ) (begins : BeginAt t events step) where
  rises : (k : ℕ) → events k ≤ events (suc k)
  rises k = later_has_more (net_of t) (step_time step t.stop k) (step_time step t.stop (suc k)) (events k) (events (suc k)) (steps_follow step t.stop k) (begins k) (begins (suc k))

  -- what never falls from one event to the next, and is nothing at the begin, adds up over steps
  over_steps : (f : ℕ → ℕ) → ((n : ℕ) → f n ≤ f (suc n)) → f 0 ≡ 0 → (last : ℕ) → sum_through (λ k. f (events (suc k)) - f (events k)) last ≡ f (events (suc last))
  over_steps f h none last = adds_up (λ k. f (events k)) (λ k. rises_over f h (events k) (events (suc k)) (rises k)) (ap f (none_before_begin (net_of t) (events 0) (begins 0)) ∙ none) last

  pub came_add : AllAddUp t events packets_in
  came_add i = over_steps (λ n. packets_in (had i (one_list (net_of t) n))) (packets_grow (net_of t) i (came_to i)) refl

  pub octets_came_add : AllAddUp t events octets_in
  octets_came_add i = over_steps (λ n. octets_in (had i (one_list (net_of t) n))) (octets_grow (net_of t) i (came_to i)) refl

  pub went_add : AllAddUp t events packets_out
  went_add i = over_steps (λ n. packets_out (had i (one_list (net_of t) n))) (packets_grow (net_of t) i (went_from i)) refl

  pub octets_went_add : AllAddUp t events octets_out
  octets_went_add i = over_steps (λ n. octets_out (had i (one_list (net_of t) n))) (octets_grow (net_of t) i (went_from i)) refl

  pub dropped_add : AllAddUp t events drops
  dropped_add i = over_steps (λ n. drops (had i (one_list (net_of t) n))) (drops_grow (net_of t) i) refl
