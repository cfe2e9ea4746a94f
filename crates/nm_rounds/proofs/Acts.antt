-- What a replica's act is in the model's world.
use Rattle.std.proofs.Common.{◌≡◌, ℕ, ◌+◌, ◌*◌, ◌-◌, ◌<◌, Bool, true, false, cond, List, length, slice_get, slice_set, get_or, Some, Ok, Err, refl, sym, ◌∙◌, ap, subst, arith}
use Rattle.std.proofs.lemmas.Option.{slice_get_read}
use Rattle.nm_topology.specs.TopologyValue.{TopologyValue}
use Rattle.nm_model.specs.Replica.{from_scratch, safe_time}
use Rattle.nm_model.specs.Run.{pends_before}
use Rattle.nm_model.specs.World as model
use Rattle.nm_sim.specs.Network.{net_of}
use Rattle.nm_book.specs.Book.{BookValue, is_replica, replica_of}
use Rattle.nm_book.specs.Running.{Runs}
use Rattle.nm_book.specs.declared.message.ChannelMessage.{ChannelMessage}
use Rattle.nm_book.specs.declared.running.Ran.TheVariants as ran
use Rattle.nm_rounds.specs.World.{IsReplicaOf, IsWorld, Steps, happens, outcome_of}
use Rattle.nm_rounds.specs.declared.step.StepAnswer.{StepAnswer}
use Rattle.nm_rounds.specs.declared.step.StepAnswer.TheVariants as answer
use Rattle.nm_rounds.specs.declared.step.WorldStep.{WorldStep}
use Rattle.nm_rounds.specs.declared.step.WorldStep.TheVariants as step
use Rattle.nm_rounds.specs.declared.world.Stop.TheVariants as stop
use Rattle.nm_rounds.proofs.Standing.{set_same, is_replica_is, there_is, put_book}

-- what is said of a book's own topology, partition and replica
pub moved : (Q : TopologyValue → ℕ → model.Replica (List ℕ) → Type 0) (t : TopologyValue) (p r : ℕ) (b : BookValue) (x : model.Replica (List ℕ)) → IsReplicaOf t p r b x
    → Q b.topology b.partition (replica_of b) → Q t p x
moved Q t p r b x is said = subst (λ z. Q t p z) is.replica (subst (λ z. Q t z (replica_of b)) is.partition (subst (λ z. Q z b.partition (replica_of b)) is.topology said))

module _ (t : TopologyValue) (w : model.World (List ℕ)) (s : WorldStep) (books : List BookValue) (bag : List ChannelMessage) where
  -- a step of the model
  pub step_done : (v : model.World (List ℕ)) (o : model.Outcome) (a : StepAnswer) → happens t w s ≡ (v, o) → outcome_of t a ≡ Some o → IsWorld t books bag v
      → Steps t w s (Ok a) books bag
  step_done v o a e says stands = (says ∙ ap (λ z. Some z.1) (sym e), subst (IsWorld t books bag) (ap (λ z. z.0) (sym e)) stands)

  -- it names what is not there
  pub step_names_nothing : happens t w s ≡ (w, model.NoSuch) → IsWorld t books bag w → Steps t w s (Err stop.NoSuch) books bag
  step_names_nothing e stands = (ap (λ z. z.1) e, stands)

-- the book at a replica's place
pub book_at : (t : TopologyValue) (books : List BookValue) (bag : List ChannelMessage) (w : model.World (List ℕ)) → IsWorld t books bag w → (p r : ℕ) → is_replica t p r ≡ true
    → (b : BookValue) → slice_get books (2 * p + r) ≡ Some b → IsReplicaOf t p r b (w.replica p r)
book_at t books bag w stands p r there b e = stands.replicas.each p r b (there_is t p r there).1 e

-- and as it is read there
pub book_read : (t : TopologyValue) (books : List BookValue) (bag : List ChannelMessage) (w : model.World (List ℕ)) → IsWorld t books bag w → (p r : ℕ) → is_replica t p r ≡ true
    → (place : ℕ) → place ≡ 2 * p + r → (b : BookValue) → b ≡ get_or books place b → IsReplicaOf t p r b (w.replica p r)
book_read t books bag w stands p r there place at b e =
    let within : 2 * p + r < length books = let n = stands.replicas.count in let h = (there_is t p r there).2 in omega (arith, n, h) in
    book_at t books bag w stands p r there b (slice_get_read books (length books) (2 * p + r) b refl within (e ∙ ap (λ z. get_or books z b) at))

-- A replica of the world.
module _ (t : TopologyValue) (w : model.World (List ℕ)) (p r : ℕ) where
  abbrev x : model.Replica (List ℕ)
  x = w.replica p r

  pub there_too : (v : Bool) → is_replica t p r ≡ v → model.is_replica (net_of t) p r ≡ v
  there_too v e = sym (is_replica_is t p r) ∙ e

  module _ (b c : BookValue) (is : IsReplicaOf t p r b x) where
    -- its book after a run
    pub ran_to : (k : ℕ) → c ≡ record b { events = k } → IsReplicaOf t p r c (record { knowledge = x.knowledge; ran = k })
    ran_to k e = subst (λ z. IsReplicaOf t p r z (record { knowledge = x.knowledge; ran = k })) (sym e) (record {
      topology = is.topology;
      partition = is.partition;
      number = is.number;
      replica = ap (λ z. record { knowledge = z.knowledge; ran = k }) is.replica;
      handed = is.handed;
      count = is.count;
      quiet = is.quiet;
    })

    module _ (there : is_replica t p r ≡ true) (limit : ℕ) where
      abbrev goes : ℕ → model.World (List ℕ)
      goes k = model.put_replica w p r (record { knowledge = x.knowledge; ran = k })

      happens_run : (k : ℕ) (o : model.Outcome) → k ≡ model.advance (net_of t) p x.knowledge limit x.ran
          → cond (pends_before (safe_time (net_of t) p x.knowledge) (from_scratch (net_of t) p x.knowledge k)) (model.Limit (k - x.ran)) (model.All (k - x.ran)) ≡ o
          → happens t w (step.Run p r limit) ≡ (goes k, o)
      happens_run k o e f =
          ap (λ z. cond z (model.runs (net_of t) w p r x (model.advance (net_of t) p x.knowledge limit x.ran)) (w, model.NoSuch)) (there_too true there)
          ∙ ap (model.runs (net_of t) w p r x) (sym e) ∙ ap (λ z. (goes k, z)) f

      -- it did all that is safe
      pub run_all : (n : ℕ) → Runs b c limit (ran.All n) → happens t w (step.Run p r limit) ≡ (goes c.events, model.All n)
      run_all n h =
          let went = h.run in
          let over = moved (λ t p x. pends_before (safe_time (net_of t) p x.knowledge) (from_scratch (net_of t) p x.knowledge c.events) ≡ false) t p r b x is went.2.over in
          let steps = moved (λ t p x. c.events ≡ model.advance (net_of t) p x.knowledge limit x.ran) t p r b x is went.1 in
          let many : c.events - x.ran ≡ n = let e = went.0 in let f = ap (λ z. z.ran) is.replica in omega (arith, e, f) in
          happens_run c.events (model.All n) steps (ap (λ z. cond z (model.Limit (c.events - x.ran)) (model.All (c.events - x.ran))) over ∙ ap model.All many)

      -- it did as much as was asked for
      pub run_some : (n : ℕ) → Runs b c limit (ran.Limit n) → happens t w (step.Run p r limit) ≡ (goes c.events, model.Limit n)
      run_some n h =
          let went = h.run in
          let over = moved (λ t p x. pends_before (safe_time (net_of t) p x.knowledge) (from_scratch (net_of t) p x.knowledge c.events) ≡ true) t p r b x is went.3 in
          let steps = moved (λ t p x. c.events ≡ model.advance (net_of t) p x.knowledge limit x.ran) t p r b x is went.1 in
          let many : c.events - x.ran ≡ n = let e = went.0 in let f = ap (λ z. z.ran) is.replica in omega (arith, e, f) in
          happens_run c.events (model.Limit n) steps (ap (λ z. cond z (model.Limit (c.events - x.ran)) (model.All (c.events - x.ran))) over ∙ ap model.Limit many)

    -- it did so many, and then memory was refused
    pub run_cut : is_replica t p r ≡ true → (limit n : ℕ) → Runs b c limit (ran.Memory n)
        → (n < limit) × ((happens t w (step.Run p r n)).0 ≡ model.put_replica w p r (record { knowledge = x.knowledge; ran = c.events }))
    run_cut there limit n h =
        let went = h.run in
        let steps = moved (λ t p x. c.events ≡ model.advance (net_of t) p x.knowledge n x.ran) t p r b x is went.1 in
        (went.2, ap (λ z. z.0) (happens_run there n c.events _ steps refl))

  -- there is no such replica
  pub no_replica_runs : (limit : ℕ) → is_replica t p r ≡ false → happens t w (step.Run p r limit) ≡ (w, model.NoSuch)
  no_replica_runs limit e = ap (λ z. cond z (model.runs (net_of t) w p r x (model.advance (net_of t) p x.knowledge limit x.ran)) (w, model.NoSuch)) (there_too false e)

-- A run of a replica that stands at this place.
module _ (t : TopologyValue) (books : List BookValue) (bag : List ChannelMessage) (w : model.World (List ℕ)) (stands : IsWorld t books bag w) (p r : ℕ) (there : is_replica t p r ≡ true)
    (place : ℕ) (at : place ≡ 2 * p + r) (b c : BookValue) (read : b ≡ get_or books place b) where
  abbrev is : IsReplicaOf t p r b (w.replica p r)
  is = book_read t books bag w stands p r there place at b read

  -- the world with another book there
  pub with_book : (y : model.Replica (List ℕ)) → IsReplicaOf t p r c y → IsWorld t (slice_set books place c) bag (model.put_replica w p r y)
  with_book y now = subst (λ z. IsWorld t (slice_set books z c) bag (model.put_replica w p r y)) (sym at) (put_book t books bag w stands p r there c y now)

  -- where the book is the same, so is the world
  pub unchanged_at : c ≡ b → IsWorld t (slice_set books place c) bag w
  unchanged_at e = subst (λ z. IsWorld t z bag w) (sym (set_same books place b read_here) ∙ ap (slice_set books place) (sym e)) stands
    where
      read_here : slice_get books place ≡ Some b
      read_here = slice_get_read books (length books) place b refl (let n = stands.replicas.count in let h = (there_is t p r there).2 in omega (arith, n, h, at)) read

  module _ (limit : ℕ) where
    pub all_steps : (n : ℕ) → Runs b c limit (ran.All n) → Steps t w (step.Run p r limit) (Ok (answer.All n)) (slice_set books place c) bag
    all_steps n h =
        step_done t w (step.Run p r limit) (slice_set books place c) bag _ (model.All n) (answer.All n) (run_all t w p r b c is there limit n h) refl
        (with_book _ (ran_to t w p r b c is c.events h.same))

    pub limit_steps : (n : ℕ) → Runs b c limit (ran.Limit n) → Steps t w (step.Run p r limit) (Ok (answer.Limit n)) (slice_set books place c) bag
    limit_steps n h =
        step_done t w (step.Run p r limit) (slice_set books place c) bag _ (model.Limit n) (answer.Limit n) (run_some t w p r b c is there limit n h) refl
        (with_book _ (ran_to t w p r b c is c.events h.same))

    pub cut_steps : (n : ℕ) → Runs b c limit (ran.Memory n) → Steps t w (step.Run p r limit) (Err stop.Memory) (slice_set books place c) bag
    cut_steps n h =
        let cut = run_cut t w p r b c is there limit n h in
        (n, cut.0, subst (IsWorld t (slice_set books place c) bag) (sym cut.1) (with_book _ (ran_to t w p r b c is c.events h.same)))
