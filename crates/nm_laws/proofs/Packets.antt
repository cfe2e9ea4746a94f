-- What holds of the packets of sources, and of what a node sends where it holds of what arrived, holds of all packets of a run.
use Rattle.std.proofs.Common.{◌≡◌, ◌⊎◌, inl, inr, ℕ, zero, suc, ◌+◌, Bool, true, false, cond, ◌==◌, All, List, [], ◌∷◌, ◌++◌, length, Option, Some, None, refl, sym, ap, ◌∙◌, subst, arith, ⊎_elim}
use Rattle.std.proofs.lemmas.List.Elements.{All-append, All-cons, All-head, All-nil, All-tail}
use Rattle.std.specs.FinMap.{get}
use Rattle.nm_base.specs.declared.key.Place.TheVariants.{Fire}
use Rattle.nm_base.specs.declared.key.Key.{Key}
use Rattle.nm_base.specs.declared.event.Event.{Event}
use Rattle.nm_base.specs.declared.event.Event.TheVariants.{Delivery, Completion}
use Rattle.nm_base.specs.declared.event.Origin.TheVariants.{Arrival, Source}
use Rattle.nm_base.specs.declared.record.Dir.{Dir}
use Rattle.nm_base.specs.declared.record.Dir.TheVariants.{In, Out}
use Rattle.nm_base.specs.declared.record.Record.{Record}
use Rattle.nm_model.specs.EventList.{least}
use Rattle.nm_model.specs.Lists.{nth, set_at}
use Rattle.nm_model.specs.Network.{Net, IsNet}
use Rattle.nm_model.specs.Orderly.{IsOrderly}
use Rattle.nm_model.specs.Port.{Busy, Port, offered, completed, next_transmitting, waiting_of}
use Rattle.nm_model.specs.Run.{State, Effect, effect, at_iface, by_source, turned, turned_by, sent_on, in_record, out_record, step_at, one_list}
use Rattle.nm_model.specs.Trace.{passed}
use Rattle.nm_model.proofs.Keys.{key_at, least_has}
use Rattle.nm_model.proofs.Placed.{placed_of}
use Rattle.nm_model.proofs.ListLemmas.{nth_last, not_some, number_tied, same_number, set_here, set_there, some_inj}
use Rattle.nm_laws.specs.Offered.{answer_to}
use Rattle.nm_laws.proofs.Counting.{sent_came}
use Rattle.nm_laws.proofs.Passings.{all_nth, position}
use Rattle.nm_model.proofs.Traces.{passed-append}
use Rattle.nm_laws.proofs.Ports.{in_none}

module _ {A : Type 0} where
  nth_either : (xs ys : List A) (n : ℕ) (a : A) → nth (xs ++ ys) n ≡ Some a → (nth xs n ≡ Some a) ⊎ ((k : ℕ) × (nth ys k ≡ Some a))
  nth_either [] ys n a e = inr (n, e)
  nth_either (x ∷ xs) ys zero a e = inl e
  nth_either (x ∷ xs) ys (suc n) a e = nth_either xs ys n a e

module _ {P : Type 0} (Q : P → Type 0) where
  abbrev IsGood : ℕ × P → Type 0
  IsGood a = Q a.1

  module _ (room : List P → P → Bool) (tx : P → ℕ) (now : ℕ) where
    offered_good : (x : P) (d : ℕ) (q : Option (Busy P)) → Q x → All Q (waiting_of q)
        → All Q (waiting_of (offered room tx now x d q).0.busy) × ((y : P) → (offered room tx now x d q).1 ≡ Some y → Q y)
    offered_good x d None g w = (All-nil Q, λ y e. subst Q (some_inj x y e) g)
    offered_good x d (Some b) g w = go (room b.waiting x)
      where
        go : (z : Bool) → All Q (waiting_of (cond {A = Port P × Option P} z (record { busy = Some (record { completes = b.completes; waiting = b.waiting ++ x ∷ [] }); dropped = d }, None) (record { busy = Some b; dropped = d + 1 }, None)).0.busy)
            × ((y : P) → (cond {A = Port P × Option P} z (record { busy = Some (record { completes = b.completes; waiting = b.waiting ++ x ∷ [] }); dropped = d }, None) (record { busy = Some b; dropped = d + 1 }, None)).1 ≡ Some y → Q y)
        go true = (All-append Q b.waiting (x ∷ []) w (All-cons Q x [] g (All-nil Q)), λ y e. absurd (not_some y e))
        go false = (w, λ y e. absurd (not_some y e))

    next_good : (d : ℕ) (l : List P) → All Q l → All Q (waiting_of (next_transmitting tx now d l).0.busy) × ((y : P) → (next_transmitting tx now d l).1 ≡ Some y → Q y)
    next_good d [] w = (w, λ y e. absurd (not_some y e))
    next_good d (x ∷ l) w = (All-tail Q x l w, λ y e. subst Q (some_inj x y e) (All-head Q x l w))

    completed_good : (d : ℕ) (q : Option (Busy P)) → All Q (waiting_of q) → All Q (waiting_of (completed tx now d q).0.busy) × ((y : P) → (completed tx now d q).1 ≡ Some y → Q y)
    completed_good d None w = (w, λ y e. absurd (not_some y e))
    completed_good d (Some b) w = next_good d b.waiting w

  at_iface_good : (j : ℕ) (o : Option P) → ((y : P) → o ≡ Some y → Q y) → (s : ℕ × P) → at_iface j o ≡ Some s → Q s.1
  at_iface_good j None h s e = absurd (not_some s e)
  at_iface_good j (Some x) h s e = subst IsGood (some_inj (j, x) s e) (h x refl)

  out_good : (time i : ℕ) (o : Option (ℕ × P)) → ((s : ℕ × P) → o ≡ Some s → Q s.1) → All IsGood (passed Out i (out_record time o))
  out_good time i None h = All-nil IsGood
  out_good time i (Some s) h = go (i == s.0)
    where
      go : (z : Bool) → All IsGood (cond {A = List (ℕ × P)} z ((time, s.1) ∷ []) [])
      go true = All-cons IsGood (time, s.1) [] (h s refl) (All-nil IsGood)
      go false = All-nil IsGood

out_at : {P : Type 0} (time i : ℕ) (o : Option (ℕ × P)) (k : ℕ) (a : ℕ × P) → nth (passed Out i (out_record time o)) k ≡ Some a → a.0 ≡ time
out_at time i None k a e = absurd (not_some a e)
out_at {P} time i (Some s) k a e = go (i == s.0) k e
  where
    go : (z : Bool) (k : ℕ) → nth (cond {A = List (ℕ × P)} z ((time, s.1) ∷ []) []) k ≡ Some a → a.0 ≡ time
    go true zero e = ap (λ (z : ℕ × P). z.0) (sym (some_inj (time, s.1) a e))
    go true (suc k) e = absurd (not_some a e)
    go false k e = absurd (not_some a e)

out_in : {P : Type 0} (time i : ℕ) (o : Option (ℕ × P)) → passed In i (out_record time o) ≡ []
out_in time i None = refl
out_in time i (Some s) = refl

-- the arrivals at an interface are starts at its far end
abbrev pub Came : {P N : Type 0} → Net P N → State P N → Type 0
Came {P} net s = (i m t : ℕ) (x : P) → nth (passed In i s.records) m ≡ Some (t, x) → (u : ℕ) × (nth (passed Out (net.far_end i) s.records) m ≡ Some (u, x)) × (t ≡ u + net.tx (net.far_end i) x + net.delay (net.far_end i))

module _ {P N : Type 0} (net : Net P N) (Q : P → Type 0) where
  abbrev Waits : (ℕ → Port P) → Type 0
  Waits ports = (i : ℕ) → All Q (waiting_of (ports i).busy)

  abbrev GoodEffect : (ℕ → Port P) → Effect P N → Type 0
  GoodEffect ports e = Waits (turned ports e.turn) × ((s : ℕ × P) → e.transmission ≡ Some s → Q s.1)

  module _ (ports : ℕ → Port P) (w : Waits ports) (time : ℕ) (came : Option (ℕ × P)) (n : N) (follows : Option (ℕ × ℕ × P)) where
    turned_good : (j : ℕ) (r : Port P × Option P) → All Q (waiting_of r.0.busy) × ((y : P) → r.1 ≡ Some y → Q y) → GoodEffect ports (turned_by net came n j r follows)
    turned_good j r h = (
      (λ i. ⊎_elim
          (λ same. subst (λ (p : Port P). All Q (waiting_of p.busy)) (sym (ap (set_at ports j r.0) same ∙ set_here ports j r.0)) h.0)
          (λ other. subst (λ (p : Port P). All Q (waiting_of p.busy)) (sym (set_there ports j r.0 i other)) (w i))
          (same_number i j)),
      at_iface_good Q j r.1 h.1,
    )

    sent_good : (o : Option (ℕ × P)) → ((s : ℕ × P) → o ≡ Some s → Q s.1) → GoodEffect ports (sent_on net ports time came n o follows)
    sent_good None h = (w, λ s e. absurd (not_some s e))
    sent_good (Some s) h = turned_good s.0 (offered (net.room s.0) (net.tx s.0) time s.1 (ports s.0).dropped (ports s.0).busy)
        (offered_good Q (net.room s.0) (net.tx s.0) time s.1 (ports s.0).dropped (ports s.0).busy (h s refl) (w s.0))

  effect_good : (nodes : ℕ → N) (ports : ℕ → Port P) → Waits ports → (time : ℕ) (number : ℕ) (event : Event P)
      → ((s : ℕ × P) → answer_to net nodes event ≡ Some s → Q s.1) → GoodEffect ports (effect net nodes ports time number event)
  effect_good nodes ports w time number (Delivery (Arrival i) x) h = sent_good ports w time (Some (i, x)) _ None (net.react (net.owner i) (nodes (net.owner i)) (Arrival i) x).1 h
  effect_good nodes ports w time number (Delivery (Source j) x) h = sent_good ports w time None _ (by_source j (net.source j (suc number))) (net.react (net.source_node j) (nodes (net.source_node j)) (Source j) x).1 h
  effect_good nodes ports w time number (Completion i) h =
      turned_good ports w time None (nodes (net.owner i)) None i (completed (net.tx i) time (ports i).dropped (ports i).busy)
      (completed_good Q (net.room i) (net.tx i) time (ports i).dropped (ports i).busy (w i))

  -- what started and what waits
  record Good (s : State P N) : Type 0 where
    started : (i : ℕ) → All (IsGood Q) (passed Out i s.records)
    waits : Waits s.port

  module _ (ok : IsNet net)
      (arriving : (v : ℕ) (n : N) (i : ℕ) (x : P) (s : ℕ × P) → Q x → (net.react v n (Arrival i) x).1 ≡ Some s → Q s.1)
      (handing : (v : ℕ) (n : N) (j m t : ℕ) (x : P) (s : ℕ × P) → net.source j m ≡ Some (t, x) → (net.react v n (Source j) x).1 ≡ Some s → Q s.1) where
    module _ (s : State P N) (orderly : IsOrderly net (λ q. true) s) (g : Good s) (k : Key) where
      -- a packet that arrives started before
      came_good : (i : ℕ) (x : P) → Came net (step_at net (λ q. true) s (Some (k, Delivery (Arrival i) x))) → Q x
      came_good i x came =
          let does : Effect P N = effect net s.node s.port k.time k.number (Delivery (Arrival i) x) in
          let new : in_record k.time does.came ≡ record { time = k.time; iface = i; dir = In; packet = x } ∷ []
          = ap (in_record k.time) (sent_came net s.port k.time (Some (i, x)) _ (net.react (net.owner i) (s.node (net.owner i)) (Arrival i) x).1 None) in
          let arrivals : passed In i (s.records ++ (in_record k.time does.came ++ out_record k.time does.transmission)) ≡ passed In i s.records ++ (k.time, x) ∷ []
          = passed-append In i s.records (in_record k.time does.came ++ out_record k.time does.transmission)
          ∙ ap (λ l. passed In i s.records ++ l) (passed-append In i (in_record k.time does.came) (out_record k.time does.transmission) ∙ ap (λ l. passed In i l ++ passed In i (out_record k.time does.transmission)) new
          ∙ ap (λ l. passed In i (record { time = k.time; iface = i; dir = In; packet = x } ∷ []) ++ l) (out_in k.time i does.transmission)
          ∙ ap (λ b. cond {A = List (ℕ × P)} b ((k.time, x) ∷ []) [] ++ []) (number_tied i)) in
          let from = came i (length (passed In i s.records)) k.time x (ap (λ l. nth l (length (passed In i s.records))) arrivals ∙ nth_last (passed In i s.records) (k.time, x)) in
          let starts : passed Out (net.far_end i) (s.records ++ (in_record k.time does.came ++ out_record k.time does.transmission)) ≡ passed Out (net.far_end i) s.records ++ passed Out (net.far_end i) (out_record k.time does.transmission)
          = passed-append Out (net.far_end i) s.records (in_record k.time does.came ++ out_record k.time does.transmission)
          ∙ ap (λ l. passed Out (net.far_end i) s.records ++ l) (passed-append Out (net.far_end i) (in_record k.time does.came) (out_record k.time does.transmission) ∙ ap (λ l. l ++ passed Out (net.far_end i) (out_record k.time does.transmission)) (in_none k.time (net.far_end i) does.came)) in
          ⊎_elim
          (λ e. all_nth (IsGood Q) (passed Out (net.far_end i) s.records) (length (passed In i s.records)) (from.0, x) (g.started (net.far_end i)) e)
          (λ e. absurd (let at = out_at k.time (net.far_end i) does.transmission e.0 (from.0, x) e.1 in let takes = ok.takes_time (net.far_end i) x in let late = from.2 in omega arith))
          (nth_either (passed Out (net.far_end i) s.records) (passed Out (net.far_end i) (out_record k.time does.transmission)) (length (passed In i s.records)) (from.0, x) (ap (λ l. nth l (length (passed In i s.records))) (sym starts) ∙ from.1))

      answer_good : (event : Event P) → get s.pending k ≡ Some event → Came net (step_at net (λ q. true) s (Some (k, event)))
          → (a : ℕ × P) → answer_to net s.node event ≡ Some a → Q a.1
      answer_good (Delivery (Arrival i) x) there came a e = arriving (net.owner i) (s.node (net.owner i)) i x a (came_good i x came) e
      answer_good (Delivery (Source j) x) there came a e =
          let placed = placed_of net (λ q. true) s orderly k (Delivery (Source j) x) there in
          let o = orderly.source j k.time k.number (Delivery (Source j) x) (ap (get s.pending) (sym (key_at k (Fire j) placed)) ∙ there) in
          let same : x ≡ o.0 = let f = o.1 in cc in
          handing (net.source_node j) (s.node (net.source_node j)) j k.number k.time x a (o.2 ∙ ap (λ z. Some (k.time, z)) (sym same)) e
      answer_good (Completion i) there came a e = absurd (not_some a e)

    good_step : (s : State P N) → IsOrderly net (λ q. true) s → Good s → (o : Option (Key × Event P)) → least s.pending ≡ o → Came net (step_at net (λ q. true) s o) → Good (step_at net (λ q. true) s o)
    good_step s orderly g None m came = g
    good_step s orderly g (Some e) m came =
        let does : Effect P N = effect net s.node s.port e.0.time e.0.number e.1 in
        let h = effect_good s.node s.port g.waits e.0.time e.0.number e.1
        (answer_good s orderly g e.0 e.1 (least_has s.pending e m) came) in
        record {
          started = λ i. subst (All (IsGood Q))
              (sym (passed-append Out i s.records (in_record e.0.time does.came ++ out_record e.0.time does.transmission)
              ∙ ap (λ l. passed Out i s.records ++ l) (passed-append Out i (in_record e.0.time does.came) (out_record e.0.time does.transmission) ∙ ap (λ l. l ++ passed Out i (out_record e.0.time does.transmission)) (in_none e.0.time i does.came))))
              (All-append (IsGood Q) (passed Out i s.records) (passed Out i (out_record e.0.time does.transmission)) (g.started i) (out_good Q e.0.time i does.transmission h.1));
          waits = h.0;
        }

    good : ((n : ℕ) → IsOrderly net (λ q. true) (one_list net n)) → ((n : ℕ) → Came net (one_list net n)) → (n : ℕ) → Good (one_list net n)
    good orderly came zero = record { started = λ i. All-nil (IsGood Q); waits = λ i. All-nil Q }
    good orderly came (suc n) = good_step (one_list net n) (orderly n) (good orderly came n) (least (one_list net n).pending) refl (came (suc n))

    module _ (orderly : (n : ℕ) → IsOrderly net (λ q. true) (one_list net n)) (came : (n : ℕ) → Came net (one_list net n)) (n : ℕ) where
      started : (i m : ℕ) (a : ℕ × P) → nth (passed Out i (one_list net n).records) m ≡ Some a → Q a.1
      started i m a e = all_nth (IsGood Q) (passed Out i (one_list net n).records) m a ((good orderly came n).started i) e

      arrived : (i m : ℕ) (a : ℕ × P) → nth (passed In i (one_list net n).records) m ≡ Some a → Q a.1
      arrived i m a e = let f = came n i m a.0 a.1 e in started (net.far_end i) m (f.0, a.1) f.1

      -- the packet of each record
      pub recorded : (m : ℕ) (r : Record P) → nth (one_list net n).records m ≡ Some r → Q r.packet
      recorded m r e = go r.dir refl
        where
          go : (d : Dir) → r.dir ≡ d → Q r.packet
          go In f = let k = position In r.iface (one_list net n).records m r e f refl in arrived r.iface k.0 (r.time, r.packet) k.1
          go Out f = let k = position Out r.iface (one_list net n).records m r e f refl in started r.iface k.0 (r.time, r.packet) k.1
