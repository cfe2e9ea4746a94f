-- A count that each packet raises by so much at the node to which it comes: what it is after any number of events.
use Rattle.std.proofs.Common.{◌≡◌, ℕ, zero, suc, ◌+◌, ◌<◌, ◌≤◌, Bool, true, false, cond, ◌==◌, ◌&&◌, List, [], ◌∷◌, ◌++◌, length, Option, Some, None, refl, sym, ap, ◌∙◌, subst, arith, ⊎_elim, length-append}
use Rattle.nm_base.specs.Event.{event_place}
use Rattle.nm_base.specs.declared.key.Key.{Key}
use Rattle.nm_base.specs.declared.event.Event.{Event}
use Rattle.nm_base.specs.declared.event.Event.TheVariants.{Delivery, Completion}
use Rattle.nm_base.specs.declared.event.Origin.{Origin}
use Rattle.nm_base.specs.declared.event.Origin.TheVariants.{Arrival, Source}
use Rattle.nm_base.specs.declared.record.Dir.TheVariants.{In}
use Rattle.nm_base.specs.declared.record.Record.{Record}
use Rattle.nm_model.specs.EventList.{least}
use Rattle.nm_model.specs.Lists.{keep_where, set_at}
use Rattle.nm_model.specs.Network.{Net, IsNet, node_of}
use Rattle.nm_model.specs.Orderly.{IsOrderly}
use Rattle.nm_model.specs.Port.{Port, option_list}
use Rattle.nm_model.specs.Run.{State, Effect, by_source, effect, sent_on, in_record, out_record, step_at, one_list}
use Rattle.nm_model.specs.Trace.{same_dir}
use Rattle.nm_model.proofs.Keys.{least_has}
use Rattle.nm_model.proofs.Placed.{placed_of}
use Rattle.nm_model.proofs.ListLemmas.{same_number, number_apart, number_tied, set_here, set_there, kept-append}
use Rattle.nm_laws.specs.Offered.{answer_to, next_offer, offers, offered_by}
use Rattle.nm_laws.specs.Counted.{arrivals_at}

module _ {A : Type 0} where
  kept_twice : (p q : A → Bool) (l : List A) → keep_where q (keep_where p l) ≡ keep_where (λ x. p x && q x) l
  kept_twice p q [] = refl
  kept_twice p q (x ∷ l) = go (p x) (kept_twice p q l)
    where
      go : (b : Bool) → keep_where q (keep_where p l) ≡ keep_where (λ x. p x && q x) l
          → keep_where q (cond b (x ∷ keep_where p l) (keep_where p l)) ≡ cond (b && q x) (x ∷ keep_where (λ x. p x && q x) l) (keep_where (λ x. p x && q x) l)
      go true h = ap (λ k. cond (q x) (x ∷ k) k) h
      go false h = h

  kept_all : (l : List A) → keep_where (λ x. true) l ≡ l
  kept_all [] = refl
  kept_all (x ∷ l) = ap (λ k. x ∷ k) (kept_all l)

module _ {P N : Type 0} (net : Net P N) where
  -- the state of its node after an event, and the packet that arrived
  abbrev state_after : (ℕ → N) → Event P → N
  state_after nodes (Delivery (Arrival i) x) = (net.react (net.owner i) (nodes (net.owner i)) (Arrival i) x).0
  state_after nodes (Delivery (Source j) x) = (net.react (net.source_node j) (nodes (net.source_node j)) (Source j) x).0
  state_after nodes (Completion i) = nodes (net.owner i)

  module _ (ports : ℕ → Port P) (time : ℕ) where
    sent_state : (came : Option (ℕ × P)) (n : N) (o : Option (ℕ × P)) (follows : Option (ℕ × ℕ × P)) → (sent_on net ports time came n o follows).after ≡ n
    sent_state came n None follows = refl
    sent_state came n (Some s) follows = refl

    pub sent_came : (came : Option (ℕ × P)) (n : N) (o : Option (ℕ × P)) (follows : Option (ℕ × ℕ × P)) → (sent_on net ports time came n o follows).came ≡ came
    sent_came came n None follows = refl
    sent_came came n (Some s) follows = refl

    effect_state : (nodes : ℕ → N) (number : ℕ) (event : Event P) → (effect net nodes ports time number event).after ≡ state_after nodes event
    effect_state nodes number (Delivery (Arrival i) x) = sent_state (Some (i, x)) _ (net.react (net.owner i) (nodes (net.owner i)) (Arrival i) x).1 None
    effect_state nodes number (Delivery (Source j) x) = sent_state None _ (net.react (net.source_node j) (nodes (net.source_node j)) (Source j) x).1 (by_source j (net.source j (suc number)))
    effect_state nodes number (Completion i) = refl

  -- by how much a packet raises the count of the node to which it comes
  module _ (k : ℕ → N → Origin → P → ℕ) where
    abbrev gain : (ℕ → N) → Event P → ℕ → ℕ
    gain nodes (Delivery (Arrival i) x) v = cond (v == net.owner i) (k (net.owner i) (nodes (net.owner i)) (Arrival i) x) 0
    gain nodes (Delivery (Source j) x) v = cond (v == net.source_node j) (k (net.source_node j) (nodes (net.source_node j)) (Source j) x) 0
    gain nodes (Completion i) v = 0

    abbrev next_gain : State P N → Option (Key × Event P) → ℕ → ℕ
    next_gain s None v = 0
    next_gain s (Some e) v = gain s.node e.1 v

    abbrev pub gained : ℕ → ℕ → ℕ
    gained v zero = 0
    gained v (suc n) = gained v n + next_gain (one_list net n) (least (one_list net n).pending) v

    -- at most one for each event
    module _ (small : (v : ℕ) (n : N) (o : Origin) (x : P) → k v n o x ≤ 1) where
      gain_small : (nodes : ℕ → N) (event : Event P) (v : ℕ) → gain nodes event v ≤ 1
      gain_small nodes (Delivery (Arrival i) x) v = go (v == net.owner i) (small (net.owner i) (nodes (net.owner i)) (Arrival i) x)
        where
          go : (b : Bool) → k (net.owner i) (nodes (net.owner i)) (Arrival i) x ≤ 1 → cond b (k (net.owner i) (nodes (net.owner i)) (Arrival i) x) 0 ≤ 1
          go true h = h
          go false h = omega arith
      gain_small nodes (Delivery (Source j) x) v = go (v == net.source_node j) (small (net.source_node j) (nodes (net.source_node j)) (Source j) x)
        where
          go : (b : Bool) → k (net.source_node j) (nodes (net.source_node j)) (Source j) x ≤ 1 → cond b (k (net.source_node j) (nodes (net.source_node j)) (Source j) x) 0 ≤ 1
          go true h = h
          go false h = omega arith
      gain_small nodes (Completion i) v = omega arith

      next_small : (s : State P N) (o : Option (Key × Event P)) (v : ℕ) → next_gain s o v ≤ 1
      next_small s None v = omega arith
      next_small s (Some e) v = gain_small s.node e.1 v

      pub gained_few : (v n : ℕ) → gained v n ≤ n
      gained_few v zero = omega arith
      gained_few v (suc n) = let a = gained_few v n in let b = next_small (one_list net n) (least (one_list net n).pending) v in omega arith

    module _ (Good : N → Type 0) (begins : (v : ℕ) → Good (net.first v)) (keeps : (v : ℕ) (n : N) (o : Origin) (x : P) → Good n → Good (net.react v n o x).0) where
      good_after : (nodes : ℕ → N) (event : Event P) → ((v : ℕ) → Good (nodes v)) → Good (state_after nodes event)
      good_after nodes (Delivery (Arrival i) x) h = keeps (net.owner i) (nodes (net.owner i)) (Arrival i) x (h (net.owner i))
      good_after nodes (Delivery (Source j) x) h = keeps (net.source_node j) (nodes (net.source_node j)) (Source j) x (h (net.source_node j))
      good_after nodes (Completion i) h = h (net.owner i)

      good_step : (s : State P N) (o : Option (Key × Event P)) → ((v : ℕ) → Good (s.node v)) → (v : ℕ) → Good ((step_at net (λ q. true) s o).node v)
      good_step s None h v = h v
      good_step s (Some e) h v =
          let does : Effect P N = effect net s.node s.port e.0.time e.0.number e.1 in
          ⊎_elim
          (λ same. subst Good (sym (ap (set_at s.node (node_of net e.0.place) does.after) same ∙ set_here s.node (node_of net e.0.place) does.after ∙ effect_state s.port e.0.time s.node e.0.number e.1)) (good_after s.node e.1 h))
          (λ other. subst Good (sym (set_there s.node (node_of net e.0.place) does.after v other)) (h v))
          (same_number v (node_of net e.0.place))

      pub good : (n v : ℕ) → Good ((one_list net n).node v)
      good zero v = begins v
      good (suc n) v = good_step (one_list net n) (least (one_list net n).pending) (good n) v

      module _ (total : N → ℕ) (none : (v : ℕ) → total (net.first v) ≡ 0) (limit : ℕ)
          (rises : (v : ℕ) (n : N) (o : Origin) (x : P) → Good n → total n + k v n o x < limit → total (net.react v n o x).0 ≡ total n + k v n o x) where
        -- the one node that changes
        changed : (nodes : ℕ → N) (w : ℕ) (after : N) (g : ℕ) → (total (nodes w) + g < limit → total after ≡ total (nodes w) + g)
            → (v : ℕ) → total (nodes v) + cond (v == w) g 0 < limit → total (set_at nodes w after v) ≡ total (nodes v) + cond (v == w) g 0
        changed nodes w after g h v below = ⊎_elim
            (λ same.
            let a = ap total (ap (set_at nodes w after) same ∙ set_here nodes w after) in
            let b : cond (v == w) g 0 ≡ g = ap (λ z. cond (z == w) g 0) same ∙ ap (λ z. cond z g 0) (number_tied w) in
            let c = ap (λ z. total (nodes z)) same in
            let d = h (omega arith) in
            omega arith)
            (λ other.
            let a = ap total (set_there nodes w after v other) in
            let b : cond (v == w) g 0 ≡ 0 = ap (λ z. cond z g 0) (number_apart v w other) in
            omega arith)
            (same_number v w)

        unchanged : (nodes : ℕ → N) (w v : ℕ) → total (set_at nodes w (nodes w) v) ≡ total (nodes v) + 0
        unchanged nodes w v = ⊎_elim
            (λ same. let a = ap total (ap (set_at nodes w (nodes w)) same ∙ set_here nodes w (nodes w) ∙ ap nodes (sym same)) in omega arith)
            (λ other. let a = ap total (set_there nodes w (nodes w) v other) in omega arith)
            (same_number v w)

        after_is : (nodes : ℕ → N) → ((v : ℕ) → Good (nodes v)) → (event : Event P) (v : ℕ) → total (nodes v) + gain nodes event v < limit
            → total (set_at nodes (node_of net (event_place event)) (state_after nodes event) v) ≡ total (nodes v) + gain nodes event v
        after_is nodes h (Delivery (Arrival i) x) v below = changed nodes (net.owner i) _ _ (rises (net.owner i) (nodes (net.owner i)) (Arrival i) x (h (net.owner i))) v below
        after_is nodes h (Delivery (Source j) x) v below = changed nodes (net.source_node j) _ _ (rises (net.source_node j) (nodes (net.source_node j)) (Source j) x (h (net.source_node j))) v below
        after_is nodes h (Completion i) v below = unchanged nodes (net.owner i) v

        step_is : (s : State P N) → ((v : ℕ) → Good (s.node v)) → (o : Option (Key × Event P)) → ((e : Key × Event P) → o ≡ Some e → e.0.place ≡ event_place e.1) → (v : ℕ) → total (s.node v) + next_gain s o v < limit
            → total ((step_at net (λ q. true) s o).node v) ≡ total (s.node v) + next_gain s o v
        step_is s h None placed v below = omega arith
        step_is s h (Some e) placed v below =
            ap (λ a. total (set_at s.node (node_of net e.0.place) a v)) (effect_state s.port e.0.time s.node e.0.number e.1)
            ∙ ap (λ q. total (set_at s.node (node_of net q) (state_after s.node e.1) v)) (placed e refl) ∙ after_is s.node h e.1 v below

        pub total_is : ((n : ℕ) → IsOrderly net (λ q. true) (one_list net n)) → (v n : ℕ) → gained v n < limit → total ((one_list net n).node v) ≡ gained v n
        total_is orderly v zero below = none v
        total_is orderly v (suc n) below =
            let a = total_is orderly v n (omega arith) in
            let b = step_is (one_list net n) (good n) (least (one_list net n).pending)
            (λ e m. placed_of net (λ q. true) (one_list net n) (orderly n) e.0 e.1 (least_has (one_list net n).pending e m)) v (omega arith) in
            omega arith

  -- of the packets that arrive at a node, each that passes a test is counted
  module _ (p : ℕ → P → Bool) where
    abbrev pub one_arrival : ℕ → N → Origin → P → ℕ
    one_arrival v n (Arrival i) x = cond (p v x) 1 0
    one_arrival v n (Source j) x = 0

    pub one_arrival_small : (v : ℕ) (n : N) (o : Origin) (x : P) → one_arrival v n o x ≤ 1
    one_arrival_small v n (Arrival i) x = go (p v x)
      where
        go : (b : Bool) → cond b 1 0 ≤ 1
        go true = omega arith
        go false = omega arith
    one_arrival_small v n (Source j) x = omega arith

    abbrev is_counted : ℕ → Record P → Bool
    is_counted v r = (same_dir r.dir In && (v == net.owner r.iface)) && p v r.packet

    out_is_none : (v time : ℕ) (o : Option (ℕ × P)) → keep_where (is_counted v) (out_record time o) ≡ []
    out_is_none v time None = refl
    out_is_none v time (Some s) = refl

    one_is : (v w : ℕ) (r : Record P) → length (cond {A = List (Record P)} ((v == w) && p v r.packet) (r ∷ []) []) ≡ cond (v == w) (cond (p w r.packet) 1 0) 0
    one_is v w r = ⊎_elim
        (λ same. subst (λ u. length (cond {A = List (Record P)} ((u == w) && p u r.packet) (r ∷ []) []) ≡ cond (u == w) (cond (p w r.packet) 1 0) 0) (sym same) (both (w == w) (p w r.packet)))
        (λ other. ap (λ b. length (cond {A = List (Record P)} (b && p v r.packet) (r ∷ []) [])) (number_apart v w other) ∙ sym (ap (λ b. cond b (cond (p w r.packet) 1 0) 0) (number_apart v w other)))
        (same_number v w)
      where
        both : (b c : Bool) → length (cond {A = List (Record P)} (b && c) (r ∷ []) []) ≡ cond b (cond c 1 0) 0
        both true true = refl
        both true false = refl
        both false c = refl

    in_is : (v time : ℕ) (ports : ℕ → Port P) (nodes : ℕ → N) (number : ℕ) (event : Event P) → length (keep_where (is_counted v) (in_record time (effect net nodes ports time number event).came)) ≡ gain one_arrival nodes event v
    in_is v time ports nodes number (Delivery (Arrival i) x) =
        ap (λ o. length (keep_where (is_counted v) (in_record time o))) (sent_came ports time (Some (i, x)) _ (net.react (net.owner i) (nodes (net.owner i)) (Arrival i) x).1 None)
        ∙ one_is v (net.owner i) (record { time = time; iface = i; dir = In; packet = x })
    in_is v time ports nodes number (Delivery (Source j) x) =
        ap (λ o. length (keep_where (is_counted v) (in_record time o))) (sent_came ports time None _ (net.react (net.source_node j) (nodes (net.source_node j)) (Source j) x).1 (by_source j (net.source j (suc number)))) ∙ go (v == net.source_node j)
      where
        go : (z : Bool) → ◌≡◌ {A = ℕ} 0 (cond z 0 0)
        go true = refl
        go false = refl
    in_is v time ports nodes number (Completion i) = refl

    counted_step : (v : ℕ) (s : State P N) (o : Option (Key × Event P)) → length (keep_where (is_counted v) (step_at net (λ q. true) s o).records) ≡ length (keep_where (is_counted v) s.records) + next_gain one_arrival s o v
    counted_step v s None = omega arith
    counted_step v s (Some e) =
        let does : Effect P N = effect net s.node s.port e.0.time e.0.number e.1 in
        let a = ap length (kept-append (is_counted v) s.records (in_record e.0.time does.came ++ out_record e.0.time does.transmission)) in
        let b = length-append (keep_where (is_counted v) s.records) (keep_where (is_counted v) (in_record e.0.time does.came ++ out_record e.0.time does.transmission)) in
        let c = ap length (kept-append (is_counted v) (in_record e.0.time does.came) (out_record e.0.time does.transmission)) in
        let d = length-append (keep_where (is_counted v) (in_record e.0.time does.came)) (keep_where (is_counted v) (out_record e.0.time does.transmission)) in
        let f = ap length (out_is_none v e.0.time does.transmission) in
        let g = in_is v e.0.time s.port s.node e.0.number e.1 in
        omega arith

    counted_are : (v n : ℕ) → length (keep_where (is_counted v) (one_list net n).records) ≡ gained one_arrival v n
    counted_are v zero = refl
    counted_are v (suc n) = let a = counted_are v n in let b = counted_step v (one_list net n) (least (one_list net n).pending) in omega arith

    -- those that pass the test, of those that arrived
    pub arrivals_where : (v n : ℕ) → length (keep_where (λ r. p v r.packet) (arrivals_at net v (one_list net n).records)) ≡ gained one_arrival v n
    arrivals_where v n = ap length (kept_twice (λ r. same_dir r.dir In && (v == net.owner r.iface)) (λ r. p v r.packet) (one_list net n).records) ∙ counted_are v n

  -- and all where all pass it
  pub arrivals_are : (v n : ℕ) → length (arrivals_at net v (one_list net n).records) ≡ gained (one_arrival (λ u x. true)) v n
  arrivals_are v n = sym (ap length (kept_all (arrivals_at net v (one_list net n).records))) ∙ arrivals_where (λ u x. true) v n

  -- each packet that a node sends is counted
  abbrev pub one_sent : ℕ → N → Origin → P → ℕ
  one_sent v n o x = length (option_list (net.react v n o x).1)

  pub one_sent_small : (v : ℕ) (n : N) (o : Origin) (x : P) → one_sent v n o x ≤ 1
  one_sent_small v n o x = go (net.react v n o x).1
    where
      go : (r : Option (ℕ × P)) → length (option_list r) ≤ 1
      go None = omega arith
      go (Some s) = omega arith

  module _ (ok : IsNet net) where
    of_node : (v w : ℕ) (r : Option (ℕ × P)) → ((s : ℕ × P) → r ≡ Some s → net.owner s.0 ≡ w) → length (offered_by net v (option_list r)) ≡ cond (v == w) (length (option_list r)) 0
    of_node v w None own = go (v == w)
      where
        go : (z : Bool) → ◌≡◌ {A = ℕ} 0 (cond z 0 0)
        go true = refl
        go false = refl
    of_node v w (Some s) own = ap (λ u. length (cond {A = List (ℕ × P)} (v == u) (s ∷ []) [])) (own s refl) ∙ go (v == w)
      where
        go : (z : Bool) → length (cond {A = List (ℕ × P)} z (s ∷ []) []) ≡ cond z 1 0
        go true = refl
        go false = refl

    answer_is : (v : ℕ) (nodes : ℕ → N) (event : Event P) → length (offered_by net v (option_list (answer_to net nodes event))) ≡ gain one_sent nodes event v
    answer_is v nodes (Delivery (Arrival i) x) = of_node v (net.owner i) (net.react (net.owner i) (nodes (net.owner i)) (Arrival i) x).1 (λ s e. ok.own (net.owner i) (nodes (net.owner i)) (Arrival i) x s e)
    answer_is v nodes (Delivery (Source j) x) = of_node v (net.source_node j) (net.react (net.source_node j) (nodes (net.source_node j)) (Source j) x).1 (λ s e. ok.own (net.source_node j) (nodes (net.source_node j)) (Source j) x s e)
    answer_is v nodes (Completion i) = refl

    offer_is : (v : ℕ) (s : State P N) (o : Option (Key × Event P)) → length (offered_by net v (next_offer net s o)) ≡ next_gain one_sent s o v
    offer_is v s None = refl
    offer_is v s (Some e) = answer_is v s.node e.1

    pub offers_are : (v n : ℕ) → length (offered_by net v (offers net n)) ≡ gained one_sent v n
    offers_are v zero = refl
    offers_are v (suc n) =
        let a = offers_are v n in
        let b = offer_is v (one_list net n) (least (one_list net n).pending) in
        let c = ap length (kept-append (λ o. v == net.owner o.0) (offers net n) (next_offer net (one_list net n) (least (one_list net n).pending))) in
        let d = length-append (offered_by net v (offers net n)) (offered_by net v (next_offer net (one_list net n) (least (one_list net n).pending))) in
        omega arith
