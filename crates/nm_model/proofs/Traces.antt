-- What the records of a run say.
use Rattle.std.proofs.Common.{◌≡◌, ◌≢◌, ◌⊎◌, inl, inr, ℕ, zero, suc, ◌+◌, ◌<◌, ◌≤◌, Bool, true, false, cond, ◌==◌, true≢false, List, [], ◌∷◌, ◌++◌, length, Option, Some, None, refl, sym, ap, ap₂, ◌∙◌, subst, arith, ⊎_elim, append-nil, length-append}
use Rattle.std.proofs.lemmas.Bool.{cases_lt}
use Rattle.std.specs.FinMap.{get}
use Rattle.nm_base.specs.declared.key.Place.{Place}
use Rattle.nm_base.specs.declared.key.Key.{Key}
use Rattle.nm_base.specs.declared.event.Event.{Event}
use Rattle.nm_base.specs.declared.record.Dir.{Dir}
use Rattle.nm_base.specs.declared.record.Dir.TheVariants.{In, Out}
use Rattle.nm_base.specs.declared.record.Record.{Record}
use Rattle.nm_model.specs.Lists.{nth, IsPrefix, keep_where}
use Rattle.nm_model.specs.EventList.{least}
use Rattle.nm_model.specs.Network.{Net, IsNet}
use Rattle.nm_model.specs.Run.{State, Effect, effect, in_record, out_record, step_at, run, start, one_list, pends_before}
use Rattle.nm_model.specs.Trace.{passed}
use Rattle.nm_model.specs.Before.{trace}
use Rattle.nm_model.specs.Partition.{is_own_record}
use Rattle.nm_model.proofs.Keys.{least_has, least_min, up_to_time}
use Rattle.nm_model.proofs.ListLemmas.{number_is, number_tied, number_apart, nth_prefix, prefix_nth, prefix_push, prefix_trans}
use Rattle.nm_model.proofs.Effects.{EffectIs, effect_is}
use Rattle.nm_model.proofs.NewEvents.{far_end_inj, arrived_case, sent_case, sent_prefix, pending_case}
use Rattle.nm_model.proofs.Invariants.{Invariant, arrival_number}
use Rattle.nm_model.proofs.Runs.{invariant_run}
use Rattle.nm_model.specs.Orderly.{IsByNode, IsOrderly}
use Rattle.nm_model.proofs.Placed.{placed_of}
use Rattle.nm_model.proofs.Orders.{makes_later, orderly_run}
use Rattle.nm_model.proofs.CutLaw.{quiet}

module _ {P : Type 0} where
  pub passed-append : (d : Dir) (i : ℕ) (k l : List (Record P)) → passed d i (k ++ l) ≡ passed d i k ++ passed d i l
  passed-append d i [] l = refl
  passed-append d i (r ∷ k) l = go _ (passed-append d i k l)
    where
      go : (z : Bool) → passed d i (k ++ l) ≡ passed d i k ++ passed d i l → cond z ((r.time, r.packet) ∷ passed d i (k ++ l)) (passed d i (k ++ l)) ≡ cond z ((r.time, r.packet) ∷ passed d i k) (passed d i k) ++ passed d i l
      go true e = ap (λ z. (r.time, r.packet) ∷ z) e
      go false e = e

  in_out : (time i : ℕ) (o : Option (ℕ × P)) → passed In i (out_record time o) ≡ []
  in_out time i None = refl
  in_out time i (Some s) = refl

  out_in : (time i : ℕ) (o : Option (ℕ × P)) → passed Out i (in_record time o) ≡ []
  out_in time i None = refl
  out_in time i (Some s) = refl

  -- the records of one event
  passed_in : (time i : ℕ) (l : List (Record P)) (came start : Option (ℕ × P)) → passed In i (l ++ (in_record time came ++ out_record time start)) ≡ passed In i l ++ passed In i (in_record time came)
  passed_in time i l came start = passed-append In i l _ ∙ ap (λ z. passed In i l ++ z) (passed-append In i (in_record time came) _ ∙ ap (λ z. passed In i (in_record time came) ++ z) (in_out time i start) ∙ append-nil _)

  passed_out : (time i : ℕ) (l : List (Record P)) (came start : Option (ℕ × P)) → passed Out i (l ++ (in_record time came ++ out_record time start)) ≡ passed Out i l ++ passed Out i (out_record time start)
  passed_out time i l came start = passed-append Out i l _ ∙ ap (λ z. passed Out i l ++ z) (passed-append Out i (in_record time came) _ ∙ ap (λ z. z ++ passed Out i (out_record time start)) (out_in time i came))

  in_here : (time i : ℕ) (x : P) → passed In i (in_record time (Some (i, x))) ≡ (time, x) ∷ []
  in_here time i x = ap (λ z. cond z ((time, x) ∷ []) []) (number_tied i)

  in_there : (time i : ℕ) (o : Option (ℕ × P)) → ((x : P) → o ≢ Some (i, x)) → passed In i (in_record time o) ≡ []
  in_there time i None h = refl
  in_there time i (Some a) h = ap (λ z. cond z ((time, a.1) ∷ []) []) (number_apart i a.0 (λ e. h a.1 (ap (λ j. Some (j, a.1)) (sym e))))

  out_here : (time i : ℕ) (x : P) → passed Out i (out_record time (Some (i, x))) ≡ (time, x) ∷ []
  out_here time i x = ap (λ z. cond z ((time, x) ∷ []) []) (number_tied i)

  out_there : (time i : ℕ) (o : Option (ℕ × P)) → ((t : ℕ × P) → o ≡ Some t → i ≢ t.0) → passed Out i (out_record time o) ≡ []
  out_there time i None h = refl
  out_there time i (Some s) h = ap (λ z. cond z ((time, s.1) ∷ []) []) (number_apart i s.0 (h s refl))

module _ {P N : Type 0} (net : Net P N) (here : Place → Bool) (c : ℕ) where
  counted_step : (s : State P N) → s.arrived c ≡ length (passed In c s.records) → (o : Option (Key × Event P)) → (step_at net here s o).arrived c ≡ length (passed In c (step_at net here s o).records)
  counted_step s h None = h
  counted_step s h (Some e) = ⊎_elim
      (λ a. let here_ = ap length (rest ∙ ap (λ z. passed In c s.records ++ z) (ap (λ o. passed In c (in_record e.0.time o)) a.1 ∙ in_here e.0.time c a.0)) in
      let l = length-append (passed In c s.records) ((e.0.time, a.0) ∷ []) in omega (arith, a.2))
      (λ a. a.1 ∙ h ∙ ap length (sym (rest ∙ ap (λ z. passed In c s.records ++ z) (in_there e.0.time c does.came a.0) ∙ append-nil _)))
      (arrived_case s.arrived does.came c)
    where
      does : Effect P N
      does = effect net s.node s.port e.0.time e.0.number e.1

      rest : passed In c (step_at net here s (Some e)).records ≡ passed In c s.records ++ passed In c (in_record e.0.time does.came)
      rest = passed_in e.0.time c s.records does.came does.transmission

  pub arrived_counts : (messages : List (Key × Event P)) (n : ℕ) → (run net here n (start net here messages)).arrived c ≡ length (passed In c (run net here n (start net here messages)).records)
  arrived_counts messages zero = refl
  arrived_counts messages (suc n) = counted_step (run net here n (start net here messages)) (arrived_counts messages n) _

-- an interface's starts are what was put on its far end
module _ {P N : Type 0} (net : Net P N) (ok : IsNet net) (i : ℕ) where
  abbrev put_on : List (ℕ × P) → List (ℕ × P)
  put_on [] = []
  put_on (b ∷ l) = (b.0 + net.tx i b.1 + net.delay i, b.1) ∷ put_on l

  put_on-append : (k l : List (ℕ × P)) → put_on (k ++ l) ≡ put_on k ++ put_on l
  put_on-append [] l = refl
  put_on-append (b ∷ k) l = ap (λ z. (b.0 + net.tx i b.1 + net.delay i, b.1) ∷ z) (put_on-append k l)

  nth_put_on : (l : List (ℕ × P)) (n : ℕ) (b : ℕ × P) → nth l n ≡ Some b → nth (put_on l) n ≡ Some (b.0 + net.tx i b.1 + net.delay i, b.1)
  nth_put_on [] n b e = absurd (cc)
  nth_put_on (x ∷ l) zero b e = let f : x ≡ b = cc in ap (λ (z : ℕ × P). Some (z.0 + net.tx i z.1 + net.delay i, z.1)) f
  nth_put_on (x ∷ l) (suc n) b e = nth_put_on l n b e

  put_on_nth : (l : List (ℕ × P)) (n t : ℕ) (x : P) → nth (put_on l) n ≡ Some (t, x) → (s : ℕ) × (nth l n ≡ Some (s, x)) × (t ≡ s + net.tx i x + net.delay i)
  put_on_nth [] n t x e = absurd (cc)
  put_on_nth (b ∷ l) zero t x e =
      let f : ◌≡◌ {A = ℕ × P} (b.0 + net.tx i b.1 + net.delay i, b.1) (t, x) = cc in
      let g : b.1 ≡ x = ap (λ z. z.1) f in
      (b.0, ap (λ y. Some (b.0, y)) g, sym (ap (λ z. z.0) f) ∙ ap (λ y. b.0 + net.tx i y + net.delay i) g)
  put_on_nth (b ∷ l) (suc n) t x e = put_on_nth l n t x e

  module _ (here : Place → Bool) where
    starts_step : (s : State P N) → s.sent (net.far_end i) ≡ put_on (passed Out i s.records) → (o : Option (Key × Event P)) → (step_at net here s o).sent (net.far_end i) ≡ put_on (passed Out i (step_at net here s o).records)
    starts_step s h None = h
    starts_step s h (Some e) = ⊎_elim
        (λ a. let same : a.0.0 ≡ i = far_end_inj net ok a.0.0 i (sym a.2) in
        a.3 ∙ ap₂ (λ k b. k ++ b ∷ []) h (ap (λ j. (e.0.time + net.tx j a.0.1 + net.delay j, a.0.1)) same)
        ∙ sym (put_on-append (passed Out i s.records) ((e.0.time, a.0.1) ∷ []))
        ∙ ap (λ z. put_on (passed Out i s.records ++ z)) (sym (ap (λ o. passed Out i (out_record e.0.time o)) (a.1 ∙ ap (λ j. Some (j, a.0.1)) same) ∙ out_here e.0.time i a.0.1))
        ∙ ap put_on (sym rest))
        (λ a. a.1 ∙ h ∙ ap put_on (sym (rest ∙ ap (λ z. passed Out i s.records ++ z) (out_there e.0.time i does.transmission (λ t f g. a.0 t f (ap net.far_end g))) ∙ append-nil _)))
        (sent_case net e.0.time s.sent does.transmission (net.far_end i))
      where
        does : Effect P N
        does = effect net s.node s.port e.0.time e.0.number e.1

        rest : passed Out i (step_at net here s (Some e)).records ≡ passed Out i s.records ++ passed Out i (out_record e.0.time does.transmission)
        rest = passed_out e.0.time i s.records does.came does.transmission

    pub starts_are : (messages : List (Key × Event P)) (n : ℕ) → (run net here n (start net here messages)).sent (net.far_end i) ≡ put_on (passed Out i (run net here n (start net here messages)).records)
    starts_are messages zero = refl
    starts_are messages (suc n) = starts_step (run net here n (start net here messages)) (starts_are messages n) _

-- the arrivals of an interface are the first of what was put on it
module _ {P N : Type 0} (net : Net P N) (ok : IsNet net) (c : ℕ) where
  came_step : (s : State P N) (now : ℕ) → Invariant net s now → s.arrived c ≡ length (passed In c s.records) → IsPrefix (passed In c s.records) (s.sent c) → (o : Option (Key × Event P)) → least s.pending ≡ o → IsPrefix (passed In c (step_at net (λ q. true) s o).records) ((step_at net (λ q. true) s o).sent c)
  came_step s now g count h None m = h
  came_step s now g count h (Some e) m = prefix_trans _ _ _ longer (sent_prefix net e.0.time s.sent does.transmission c)
    where
      does : Effect P N
      does = effect net s.node s.port e.0.time e.0.number e.1

      does_is : EffectIs net s.port e.0.time e.0.place e.0.number e.1 does
      does_is = effect_is net ok s.node s.port e.0.time e.0.place e.0.number e.1 (placed_of net (λ q. true) s g.orderly e.0 e.1 (least_has s.pending e m))

      rest : passed In c (step_at net (λ q. true) s (Some e)).records ≡ passed In c s.records ++ passed In c (in_record e.0.time does.came)
      rest = passed_in e.0.time c s.records does.came does.transmission

      longer : IsPrefix (passed In c (step_at net (λ q. true) s (Some e)).records) (s.sent c)
      longer = ⊎_elim
          (λ a.
          let is = does_is.came_is (c, a.0) a.1 in
          let n = arrival_number net ok s now g e.0 e.1 m c is.0 in
          let same : a.0 ≡ n.0 = let u = n.1 in let v = is.1 in cc in
          let at : nth (s.sent c) (length (passed In c s.records)) ≡ Some (e.0.time, a.0) = ap (nth (s.sent c)) (sym count ∙ sym n.2) ∙ n.3 ∙ ap (λ y. Some (e.0.time, y)) (sym same) in
          subst (λ l. IsPrefix l (s.sent c)) (sym (rest ∙ ap (λ z. passed In c s.records ++ z) (ap (λ o. passed In c (in_record e.0.time o)) a.1 ∙ in_here e.0.time c a.0)))
          (prefix_push (passed In c s.records) (s.sent c) (e.0.time, a.0) h at))
          (λ a. subst (λ l. IsPrefix l (s.sent c)) (sym (rest ∙ ap (λ z. passed In c s.records ++ z) (in_there e.0.time c does.came a.0) ∙ append-nil _)) h)
          (arrived_case s.arrived does.came c)

  pub arrivals_begin : (n : ℕ) → IsPrefix (passed In c (one_list net n).records) ((one_list net n).sent c)
  arrivals_begin zero = ([], refl)
  arrivals_begin (suc n) = let g = invariant_run net ok n in came_step (one_list net n) g.0 g.1 (arrived_counts net (λ q. true) c [] n) (arrivals_begin n) _ refl

module _ {P N : Type 0} (net : Net P N) (ok : IsNet net) (n : ℕ) where
  -- what starts arrives
  pub out_then_in : (t : ℕ) → pends_before t (one_list net n) ≡ false → (i m s : ℕ) (x : P) → nth (passed Out i (one_list net n).records) m ≡ Some (s, x) → s + net.tx i x + net.delay i < t → nth (passed In (net.far_end i) (one_list net n).records) m ≡ Some (s + net.tx i x + net.delay i, x)
  out_then_in t over i m s x e lt =
      let at : nth ((one_list net n).sent (net.far_end i)) m ≡ Some (s + net.tx i x + net.delay i, x) = ap (λ l. nth l m) (starts_are net ok i (λ q. true) [] n) ∙ nth_put_on net ok i _ m (s, x) e in
      let g = (invariant_run net ok n).1 in
      let count = arrived_counts net (λ q. true) (net.far_end i) [] n in
      nth_prefix _ _ m _ (arrivals_begin net ok (net.far_end i) n) (⊎_elim
      (λ h. h)
      (λ le. absurd (let late = quiet t (one_list net n) over _ _ (g.arrival_has (net.far_end i) (s + net.tx i x + net.delay i) m x (omega arith) at) in omega arith))
      (cases_lt m (length (passed In (net.far_end i) (one_list net n).records)))) at

  -- what arrives had transmitting
  pub in_after_out : (c m t : ℕ) (x : P) → nth (passed In c (one_list net n).records) m ≡ Some (t, x) → (s : ℕ) × (nth (passed Out (net.far_end c) (one_list net n).records) m ≡ Some (s, x)) × (t ≡ s + net.tx (net.far_end c) x + net.delay (net.far_end c))
  in_after_out c m t x e =
      let at = prefix_nth _ _ m (t, x) (arrivals_begin net ok c n) e in
      let line : (one_list net n).sent (net.far_end (net.far_end c)) ≡ (one_list net n).sent c = ap (one_list net n).sent (ok.twice c) in
      put_on_nth net ok (net.far_end c) (passed Out (net.far_end c) (one_list net n).records) m t x (ap (λ l. nth l m) (sym (starts_are net ok (net.far_end c) (λ q. true) [] n) ∙ line) ∙ at)

  -- transmissions of an interface do not overlap
  pub one_at_a_time : (i m k s t : ℕ) (x y : P) → m < k → nth (passed Out i (one_list net n).records) m ≡ Some (s, x) → nth (passed Out i (one_list net n).records) k ≡ Some (t, y) → s + net.tx i x ≤ t
  one_at_a_time i m k s t x y lt e f =
      let line = starts_are net ok i (λ q. true) [] n in
      let a = ap (λ l. nth l m) line ∙ nth_put_on net ok i _ m (s, x) e in
      let b = ap (λ l. nth l k) line ∙ nth_put_on net ok i _ k (t, y) f in
      let g = (invariant_run net ok n).1.spaced (net.far_end i) m k (s + net.tx i x + net.delay i, x) (t + net.tx i y + net.delay i, y) lt a b in
      let z : net.tx (net.far_end (net.far_end i)) y ≡ net.tx i y = ap (λ j. net.tx j y) (ok.twice i) in
      omega arith

-- records stand in the order of time
module _ {P N : Type 0} (net : Net P N) (ok : IsNet net) (here : Place → Bool) (by_node : IsByNode net here) where
  pub record Ordered (s : State P N) : Type 0 where
    pub before : (m : ℕ) (r : Record P) → nth s.records m ≡ Some r → (q : Key) (y : Event P) → get s.pending q ≡ Some y → r.time ≤ q.time
    pub order : (m n : ℕ) (a b : Record P) → m ≤ n → nth s.records m ≡ Some a → nth s.records n ≡ Some b → a.time ≤ b.time

  at_once : (time : ℕ) (came start : Option (ℕ × P)) (m : ℕ) (r : Record P) → nth (in_record time came ++ out_record time start) m ≡ Some r → r.time ≡ time
  at_once time None None m r e = absurd (cc)
  at_once time None (Some s) zero r e = let f : record { time = time; iface = s.0; dir = Out; packet = s.1 } ≡ r = cc in ap (λ z. z.time) (sym f)
  at_once time None (Some s) (suc m) r e = absurd (cc)
  at_once time (Some a) None zero r e = let f : record { time = time; iface = a.0; dir = In; packet = a.1 } ≡ r = cc in ap (λ z. z.time) (sym f)
  at_once time (Some a) None (suc m) r e = absurd (cc)
  at_once time (Some a) (Some s) zero r e = let f : record { time = time; iface = a.0; dir = In; packet = a.1 } ≡ r = cc in ap (λ z. z.time) (sym f)
  at_once time (Some a) (Some s) (suc zero) r e = let f : record { time = time; iface = s.0; dir = Out; packet = s.1 } ≡ r = cc in ap (λ z. z.time) (sym f)
  at_once time (Some a) (Some s) (suc (suc m)) r e = absurd (cc)

  either : {A : Type 0} (k l : List A) (m : ℕ) (x : A) → nth (k ++ l) m ≡ Some x → ((m < length k) × (nth k m ≡ Some x)) ⊎ ((length k ≤ m) × ((d : ℕ) × (nth l d ≡ Some x)))
  either [] l m x e = inr (omega arith, (m, e))
  either (y ∷ k) l zero x e = inl (omega arith, e)
  either (y ∷ k) l (suc m) x e = ⊎_elim (λ h. inl (omega (arith, h.0), h.1)) (λ h. inr (omega (arith, h.0), h.1)) (either k l m x e)

  ordered_step : (s : State P N) → IsOrderly net here s → Ordered s → (o : Option (Key × Event P)) → least s.pending ≡ o → Ordered (step_at net here s o)
  ordered_step s g h None m = h
  ordered_step s g h (Some e) l = record {
    before = λ m r f q y p. let early = up_to m r f in let late = from q y p in omega arith;
    order = λ m n a b le e1 e2. ⊎_elim
        (λ i. ⊎_elim
        (λ j. h.order m n a b le i.1 j.1)
        (λ j. let x = h.before m a i.1 e.0 e.1 has in let z = at_once e.0.time does.came does.transmission j.1.0 b j.1.1 in omega arith)
        (either s.records new n b e2))
        (λ i. ⊎_elim
        (λ j. absurd (omega (arith, i.0, j.0)))
        (λ j. let x = at_once e.0.time does.came does.transmission i.1.0 a i.1.1 in let z = at_once e.0.time does.came does.transmission j.1.0 b j.1.1 in omega arith)
        (either s.records new n b e2))
        (either s.records new m a e1);
  }
    where
      does : Effect P N
      does = effect net s.node s.port e.0.time e.0.number e.1

      new : List (Record P)
      new = in_record e.0.time (effect net s.node s.port e.0.time e.0.number e.1).came ++ out_record e.0.time (effect net s.node s.port e.0.time e.0.number e.1).transmission

      has : get s.pending e.0 ≡ Some e.1
      has = least_has s.pending e l

      from : (q : Key) (y : Event P) → get (step_at net here s (Some e)).pending q ≡ Some y → e.0.time ≤ q.time
      from q y p = ⊎_elim
          (λ n. let lt = makes_later net ok here by_node s g e has q y n in omega arith)
          (λ old. up_to_time e.0 q (least_min s.pending e q y l old.1))
          (pending_case net e.0 s.sent does here s.pending q y p)

      up_to : (m : ℕ) (r : Record P) → nth (step_at net here s (Some e)).records m ≡ Some r → r.time ≤ e.0.time
      up_to m r f = ⊎_elim
          (λ i. h.before m r i.1 e.0 e.1 has)
          (λ i. let z = at_once e.0.time does.came does.transmission i.1.0 r i.1.1 in omega arith)
          (either s.records new m r f)

  pub ordered_run : (n : ℕ) (messages : List (Key × Event P)) → IsOrderly net here (start net here messages) → Ordered (run net here n (start net here messages))
  ordered_run zero messages g = record { before = λ m r f. absurd (cc); order = λ m n a b le e f. absurd (cc) }
  ordered_run (suc n) messages g = ordered_step (run net here n (start net here messages)) (orderly_run net ok here by_node n _ g) (ordered_run n messages g) _ refl

-- an interface's records are those of its partition
module _ {P N : Type 0} (net : Net P N) (p i : ℕ) (own : (net.part (net.owner i) == p) ≡ true) where
  kept : (l : List (Record P)) → keep_where (λ r. r.iface == i) (keep_where (is_own_record net p) l) ≡ keep_where (λ r. r.iface == i) l
  kept [] = refl
  kept (r ∷ l) = go (r.iface == i) refl (is_own_record net p r) refl (kept l)
    where
      go : (z : Bool) → (r.iface == i) ≡ z → (y : Bool) → is_own_record net p r ≡ y
          → keep_where (λ r. r.iface == i) (keep_where (is_own_record net p) l) ≡ keep_where (λ r. r.iface == i) l
          → keep_where (λ r. r.iface == i) (cond y (r ∷ keep_where (is_own_record net p) l) (keep_where (is_own_record net p) l)) ≡ cond z (r ∷ keep_where (λ r. r.iface == i) l) (keep_where (λ r. r.iface == i) l)
      go true e true f h = ap (λ b. cond b (r ∷ keep_where (λ r. r.iface == i) (keep_where (is_own_record net p) l)) (keep_where (λ r. r.iface == i) (keep_where (is_own_record net p) l))) e ∙ ap (λ t. r ∷ t) h
      go false e true f h = ap (λ b. cond b (r ∷ keep_where (λ r. r.iface == i) (keep_where (is_own_record net p) l)) (keep_where (λ r. r.iface == i) (keep_where (is_own_record net p) l))) e ∙ h
      go false e false f h = h
      go true e false f h = absurd (true≢false (sym (ap (λ j. net.part (net.owner j) == p) (number_is r.iface i e) ∙ own) ∙ f))

  pub same_records : (last : ℕ) → keep_where (λ r. r.iface == i) (trace net p last) ≡ keep_where (λ r. r.iface == i) (one_list net last).records
  same_records last = kept (one_list net last).records
