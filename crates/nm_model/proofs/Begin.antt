-- A partition and the whole network at the start.
use Rattle.std.proofs.Common.{◌≡◌, inl, inr, ℕ, zero, suc, ◌+◌, ◌<◌, Bool, true, false, cond, not, List, [], ◌++◌, ◌∷◌, Some, None, refl, sym, ap, ◌∙◌, subst, arith, ⊎_elim}
use Rattle.std.specs.FinMap.{FinMap, get, empty}
use Rattle.nm_base.specs.declared.key.Place.{Place}
use Rattle.nm_base.specs.declared.key.Place.TheVariants.{Arrive, Fire}
use Rattle.nm_base.specs.declared.key.Key.{Key}
use Rattle.nm_base.specs.Key.{key_of, key_cmp}
use Rattle.nm_model.specs.EventList.{schedule}
use Rattle.nm_model.specs.Replica.{inbox_below, from_scratch, message_events, inbox_events}
use Rattle.nm_model.specs.Knowledge.{Knowledge, no_knowledge}
use Rattle.nm_model.specs.Partition.{in_part, comes_in, is_inbox}
use Rattle.nm_model.specs.Lists.{nth}
use Rattle.nm_model.specs.Network.{Net, IsNet}
use Rattle.nm_model.specs.Run.{start, source_events}
use Rattle.nm_base.specs.declared.event.Event.TheVariants.{Delivery}
use Rattle.nm_base.specs.declared.event.Origin.TheVariants.{Arrival}
use Rattle.nm_model.proofs.Keys.{same_key, get_empty}
use Rattle.nm_model.proofs.Scheduling.{IsAmong, put_from, put_has, put_absent, put_alike, put_elsewhere, among-append}
use Rattle.nm_model.proofs.NewEvents.{source_among, arrive_inj, absent_unless, among_left, among_right}
use Rattle.nm_model.specs.Orderly.{IsOrderly}
use Rattle.nm_model.proofs.Orders.{orderly_start, orderly_run, part_by_node}
use Rattle.nm_model.proofs.ListLemmas.{same_number}
use Rattle.nm_model.proofs.Cut.{channel_inside, Cut, and_both, not_true, both_ways}
use Rattle.nm_base.specs.declared.event.Event.{Event}

module _ {P N : Type 0} (net : Net P N) (p : ℕ) where
  message_among : (c n : ℕ) (l : List (ℕ × P)) (q : Key) (y : Event P) → IsAmong q y (message_events c n l) → (d : ℕ) × (z : P) × (y ≡ Delivery (Arrival c) z) × (q.place ≡ Arrive c) × (q.number ≡ n + d) × (nth l d ≡ Some (q.time, z))
  message_among c n [] q y a = absurd a
  message_among c n (b ∷ l) q y (inl a) = (0, b.1, a.1, ap (λ r. r.place) a.0, ap (λ r. r.number) a.0 ∙ omega arith, ap (λ t. Some (t, b.1)) (ap (λ r. r.time) (sym a.0)))
  message_among c n (b ∷ l) q y (inr a) = let r = message_among c (suc n) l q y a in (suc r.0, r.1, r.2, r.3, omega (arith, r.4), r.5)

  among_message : (c n d : ℕ) (l : List (ℕ × P)) (t : ℕ) (y : P) → nth l d ≡ Some (t, y) → IsAmong (key_of t (Arrive c) (n + d)) (Delivery (Arrival c) y) (message_events c n l)
  among_message c n d [] t y e = absurd (cc)
  among_message c n zero (b ∷ l) t y e = let f : b ≡ (t, y) = cc in inl (same_key _ _ (ap (λ z. z.0) (sym f)) refl (omega arith), ap (λ z. Delivery (Arrival c) z.1) (sym f))
  among_message c n (suc d) (b ∷ l) t y e =
      let r = among_message c (suc n) d l t y e in
      let f : suc n + d ≡ n + suc d = omega arith in
      inr (subst (λ m. IsAmong (key_of t (Arrive c) m) (Delivery (Arrival c) y) (message_events c (suc n) l)) f r)

  inbox_among : (K : Knowledge P) (n : ℕ) (q : Key) (y : Event P) → IsAmong q y (inbox_below net p K n) → (c : ℕ) × (q.place ≡ Arrive c) × (comes_in net p c ≡ true) × (z : P) × (y ≡ Delivery (Arrival c) z) × (nth (K c).list q.number ≡ Some (q.time, z))
  inbox_among K zero q y a = absurd a
  inbox_among K (suc c) q y a = ⊎_elim
      (λ f. first (comes_in net p c) refl f)
      (λ f. inbox_among K c q y f)
      (among-append q y (cond (comes_in net p c) (message_events c 0 (K c).list) []) (inbox_below net p K c) a)
    where
      first : (b : Bool) → comes_in net p c ≡ b → IsAmong q y (cond b (message_events c 0 (K c).list) []) → (d : ℕ) × (q.place ≡ Arrive d) × (comes_in net p d ≡ true) × (z : P) × (y ≡ Delivery (Arrival d) z) × (nth (K d).list q.number ≡ Some (q.time, z))
      first false e f = absurd f
      first true e f =
          let r = message_among c 0 (K c).list q y f in
          let n : r.0 ≡ q.number = omega (arith, r.4) in
          (c, r.3, e, r.1, r.2, ap (nth (K c).list) (sym n) ∙ r.5)

  among_inbox : (K : Knowledge P) (n c m t : ℕ) (y : P) → c < n → comes_in net p c ≡ true → nth (K c).list m ≡ Some (t, y) → IsAmong (key_of t (Arrive c) m) (Delivery (Arrival c) y) (inbox_below net p K n)
  among_inbox K zero c m t y lt ch e = absurd (omega arith)
  among_inbox K (suc d) c m t y lt ch e = ⊎_elim
      (λ f.
      let z : 0 + m ≡ m = omega arith in
      let a = subst (λ i. IsAmong (key_of t (Arrive c) i) (Delivery (Arrival c) y) (message_events c 0 (K c).list)) z (among_message c 0 m (K c).list t y e) in
      let b = subst (λ v. IsAmong (key_of t (Arrive c) m) (Delivery (Arrival c) y) (cond v (message_events c 0 (K c).list) [])) (sym ch) a in
      let g = subst (λ i. IsAmong (key_of t (Arrive c) m) (Delivery (Arrival c) y) (cond (comes_in net p i) (message_events i 0 (K i).list) [])) f b in
      among_left _ _ (cond (comes_in net p d) (message_events d 0 (K d).list) []) (inbox_below net p K d) g)
      (λ f. among_right _ _ (cond (comes_in net p d) (message_events d 0 (K d).list) []) (inbox_below net p K d) (among_inbox K d c m t y (omega arith) ch e))
      (same_number c d)

  pub inbox_at : (K : Knowledge P) (q : Key) (y : Event P) → IsAmong q y (inbox_events net p K) → (c : ℕ) × (q.place ≡ Arrive c) × (comes_in net p c ≡ true) × (z : P) × (y ≡ Delivery (Arrival c) z) × (nth (K c).list q.number ≡ Some (q.time, z))
  inbox_at K q y a = inbox_among K net.ifaces q y a

  pub at_inbox : IsNet net → (K : Knowledge P) (c n t : ℕ) (y : P) → comes_in net p c ≡ true → nth (K c).list n ≡ Some (t, y) → IsAmong (key_of t (Arrive c) n) (Delivery (Arrival c) y) (inbox_events net p K)
  at_inbox ok K c n t y ch e = among_inbox K net.ifaces c n t y (channel_inside net p ok c ch) ch e

  -- what is pending at an arrival's key once the messages were put
  pub messages_are : (K : Knowledge P) (c t n : ℕ) (x : Event P) → get (schedule (λ q. true) (inbox_events net p K) empty) (key_of t (Arrive c) n) ≡ Some x → (comes_in net p c ≡ true) × (z : P) × (x ≡ Delivery (Arrival c) z) × (nth (K c).list n ≡ Some (t, z))
  messages_are K c t n x e = ⊎_elim
      (λ a. let r = inbox_at K _ x a in let z : c ≡ r.0 = arrive_inj _ _ r.1 in (ap (comes_in net p) z ∙ r.2, r.3, r.4 ∙ ap (λ d. Delivery (Arrival d) r.3) (sym z), ap (λ d. nth (K d).list n) z ∙ r.5))
      (λ f. let none = get_empty {X = Event P} (key_of t (Arrive c) n) in absurd (cc))
      (put_from (λ q. true) (inbox_events net p K) empty (key_of t (Arrive c) n) x e)

  pub messages_have : IsNet net → (K : Knowledge P) (c t n : ℕ) (x : P) → comes_in net p c ≡ true → nth (K c).list n ≡ Some (t, x) → get (schedule (λ q. true) (inbox_events net p K) empty) (key_of t (Arrive c) n) ≡ Some (Delivery (Arrival c) x)
  messages_have ok K c t n x ch e = put_has (λ q. true) (inbox_events net p K) empty (key_of t (Arrive c) n) (Delivery (Arrival c) x) refl (at_inbox ok K c n t x ch e) one
    where
      one : (w : Event P) → IsAmong (key_of t (Arrive c) n) w (inbox_events net p K) → w ≡ Delivery (Arrival c) x
      one w a =
          let r = inbox_at K _ w a in
          let z : c ≡ r.0 = arrive_inj _ _ r.1 in
          let f : nth (K c).list n ≡ Some (t, r.3) = ap (λ d. nth (K d).list n) z ∙ r.5 in
          let g : ◌≡◌ {A = ℕ × P} (t, r.3) (t, x) = cc in r.4 ∙ ap (λ d. Delivery (Arrival d) r.3) (sym z) ∙ ap (λ y. Delivery (Arrival c) y.1) g

  pub messages_only : (K : Knowledge P) (q : Key) → ((c : ℕ) → q.place ≡ Arrive c → comes_in net p c ≡ true → ⊥) → get (schedule (λ q. true) (inbox_events net p K) empty) q ≡ None
  messages_only K q h = put_absent (λ q. true) (inbox_events net p K) empty q (absent_unless q _ (λ v a. let r = inbox_at K q v a in h r.0 r.1 r.2)) ∙ get_empty q

  pub no_source : (q : Key) (c : ℕ) → q.place ≡ Arrive c → (here : Place → Bool) (m : FinMap key_cmp (Event P)) → get (schedule here (source_events net net.sources) m) q ≡ get m q
  no_source q c pl here m = put_absent here _ m q (absent_unless q _ (λ v a. let r = (source_among net net.sources q v a).1 in let e : Arrive c ≡ Fire _ = sym pl ∙ r in cc))

  pub cut_start : IsNet net → (K : Knowledge P) → Cut net p K (start net (λ q. true) []) (start net (in_part net p) (inbox_events net p K))
  cut_start ok K = record {
    agrees = record {
      node = λ v mv. refl;
      port = λ i mi. refl;
      sent = λ c mc. refl;
      arrived = λ c mc. refl;
      own = λ q mq cq. put_alike (λ q. true) (in_part net p) (source_events net net.sources) empty (schedule (λ q. true) (inbox_events net p K) empty) q (sym mq) (get_empty q ∙ sym (messages_only K q (λ c pl ch. both_ways (is_inbox net p q.place) (ap (is_inbox net p) pl ∙ ch) cq)));
      records = refl;
    };
    inbox_is = λ c t n x ch e. let m = messages_are K c t n x (sym (no_source (key_of t (Arrive c) n) c refl (in_part net p) _) ∙ e) in (m.1, m.2, omega arith, m.3);
    inbox_has = λ c t n x ch le e. no_source (key_of t (Arrive c) n) c refl (in_part net p) _ ∙ messages_have ok K c t n x ch e;
    alien = λ q mq. put_elsewhere (in_part net p) (source_events net net.sources) _ q mq ∙ messages_only K q (λ c pl ch. both_ways (in_part net p q.place) (ap (in_part net p) pl ∙ (and_both _ _ ch).0) mq);
  }

  -- every state over K is orderly
  pub orderly_begun : IsNet net → (K : Knowledge P) → IsOrderly net (in_part net p) (start net (in_part net p) (inbox_events net p K))
  orderly_begun ok K = orderly_start net ok (in_part net p) (part_by_node net p) (inbox_events net p K) (λ q y a.
      let r = inbox_at K q y a in
      let b = and_both _ (not (in_part net p (Arrive (net.far_end r.0)))) r.2 in
      (r.0, r.3, r.1, r.4, b.0, not_true _ b.1))

pub orderly_part : {P N : Type 0} (net : Net P N) → IsNet net → (p : ℕ) (K : Knowledge P) (k : ℕ) → IsOrderly net (in_part net p) (from_scratch net p K k)
orderly_part net ok p K k = orderly_run net ok (in_part net p) (part_by_node net p) k _ (orderly_begun net p ok K)

-- over no knowledge nothing is pending on channels
module _ {P N : Type 0} (net : Net P N) (p : ℕ) where
  pub no_messages : (n : ℕ) → inbox_below net p (no_knowledge {P = P}) n ≡ []
  no_messages zero = refl
  no_messages (suc c) = go (comes_in net p c) ∙ no_messages c
    where
      go : (b : Bool) → cond b (message_events c 0 (no_knowledge {P = P} c).list) [] ++ inbox_below net p (no_knowledge {P = P}) c ≡ inbox_below net p (no_knowledge {P = P}) c
      go true = refl
      go false = refl
