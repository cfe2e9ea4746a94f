-- A partition that is told one thing more.
use Rattle.std.proofs.Common.{◌≡◌, ℕ, zero, suc, ◌≤◌, true, [], ◌∷◌, ◌++◌, length, Some, None, refl, sym, ap, ◌∙◌, subst, arith, ⊎_elim}
use Rattle.std.specs.FinMap.{FinMap, get, insert}
use Rattle.nm_base.specs.declared.key.Place.TheVariants.{Arrive}
use Rattle.nm_base.specs.declared.key.Key.{Key}
use Rattle.nm_base.specs.Key.{key_of, key_cmp}
use Rattle.nm_model.specs.Replica.{from_scratch, safe_time, IsWithin}
use Rattle.nm_model.specs.Knowledge.{Knowledge, Know, IsUnder}
use Rattle.nm_model.specs.Partition.{in_part, comes_in}
use Rattle.nm_model.specs.Lists.{nth, set_at}
use Rattle.nm_model.specs.Network.{Net, IsNet}
use Rattle.nm_model.specs.Run.{effect, step_at}
use Rattle.nm_base.specs.declared.event.Event.TheVariants.{Delivery}
use Rattle.nm_base.specs.declared.event.Origin.TheVariants.{Arrival}
use Rattle.nm_model.proofs.Keys.{key_decides, same_key, same_events, insert_same, insert_other, least_has}
use Rattle.nm_model.proofs.ListLemmas.{bool_cases, option_cases, same_number, below_nth, nth_last, nth_push, prefix_self, set_here, set_there}
use Rattle.nm_model.proofs.NewEvents.{absent_unless, pending_case}
use Rattle.nm_model.proofs.Scheduling.{put_absent}
use Rattle.nm_model.proofs.Begin.{messages_are, no_source}
use Rattle.nm_model.proofs.CutLaw.{least_busy}
use Rattle.nm_model.proofs.Books.{alien, placed_there, more, new_among, more_has, not_by_channel, books}
use Rattle.nm_model.proofs.Accepting.{under_set}
use Rattle.nm_base.specs.declared.event.Event.{Event}

module _ {P N : Type 0} (net : Net P N) (ok : IsNet net) (p : ℕ) (K : Knowledge P) where
  -- what is pending on a channel is a message of K
  pub told_pending : (k : ℕ) → IsWithin net p K k → (c t n : ℕ) (x : Event P) → comes_in net p c ≡ true → get (from_scratch net p K k).pending (key_of t (Arrive c) n) ≡ Some x → (y : P) × (x ≡ Delivery (Arrival c) y) × (nth (K c).list n ≡ Some (t, y))
  told_pending zero w c t n x ch e = let m = messages_are net p K c t n x (sym (no_source net p (key_of t (Arrive c) n) c refl (in_part net p) _) ∙ e) in (m.1, m.2, m.3)
  told_pending (suc k) w c t n x ch e =
      let y = least_busy (safe_time net p K) (from_scratch net p K k) (w k (omega arith)) in
      let s = from_scratch net p K k in
      let f : get (step_at net (in_part net p) s (Some y.0)).pending (key_of t (Arrive c) n) ≡ Some x = ap (λ o. get (step_at net (in_part net p) s o).pending (key_of t (Arrive c) n)) (sym y.1) ∙ e in
      let own : in_part net p y.0.0.place ≡ true = ⊎_elim (λ z. z) (λ z. let none = alien net ok p K k y.0.0 z in let has = least_has s.pending y.0 y.1 in absurd (cc)) (bool_cases (in_part net p y.0.0.place)) in
      ⊎_elim
      (λ z. absurd (not_by_channel net ok p s y.0 (placed_there net ok p K k y.0 (least_has s.pending y.0 y.1)) own c (key_of t (Arrive c) n) refl ch x z))
      (λ z. told_pending k (λ m lt. w m (omega arith)) c t n x ch z.1)
      (pending_case net y.0.0 s.sent (effect net s.node s.port y.0.0.time y.0.0.number y.0.1) (in_part net p) s.pending (key_of t (Arrive c) n) x f)

  module _ (k : ℕ) (w : IsWithin net p K k) (c : ℕ) (ch : comes_in net p c ≡ true) where
    -- a new message
    module _ (b : ℕ × P) (le : (K c).clock ≤ b.0) where
      abbrev pub longer : Know P
      longer = record { list = (K c).list ++ b ∷ []; clock = b.0 }

      abbrev pub its_key : Key
      its_key = key_of b.0 (Arrive c) (length (K c).list)

      longer_under : IsUnder (K c) longer
      longer_under = record {
        begins = (b ∷ [], refl);
        later = λ i x li e. ⊎_elim (λ f. absurd (let lt = below_nth (K c).list i x f in omega arith)) (λ f. let t = ap (λ z. z.0) f.1 in omega arith) (nth_push (K c).list b x i e);
        clock = le;
      }

      pub key_new : get (from_scratch net p K k).pending its_key ≡ None
      key_new = ⊎_elim (λ e. e) (λ e. absurd (let f = told_pending k w c b.0 (length (K c).list) e.0 ch e.1 in let lt = below_nth (K c).list (length (K c).list) (b.0, f.0) f.2 in omega arith)) (option_cases (get (from_scratch net p K k).pending its_key))

      one_more : (m : FinMap key_cmp (Event P)) (q : Key) → get (more net ok p K (set_at K c longer) (under_set net p K c longer longer_under) m) q ≡ get (insert m its_key (Delivery (Arrival c) b.1)) q
      one_more m q = ⊎_elim
          (λ e. subst (λ z. get (more net ok p K (set_at K c longer) (under_set net p K c longer longer_under) m) z ≡ get (insert m its_key (Delivery (Arrival c) b.1)) z) (sym e)
          (more_has net ok p K (set_at K c longer) (under_set net p K c longer longer_under) m c (length (K c).list) b.0 b.1 ch (omega arith) (ap (λ a. nth a.list (length (K c).list)) (set_here K c longer) ∙ nth_last (K c).list b)
          ∙ sym (insert_same m its_key (Delivery (Arrival c) b.1))))
          (λ e. put_absent (λ z. true) _ m q (absent_unless q _ (λ v a. e (only v (new_among net ok p K (set_at K c longer) (under_set net p K c longer longer_under) q v a)))) ∙ sym (insert_other m its_key (Delivery (Arrival c) b.1) q e))
          (key_decides q its_key)
        where
          only : (v : Event P) → ((d : ℕ) × (q.place ≡ Arrive d) × (comes_in net p d ≡ true) × (length (K d).list ≤ q.number) × (z : P) × (v ≡ Delivery (Arrival d) z) × (nth ((set_at K c longer) d).list q.number ≡ Some (q.time, z))) → q ≡ its_key
          only v r = ⊎_elim
              (λ dc.
              let there : nth ((K c).list ++ b ∷ []) q.number ≡ Some (q.time, r.4) = ap (λ a. nth a.list q.number) (sym (set_here K c longer)) ∙ ap (λ z. nth ((set_at K c longer) z).list q.number) (sym dc) ∙ r.6 in
              let len : length (K c).list ≤ q.number = subst (λ z. length (K z).list ≤ q.number) dc r.3 in
              ⊎_elim
              (λ f. absurd (let lt = below_nth (K c).list q.number (q.time, r.4) f in omega arith))
              (λ f. same_key q its_key (sym (ap (λ z. z.0) f.1)) (r.1 ∙ ap Arrive dc) f.0)
              (nth_push (K c).list b (q.time, r.4) q.number there))
              (λ ne. absurd (let f = ap (λ a. nth a.list q.number) (sym (set_there K c longer r.0 ne)) ∙ r.6 in let lt = below_nth (K r.0).list q.number (q.time, r.4) f in let le' = r.3 in omega arith))
              (same_number r.0 c)

      pub told_one : from_scratch net p (set_at K c longer) k ≡ record (from_scratch net p K k) { pending = insert (from_scratch net p K k).pending its_key (Delivery (Arrival c) b.1) }
      told_one = books net ok p K (set_at K c longer) (under_set net p K c longer longer_under) k w
          ∙ ap (λ m. record (from_scratch net p K k) { pending = m }) (same_events _ _ (one_more (from_scratch net p K k).pending))

    -- a greater clock
    module _ (t : ℕ) (le : (K c).clock ≤ t) where
      abbrev pub raised : Know P
      raised = record { list = (K c).list; clock = t }

      raised_under : IsUnder (K c) raised
      raised_under = record { begins = prefix_self (K c).list; later = λ i x li e. absurd (let lt = below_nth _ i x e in omega arith); clock = le }

      no_more : (m : FinMap key_cmp (Event P)) (q : Key) → get (more net ok p K (set_at K c raised) (under_set net p K c raised raised_under) m) q ≡ get m q
      no_more m q = put_absent (λ z. true) _ m q (absent_unless q _ (λ v a. none v (new_among net ok p K (set_at K c raised) (under_set net p K c raised raised_under) q v a)))
        where
          none : (v : Event P) → ((d : ℕ) × (q.place ≡ Arrive d) × (comes_in net p d ≡ true) × (length (K d).list ≤ q.number) × (z : P) × (v ≡ Delivery (Arrival d) z) × (nth ((set_at K c raised) d).list q.number ≡ Some (q.time, z))) → ⊥
          none v r =
              let same : ((set_at K c raised) r.0).list ≡ (K r.0).list = ⊎_elim
              (λ dc. subst (λ z. ((set_at K c raised) z).list ≡ (K z).list) (sym dc) (ap (λ a. a.list) (set_here K c raised)))
              (λ ne. ap (λ a. a.list) (set_there K c raised r.0 ne))
              (same_number r.0 c) in
              let f = ap (λ l. nth l q.number) (sym same) ∙ r.6 in
              let lt = below_nth (K r.0).list q.number (q.time, r.4) f in let le' = r.3 in omega arith

      pub told_clock : from_scratch net p (set_at K c raised) k ≡ from_scratch net p K k
      told_clock = books net ok p K (set_at K c raised) (under_set net p K c raised raised_under) k w
          ∙ ap (λ m. record (from_scratch net p K k) { pending = m }) (same_events _ _ (no_more (from_scratch net p K k).pending))
