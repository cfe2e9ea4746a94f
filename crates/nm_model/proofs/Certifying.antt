-- The certificate's first fault: there is none exactly where the books are certified.
use Rattle.std.proofs.Common.{◌≡◌, ◌≢◌, ◌⊎◌, inl, inr, ℕ, zero, suc, ◌<◌, ◌≤◌, ◌==◌, ◌&&◌, ◌||◌, not, min, Bool, true, false, cond, ltb, List, [], ◌∷◌, ◌++◌, length, Option, Some, None, refl, sym, ap, ap₂, ◌∙◌, subst, arith, true≢false, ⊎_elim}
use Rattle.std.proofs.lemmas.Bool.{cases_lt}
use Rattle.std.proofs.lemmas.Bool.Decides.{nat_tests}
use Rattle.std.specs.FinMap.{get}
use Rattle.nm_base.specs.declared.key.Place.TheVariants.{Arrive, Fire}
use Rattle.nm_base.specs.declared.key.Key.{Key}
use Rattle.nm_base.specs.declared.event.Event.{Event}
use Rattle.nm_model.specs.Knowledge.{no_knowledge}
use Rattle.nm_model.specs.Lists.{nth, IsPrefix}
use Rattle.nm_model.specs.Network.{Net, IsNet, IsParted}
use Rattle.nm_model.specs.Run.{source_events, first_event, pends_before}
use Rattle.nm_model.specs.Accept.{IsReflexive, TellsApart, same_message, last_from}
use Rattle.nm_model.specs.Join.{or_else}
use Rattle.nm_model.specs.Partition.{in_part, comes_in, sender_of}
use Rattle.nm_model.specs.Replica.{from_scratch, safe_time, safe_among, IsWithin}
use Rattle.nm_model.specs.Promise.{Promising, promise}
use Rattle.nm_model.specs.Before.{IsBefore, trace}
use Rattle.nm_model.specs.World.{Replica, fresh, state_of, outgoing}
use Rattle.nm_model.specs.Rounds.{given}
use Rattle.nm_model.specs.Certificate.{Book, CertificateFault, MissingPart, UnfinishedPart, PrefixFault, ClockFault, PromiseFault, is_done, AreFinished, Matches, IsCertified, first_of, first_below, has_part, prefix_fault, clock_fault, channel_fault, book_fault, certify}
use Rattle.nm_model.proofs.ListLemmas.{no_less, not_some, number_is, bool_cases, number_tied, number_apart, same_number}
use Rattle.nm_model.proofs.Scheduling.{IsAmong, put_from, put_elsewhere, among-append}
use Rattle.nm_model.proofs.Cut.{and_both, not_true, channel_inside}
use Rattle.nm_model.proofs.Begin.{messages_only}
use Rattle.nm_model.proofs.CutLaw.{not_busy}
use Rattle.nm_model.proofs.Accepting.{same_self}
use Rattle.nm_model.proofs.Faults.{left_none, right_none, same_is}
use Rattle.nm_model.proofs.Certified.{certified}
use Rattle.nm_model.proofs.Stated.{exact}

none_both : {A : Type 0} (o p : Option A) → o ≡ None → p ≡ None → or_else o p ≡ None
none_both None p e f = f
none_both (Some x) p e f = absurd (cc)

pub below_none : (f : ℕ → Option CertificateFault) (n : ℕ) → first_below f n ≡ None → (i : ℕ) → i < n → f i ≡ None
below_none f zero e i lt = absurd (omega arith)
below_none f (suc n) e i lt = ⊎_elim
    (λ h. below_none f n (left_none (first_below f n) (f n) e) i h)
    (λ h. let z : i ≡ n = omega arith in ap f z ∙ right_none (first_below f n) (f n) e)
    (cases_lt i n)

none_below : (f : ℕ → Option CertificateFault) (n : ℕ) → ((i : ℕ) → i < n → f i ≡ None) → first_below f n ≡ None
none_below f zero h = refl
none_below f (suc n) h = none_both _ _ (none_below f n (λ i lt. h i (omega arith))) (h n (omega arith))

pub guard_none : (b : Bool) (o : Option CertificateFault) → cond b o None ≡ None → b ≡ true → o ≡ None
guard_none true o e h = e
guard_none false o e h = absurd (true≢false (sym h))

none_guard : (b : Bool) (o : Option CertificateFault) → (b ≡ true → o ≡ None) → cond b o None ≡ None
none_guard true o h = h refl
none_guard false o h = refl

pub test_true : (b : Bool) (f : CertificateFault) → cond b None (Some f) ≡ None → b ≡ true
test_true true f e = refl
test_true false f e = absurd (cc)

true_test : (b : Bool) (f : CertificateFault) → b ≡ true → cond b None (Some f) ≡ None
true_test b f e = ap (λ z. cond z None (Some f)) e

module _ {A : Type 0} (f : A → Option CertificateFault) where
  pub of_none : (l : List A) → first_of f l ≡ None → (i : ℕ) (x : A) → nth l i ≡ Some x → f x ≡ None
  of_none [] e i x g = absurd (cc)
  of_none (y ∷ l) e zero x g = let s : y ≡ x = cc in ap f (sym s) ∙ left_none (f y) (first_of f l) e
  of_none (y ∷ l) e (suc i) x g = of_none l (right_none (f y) (first_of f l) e) i x g

  none_of : (l : List A) → ((i : ℕ) (x : A) → nth l i ≡ Some x → f x ≡ None) → first_of f l ≡ None
  none_of [] h = refl
  none_of (y ∷ l) h = none_both _ _ (h 0 y refl) (none_of l (λ i x g. h (suc i) x g))

module _ {P : Type 0} where
  pub part_there : (p : ℕ) (l : List (Book P)) → has_part p l ≡ true → (i : ℕ) × (b : Book P) × (nth l i ≡ Some b) × (b.part ≡ p)
  part_there p [] h = absurd (true≢false (sym h))
  part_there p (b ∷ l) h = go (b.part == p) refl h (λ k. part_there p l k)
    where
      go : (z : Bool) → (b.part == p) ≡ z → (z || has_part p l) ≡ true → (has_part p l ≡ true → (i : ℕ) × (d : Book P) × (nth l i ≡ Some d) × (d.part ≡ p)) → (i : ℕ) × (d : Book P) × (nth (b ∷ l) i ≡ Some d) × (d.part ≡ p)
      go true e k rest = (0, b, refl, number_is b.part p e)
      go false e k rest = let r = rest k in (suc r.0, r.1, r.2, r.3)

  pub there_part : (p : ℕ) (l : List (Book P)) (i : ℕ) (b : Book P) → nth l i ≡ Some b → b.part ≡ p → has_part p l ≡ true
  there_part p [] i b e f = absurd (cc)
  there_part p (d ∷ l) zero b e f = let s : d ≡ b = cc in let t : (d.part == p) ≡ true = ap (λ z. z.part == p) s ∙ ap (λ z. z == p) f ∙ number_tied p in ap (λ z. z || has_part p l) t
  there_part p (d ∷ l) (suc i) b e f = go (d.part == p) (there_part p l i b e f)
    where
      go : (z : Bool) → has_part p l ≡ true → (z || has_part p l) ≡ true
      go true h = refl
      go false h = h

  module _ (same : P → P → Bool) (eq : IsReflexive same) (tells : TellsApart same) (c : ℕ) where
    pub prefix_none : (n : ℕ) (k l : List (ℕ × P)) → prefix_fault same c n k l ≡ None → IsPrefix k l
    prefix_none n [] l e = (l, refl)
    prefix_none n (x ∷ k) [] e = absurd (cc)
    prefix_none n (x ∷ k) (y ∷ l) e = go (same_message same x y) refl e (λ f. prefix_none (suc n) k l f)
      where
        go : (z : Bool) → same_message same x y ≡ z → cond z (prefix_fault same c (suc n) k l) (Some (PrefixFault c n)) ≡ None → (prefix_fault same c (suc n) k l ≡ None → IsPrefix k l) → IsPrefix (x ∷ k) (y ∷ l)
        go true g f rest = let r = rest f in (r.0, ap₂ (λ u v. u ∷ v) (same_is same eq tells x y g) r.1)
        go false g f rest = absurd (cc)

    none_prefix : (n : ℕ) (k l : List (ℕ × P)) → IsPrefix k l → prefix_fault same c n k l ≡ None
    none_prefix n [] l h = refl
    none_prefix n (x ∷ k) [] h = absurd (let e = h.1 in cc)
    none_prefix n (x ∷ k) (y ∷ l) h =
        let e = h.1 in
        let t : k ++ h.0 ≡ l = cc in
        let s : x ≡ y = cc in
        ap (λ z. cond z (prefix_fault same c (suc n) k l) (Some (PrefixFault c n))) (same_self same eq x y s) ∙ none_prefix (suc n) k l (h.0, t)

    pub clock_none : (t : ℕ) (o : Option (ℕ × P)) → clock_fault c t o ≡ None → (b : ℕ × P) → o ≡ Some b → t ≤ b.0
    clock_none t None e b f = absurd (cc)
    clock_none t (Some m) e b f = let s : m ≡ b = cc in let u = ap (λ (v : ℕ × P). v.0) s in let le = no_less (ClockFault c) t m.0 e in omega arith

    none_clock : (t : ℕ) (o : Option (ℕ × P)) → ((b : ℕ × P) → o ≡ Some b → t ≤ b.0) → clock_fault c t o ≡ None
    none_clock t None h = refl
    none_clock t (Some m) h = let le = h m refl in let f : ltb m.0 t ≡ false = grind (arith, nat_tests) in ap (λ z. cond z (Some (ClockFault c)) None) f

promise_none : (p t : ℕ) (z : Bool) (f : CertificateFault) → cond (ltb p t && not z) (Some f) None ≡ None → (t ≤ p) ⊎ (z ≡ true)
promise_none p t true f e = inr refl
promise_none p t false f e = go (ltb p t) refl e
  where
    go : (y : Bool) → ltb p t ≡ y → cond (y && true) (Some f) None ≡ None → (t ≤ p) ⊎ (false ≡ true)
    go true g h = absurd (cc)
    go false g h = inl (grind (arith, nat_tests))

none_promise : (p t : ℕ) (z : Bool) (f : CertificateFault) → (t ≤ p) ⊎ (z ≡ true) → cond (ltb p t && not z) (Some f) None ≡ None
none_promise p t z f (inl le) = let h : ltb p t ≡ false = grind (arith, nat_tests) in ap (λ y. cond (y && not z) (Some f) None) h
none_promise p t z f (inr h) = ap (λ y. cond (ltb p t && not y) (Some f) None) h ∙ go (ltb p t)
  where
    go : (y : Bool) → cond (y && false) (Some f) None ≡ None
    go true = refl
    go false = refl

module _ {P N : Type 0} (net : Net P N) (same : P → P → Bool) (eq : IsReflexive same) (tells : TellsApart same) (kind : Promising) where
  pub channel_none : (c : ℕ) (r s : Book P) → channel_fault net same kind c r s ≡ None → Matches net kind c r s
  channel_none c r s e =
      let a = r.replica.knowledge c in
      let out = outgoing net s.part s.replica c in
      let p = promise net kind s.part s.replica.knowledge s.replica.ran c in
      let tail = right_none (prefix_fault same c 0 a.list out) _ e in
      record {
        begins = prefix_none same eq tells c 0 a.list out (left_none _ _ e);
        next = λ b f. clock_none same eq tells c a.clock (nth out (length a.list)) (left_none _ _ tail) b f;
        promised = promise_none p a.clock (last_from a.clock a.list) (PromiseFault c) (right_none (clock_fault c a.clock (nth out (length a.list))) _ tail);
      }

  none_channel : (c : ℕ) (r s : Book P) → Matches net kind c r s → channel_fault net same kind c r s ≡ None
  none_channel c r s m =
      let a = r.replica.knowledge c in
      let out = outgoing net s.part s.replica c in
      let p = promise net kind s.part s.replica.knowledge s.replica.ran c in
      none_both _ _ (none_prefix same eq tells c 0 a.list out m.begins)
      (none_both _ _ (none_clock same eq tells c a.clock (nth out (length a.list)) (λ b f. m.next b f)) (none_promise p a.clock (last_from a.clock a.list) (PromiseFault c) m.promised))

  pub certify_none : IsNet net → (books : List (Book P)) → certify net same kind books ≡ None → IsCertified net kind books
  certify_none ok books e =
      let rest = right_none (first_below (λ p. cond (has_part p books) None (Some (MissingPart p))) net.parts) _ e in
      record {
        there = λ p lt. part_there p books (test_true (has_part p books) (MissingPart p) (below_none (λ p. cond (has_part p books) None (Some (MissingPart p))) net.parts (left_none _ _ e) p lt));
        done = λ i b f. test_true (is_done net b.part b.replica) (UnfinishedPart b.part) (of_none (λ (b : Book P). cond (is_done net b.part b.replica) None (Some (UnfinishedPart b.part))) books (left_none _ _ rest) i b f);
        matches = λ i j c r s f g ch pt.
            let row = of_none (book_fault net same kind books) books (right_none (first_of (λ (b : Book P). cond (is_done net b.part b.replica) None (Some (UnfinishedPart b.part))) books) _ rest) i r f in
            let chan = below_none (λ c. cond (comes_in net r.part c) (first_of (λ (s : Book P). cond (s.part == sender_of net c) (channel_fault net same kind c r s) None) books) None) net.ifaces row c (channel_inside net r.part ok c ch) in
            let one = of_none (λ (s : Book P). cond (s.part == sender_of net c) (channel_fault net same kind c r s) None) books (guard_none (comes_in net r.part c) _ chan ch) j s g in
            channel_none c r s (guard_none (s.part == sender_of net c) _ one (ap (λ z. z == sender_of net c) pt ∙ number_tied (sender_of net c)));
      }

  pub none_certify : (books : List (Book P)) → IsCertified net kind books → certify net same kind books ≡ None
  none_certify books cert = none_both _ _
      (none_below _ net.parts (λ p lt. let t = cert.there p lt in true_test (has_part p books) (MissingPart p) (there_part p books t.0 t.1 t.2 t.3)))
      (none_both _ _
      (none_of _ books (λ i b f. true_test (is_done net b.part b.replica) (UnfinishedPart b.part) (cert.done i b f)))
      (none_of (book_fault net same kind books) books (λ i r f.
      none_below _ net.ifaces (λ c lt.
      none_guard (comes_in net r.part c) _ (λ ch.
      none_of _ books (λ j s g.
      none_guard (s.part == sender_of net c) _ (λ pt.
      none_channel c r s (cert.matches i j c r s f g ch (number_is s.part (sender_of net c) pt)))))))))

-- a partition that isn't there
module _ {P N : Type 0} (net : Net P N) (ok : IsNet net) (parted : IsParted net) (p : ℕ) (none : net.parts ≤ p) where
  no_channel : (c : ℕ) → comes_in net p c ≡ true → ⊥
  no_channel c ch =
      let lt = parted.ifaces c (channel_inside net p ok c ch) in
      let e = number_is (net.part (net.owner c)) p (and_both _ _ ch).0 in omega arith

  empty_safe : (n : ℕ) → safe_among net p no_knowledge n ≡ net.stop
  empty_safe zero = refl
  empty_safe (suc n) = ⊎_elim
      (λ h. absurd (no_channel n h))
      (λ h. ap (λ z. cond z (min 0 (safe_among net p no_knowledge n)) (safe_among net p no_knowledge n)) h ∙ empty_safe n)
      (bool_cases (comes_in net p n))

  source_lies : (j : ℕ) (q : Key) (y : Event P) → IsAmong q y (source_events net j) → j ≤ net.sources → in_part net p q.place ≡ true → ⊥
  source_lies j q y a le mn =
      let r = source_inside j q y a in
      let lt = parted.sources r.0 (omega (arith, r.1)) in
      let e = number_is (net.part (net.source_node r.0)) p (ap (in_part net p) (sym r.2) ∙ mn) in omega arith
    where
      first_inside : (j : ℕ) (o : Option (ℕ × P)) (q : Key) (y : Event P) → IsAmong q y (first_event j o) → q.place ≡ Fire j
      first_inside j None q y a = absurd a
      first_inside j (Some f) q y (inl a) = ap (λ r. r.place) a.0
      first_inside j (Some f) q y (inr a) = absurd a

      source_inside : (j : ℕ) (q : Key) (y : Event P) → IsAmong q y (source_events net j) → (i : ℕ) × (i < j) × (q.place ≡ Fire i)
      source_inside zero q y a = absurd a
      source_inside (suc j) q y a = ⊎_elim
          (λ b. (j, omega arith, first_inside j (net.source j 0) q y b))
          (λ b. let r = source_inside j q y b in (r.0, omega (arith, r.1), r.2))
          (among-append q y (first_event j (net.source j 0)) (source_events net j) a)

  empty_quiet : (t : ℕ) → pends_before t (from_scratch net p no_knowledge 0) ≡ false
  empty_quiet t = not_busy t (from_scratch net p no_knowledge 0) (λ q y e. absurd (pending q y e))
    where
      pending : (q : Key) (y : Event P) → get (from_scratch net p no_knowledge 0).pending q ≡ Some y → ⊥
      pending q y e = ⊎_elim
          (λ mn. ⊎_elim
          (λ a. source_lies net.sources q y a (omega arith) mn)
          (λ f. let none = messages_only net p no_knowledge q (λ c pl ch. no_channel c ch) in absurd (not_some y (sym none ∙ f)))
          (put_from (in_part net p) (source_events net net.sources) _ q y e))
          (λ mn. let none = put_elsewhere (in_part net p) (source_events net net.sources) _ q mn ∙ messages_only net p no_knowledge q (λ c pl ch. no_channel c ch) in absurd (not_some y (sym none ∙ e)))
          (bool_cases (in_part net p q.place))

  pub empty_done : is_done net p fresh ≡ true
  empty_done =
      let a : (safe_time net p no_knowledge == net.stop) ≡ true = ap (λ z. z == net.stop) (empty_safe net.ifaces) ∙ number_tied net.stop in
      let b : not (pends_before net.stop (from_scratch net p no_knowledge 0)) ≡ true = ap not (empty_quiet net.stop) in
      ap₂ (λ x y. x && y) a b

  pub empty_trace : (last : ℕ) → IsBefore net net.stop last → trace net p last ≡ []
  empty_trace last b = sym (exact net ok p no_knowledge (λ l e c ch. absurd (no_channel c ch)) 0 last (record { over = empty_quiet (safe_time net p no_knowledge); first = λ m lt. absurd (omega arith) }) (subst (λ t. IsBefore net t last) (sym (empty_safe net.ifaces)) b))

-- a certified list of books tells of the whole network
module _ {P : Type 0} where
  abbrev chosen : ℕ → List (Book P) → Replica P
  chosen p [] = fresh
  chosen p (b ∷ l) = cond (p == b.part) b.replica (chosen p l)

  chosen_case : (p : ℕ) (l : List (Book P)) → ((i : ℕ) × (b : Book P) × (nth l i ≡ Some b) × (b.part ≡ p) × (chosen p l ≡ b.replica)) ⊎ ((chosen p l ≡ fresh) × ((i : ℕ) (b : Book P) → nth l i ≡ Some b → b.part ≢ p))
  chosen_case p [] = inr (refl, (λ i b e. absurd (cc)))
  chosen_case p (d ∷ l) = ⊎_elim
      (λ e. inl (0, d, refl, sym e, ap (λ z. cond z d.replica (chosen p l)) (ap (λ z. p == z) (sym e) ∙ number_tied p)))
      (λ ne.
      let skip : chosen p (d ∷ l) ≡ chosen p l = ap (λ z. cond z d.replica (chosen p l)) (number_apart p d.part ne) in
      ⊎_elim
      (λ r. inl (suc r.0, r.1, r.2, r.3, skip ∙ r.4))
      (λ r. inr (skip ∙ r.0, none ne r.1))
      (chosen_case p l))
      (same_number p d.part)
    where
      none : p ≢ d.part → ((i : ℕ) (b : Book P) → nth l i ≡ Some b → b.part ≢ p) → (i : ℕ) (b : Book P) → nth (d ∷ l) i ≡ Some b → b.part ≢ p
      none ne h zero b e f = let s : d ≡ b = cc in ne (sym f ∙ ap (λ z. z.part) (sym s))
      none ne h (suc i) b e f = h i b e f

module _ {P N : Type 0} (net : Net P N) (ok : IsNet net) (parted : IsParted net) (kind : Promising) (books : List (Book P)) (within : (i : ℕ) (b : Book P) → nth books i ≡ Some b → IsWithin net b.part b.replica.knowledge b.replica.ran) (cert : IsCertified net kind books) where
  -- each partition's chosen book is one of the list, or that of a partition that isn't there
  picked : (p : ℕ) → ((i : ℕ) × (b : Book P) × (nth books i ≡ Some b) × (b.part ≡ p) × (chosen p books ≡ b.replica)) ⊎ ((chosen p books ≡ fresh) × (net.parts ≤ p))
  picked p = ⊎_elim
      (λ h. inl h)
      (λ h. inr (h.0, ⊎_elim (λ lt. let t = cert.there p lt in absurd (h.1 t.0 t.1 t.2 t.3)) (λ le. le) (cases_lt p net.parts)))
      (chosen_case p books)

  -- of any choice
  module _ (pick : ℕ → Replica P) (choice : (p : ℕ) → ((i : ℕ) × (b : Book P) × (nth books i ≡ Some b) × (b.part ≡ p) × (pick p ≡ b.replica)) ⊎ ((pick p ≡ fresh) × (net.parts ≤ p))) where
    sender_inside : (p c : ℕ) → comes_in net p c ≡ true → sender_of net c < net.parts
    sender_inside p c ch = parted.ifaces (net.far_end c) (⊎_elim
        (λ lt. lt)
        (λ le. absurd (
        let far = ok.outside (net.far_end c) le in
        let same : net.far_end c ≡ c = sym far ∙ ok.twice c in
        let b = and_both _ _ ch in
        true≢false (sym b.0 ∙ ap (λ i. in_part net p (Arrive i)) (sym same) ∙ not_true _ b.1)))
        (cases_lt (net.far_end c) net.ifaces))

    receiver_inside : (p c : ℕ) → comes_in net p c ≡ true → p < net.parts
    receiver_inside p c ch =
        let lt = parted.ifaces c (channel_inside net p ok c ch) in
        let e = number_is (net.part (net.owner c)) p (and_both _ _ ch).0 in omega arith

    pair : (p c : ℕ) → comes_in net p c ≡ true → (r : Book P) × (s : Book P) × (pick p ≡ r.replica) × (pick (sender_of net c) ≡ s.replica) × (s.part ≡ sender_of net c) × Matches net kind c r s
    pair p c ch = ⊎_elim
        (λ r. ⊎_elim
        (λ s. (r.1, s.1, r.4, s.4, s.3, cert.matches r.0 s.0 c r.1 s.1 r.2 s.2 (ap (λ z. comes_in net z c) r.3 ∙ ch) s.3))
        (λ s. absurd (let lt = sender_inside p c ch in omega (arith, s.1)))
        (choice (sender_of net c)))
        (λ r. absurd (let lt = receiver_inside p c ch in omega (arith, r.1)))
        (choice p)

    pub are_finished : AreFinished net pick
    are_finished = record {
      within = λ p. ⊎_elim
          (λ h. subst (λ x. IsWithin net p x.knowledge x.ran) (sym h.4) (subst (λ z. IsWithin net z h.1.replica.knowledge h.1.replica.ran) h.3 (within h.0 h.1 h.2)))
          (λ h. subst (λ x. IsWithin net p x.knowledge x.ran) (sym h.0) (λ m lt. absurd (omega arith)))
          (choice p);
      done = λ p. ⊎_elim
          (λ h. ap (is_done net p) h.4 ∙ ap (λ z. is_done net z h.1.replica) (sym h.3) ∙ cert.done h.0 h.1 h.2)
          (λ h. ap (is_done net p) h.0 ∙ empty_done net ok parted p h.1)
          (choice p);
      begins = λ p c ch.
          let m = pair p c ch in
          subst (λ x. IsPrefix (x.knowledge c).list (given net pick c)) (sym m.2) (subst (IsPrefix (m.0.replica.knowledge c).list) (sym (line p c ch)) m.5.begins);
      next = λ p c b ch e.
          let m = pair p c ch in
          let f : nth (outgoing net m.1.part m.1.replica c) (length (m.0.replica.knowledge c).list) ≡ Some b = ap (λ (x : Replica P). nth (outgoing net m.1.part m.1.replica c) (length (x.knowledge c).list)) (sym m.2) ∙ ap (λ l. nth l (length ((pick p).knowledge c).list)) (sym (line p c ch)) ∙ e in
          subst (λ x. (x.knowledge c).clock ≤ b.0) (sym m.2) (m.5.next b f);
    }
      where
        line : (p c : ℕ) (ch : comes_in net p c ≡ true) → given net pick c ≡ outgoing net (pair p c ch).1.part (pair p c ch).1.replica c
        line p c ch = let m = pair p c ch in ap (λ (x : Replica P). outgoing net (sender_of net c) x c) m.3 ∙ ap (λ z. outgoing net z m.1.replica c) (sym m.4)

  pub whole : (i : ℕ) (r : Book P) → nth books i ≡ Some r → (last : ℕ) → IsBefore net net.stop last → (state_of net r.part r.replica).records ≡ trace net r.part last
  whole i r e last b =
      ap (λ (x : Replica P). (state_of net r.part x).records) (sym mine) ∙ certified net ok pick (are_finished pick choice) r.part last b
    where
      pick : ℕ → Replica P
      pick p = cond (p == r.part) r.replica (chosen p books)

      mine : pick r.part ≡ r.replica
      mine = ap (λ z. cond z r.replica (chosen r.part books)) (number_tied r.part)

      choice : (p : ℕ) → ((i : ℕ) × (b : Book P) × (nth books i ≡ Some b) × (b.part ≡ p) × (pick p ≡ b.replica)) ⊎ ((pick p ≡ fresh) × (net.parts ≤ p))
      choice p = ⊎_elim
          (λ f. inl (i, r, e, sym f, ap (λ z. cond z r.replica (chosen p books)) (ap (λ z. z == r.part) f ∙ number_tied r.part)))
          (λ f.
          let skip : pick p ≡ chosen p books = ap (λ z. cond z r.replica (chosen p books)) (number_apart p r.part f) in
          ⊎_elim (λ h. inl (h.0, h.1, h.2, h.3, skip ∙ h.4)) (λ h. inr (skip ∙ h.0, h.1)) (picked p))
          (same_number p r.part)
