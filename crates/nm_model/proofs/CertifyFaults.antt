-- What the certificate's fault shows.
use Rattle.std.proofs.Common.{◌≡◌, ◌≢◌, ◌⊎◌, inl, inr, ℕ, zero, suc, ◌+◌, ◌<◌, ◌==◌, ◌&&◌, not, Bool, true, false, cond, ltb, List, [], ◌∷◌, length, Option, Some, None, refl, sym, ap, ◌∙◌, subst, arith, true≢false, ⊎_elim}
use Rattle.std.proofs.lemmas.Bool.Decides.{nat_tests}
use Rattle.nm_model.specs.Lists.{nth}
use Rattle.nm_model.specs.Network.{Net, IsNet}
use Rattle.nm_model.specs.Accept.{IsReflexive, TellsApart, same_message, last_from}
use Rattle.nm_model.specs.Join.{or_else}
use Rattle.nm_model.specs.Partition.{comes_in, sender_of}
use Rattle.nm_model.specs.Promise.{Promising, promise}
use Rattle.nm_model.specs.World.{outgoing}
use Rattle.nm_model.specs.Certificate.{Book, CertificateFault, MissingPart, UnfinishedPart, PrefixFault, ClockFault, PromiseFault, is_done, Matches, Misses, IsFirstMismatch, AreThere, AreDone, FaultShows, first_of, first_below, has_part, prefix_fault, clock_fault, channel_fault, book_fault, certify}
use Rattle.nm_model.proofs.ListLemmas.{not_some, number_is, number_tied}
use Rattle.nm_model.proofs.Cut.{and_both, not_true, channel_inside}
use Rattle.nm_model.proofs.Accepting.{same_self}
use Rattle.nm_model.proofs.Faults.{same_is}
use Rattle.nm_model.proofs.Certifying.{below_none, clock_none, guard_none, test_true, of_none, part_there, there_part, prefix_none, channel_none}

either : {A : Type 0} (o p : Option A) (x : A) → or_else o p ≡ Some x → (o ≡ Some x) ⊎ ((o ≡ None) × (p ≡ Some x))
either None p x e = inr (refl, e)
either (Some y) p x e = inl e

module _ {A : Type 0} (f : A → Option CertificateFault) where
  of_some : (l : List A) (x : CertificateFault) → first_of f l ≡ Some x → (i : ℕ) × (a : A) × (nth l i ≡ Some a) × (f a ≡ Some x) × ((j : ℕ) (b : A) → j < i → nth l j ≡ Some b → f b ≡ None)
  of_some [] x e = absurd (not_some x e)
  of_some (y ∷ l) x e = ⊎_elim
      (λ h. (0, y, refl, h, λ j b lt g. absurd (omega arith)))
      (λ h. let r = of_some l x h.1 in (suc r.0, r.1, r.2, r.3, before h.0 r.0 r.4))
      (either (f y) (first_of f l) x e)
    where
      before : f y ≡ None → (i : ℕ) → ((j : ℕ) (b : A) → j < i → nth l j ≡ Some b → f b ≡ None) → (j : ℕ) (b : A) → j < suc i → nth (y ∷ l) j ≡ Some b → f b ≡ None
      before n i h zero b lt g = let s : y ≡ b = cc in ap f (sym s) ∙ n
      before n i h (suc j) b lt g = h j b (omega arith) g

below_some : (f : ℕ → Option CertificateFault) (n : ℕ) (x : CertificateFault) → first_below f n ≡ Some x → (i : ℕ) × (i < n) × (f i ≡ Some x) × ((j : ℕ) → j < i → f j ≡ None)
below_some f zero x e = absurd (not_some x e)
below_some f (suc n) x e = ⊎_elim
    (λ h. let r = below_some f n x h in (r.0, omega (arith, r.1), r.2, r.3))
    (λ h. (n, omega arith, h.1, below_none f n h.0))
    (either (first_below f n) (f n) x e)

guard_some : (b : Bool) (o : Option CertificateFault) (x : CertificateFault) → cond b o None ≡ Some x → (b ≡ true) × (o ≡ Some x)
guard_some true o x e = (refl, e)
guard_some false o x e = absurd (not_some x e)

test_some : (b : Bool) (y x : CertificateFault) → cond b None (Some y) ≡ Some x → (b ≡ false) × (y ≡ x)
test_some true y x e = absurd (not_some x e)
test_some false y x e = (refl, cc)

fault_some : (b : Bool) (y x : CertificateFault) → cond b (Some y) None ≡ Some x → (b ≡ true) × (y ≡ x)
fault_some true y x e = (refl, cc)
fault_some false y x e = absurd (not_some x e)

module _ {P : Type 0} (same : P → P → Bool) (eq : IsReflexive same) (tells : TellsApart same) (c : ℕ) where
  -- the first number at which two lists differ, counted from n, which the fault names
  abbrev Found : CertificateFault → ℕ → List (ℕ × P) → List (ℕ × P) → Type 0
  Found f n k l = (m : ℕ) × (PrefixFault c (n + m) ≡ f) × ((x : ℕ × P) × (nth k m ≡ Some x) × (nth l m ≢ Some x) × ((i : ℕ) → i < m → nth k i ≡ nth l i))

  prefix_some : (n : ℕ) (k l : List (ℕ × P)) (f : CertificateFault) → prefix_fault same c n k l ≡ Some f → Found f n k l
  prefix_some n [] l f e = absurd (not_some f e)
  prefix_some n (x ∷ k) [] f e =
      let g : PrefixFault c n ≡ f = cc in
      let z : n + 0 ≡ n = omega arith in
      (0, ap (PrefixFault c) z ∙ g, (x, refl, (λ h. not_some x h), λ i lt. absurd (omega arith)))
  prefix_some n (x ∷ k) (y ∷ l) f e = go (same_message same x y) refl e (λ h. prefix_some (suc n) k l f h)
    where
      alike : x ≡ y → (m : ℕ) → ((i : ℕ) → i < m → nth k i ≡ nth l i) → (i : ℕ) → i < suc m → nth (x ∷ k) i ≡ nth (y ∷ l) i
      alike s m h zero lt = ap Some s
      alike s m h (suc i) lt = h i (omega arith)

      go : (z : Bool) → same_message same x y ≡ z → cond z (prefix_fault same c (suc n) k l) (Some (PrefixFault c n)) ≡ Some f → (prefix_fault same c (suc n) k l ≡ Some f → Found f (suc n) k l) → Found f n (x ∷ k) (y ∷ l)
      go true g h rest =
          let r = rest h in
          let z : suc n + r.0 ≡ n + suc r.0 = omega arith in
          (suc r.0, sym (ap (PrefixFault c) z) ∙ r.1, (r.2.0, r.2.1, r.2.2, alike (same_is same eq tells x y g) r.0 r.2.3))
      go false g h rest =
          let u : PrefixFault c n ≡ f = cc in
          let z : n + 0 ≡ n = omega arith in
          (0, ap (PrefixFault c) z ∙ u, (x, refl, (λ q. let s : x ≡ y = cc in true≢false (sym (same_self same eq x y s) ∙ g)), λ i lt. absurd (omega arith)))

  clock_some : (t : ℕ) (o : Option (ℕ × P)) (f : CertificateFault) → clock_fault c t o ≡ Some f → (ClockFault c ≡ f) × ((b : ℕ × P) × (o ≡ Some b) × (b.0 < t))
  clock_some t None f e = absurd (not_some f e)
  clock_some t (Some b) f e = let r = fault_some (ltb b.0 t) (ClockFault c) f e in (r.1, (b, refl, grind (arith, nat_tests, r.0)))

  promise_some : (p t : ℕ) (z : Bool) (f : CertificateFault) → cond (ltb p t && not z) (Some (PromiseFault c)) None ≡ Some f → (PromiseFault c ≡ f) × (p < t) × (z ≡ false)
  promise_some p t z f e =
      let r = fault_some (ltb p t && not z) (PromiseFault c) f e in
      let b = and_both (ltb p t) (not z) r.0 in (r.1, grind (arith, nat_tests, b.0), not_true z b.1)

module _ {P N : Type 0} (net : Net P N) (ok : IsNet net) (same : P → P → Bool) (eq : IsReflexive same) (tells : TellsApart same) (kind : Promising) where
  channel_some : (c : ℕ) (r s : Book P) (f : CertificateFault) → channel_fault net same kind c r s ≡ Some f → Misses net kind c r s f
  channel_some c r s f e =
      let a = r.replica.knowledge c in
      let out = outgoing net s.part s.replica c in
      let p = promise net kind s.part s.replica.knowledge s.replica.ran c in
      ⊎_elim
      (λ h. let w = prefix_some same eq tells c 0 a.list out f h in
      let z : 0 + w.0 ≡ w.0 = omega arith in
      inl (w.0, sym w.1 ∙ ap (PrefixFault c) z, w.2))
      (λ h. let begins = prefix_none same eq tells c 0 a.list out h.0 in
      ⊎_elim
      (λ g. let w = clock_some same eq tells c a.clock (nth out (length a.list)) f g in inr (inl (sym w.0, (begins, w.1))))
      (λ g. let w = promise_some same eq tells c p a.clock (last_from a.clock a.list) f g.1 in inr (inr
      (sym w.0, (begins, (λ b h. clock_none same eq tells c a.clock (nth out (length a.list)) g.0 b h), w.1, w.2))))
      (either (clock_fault c a.clock (nth out (length a.list))) _ f h.1))
      (either (prefix_fault same c 0 a.list out) _ f e)

  module _ (books : List (Book P)) where
    abbrev missing : ℕ → Option CertificateFault
    missing p = cond (has_part p books) None (Some (MissingPart p))

    abbrev unfinished : Book P → Option CertificateFault
    unfinished b = cond (is_done net b.part b.replica) None (Some (UnfinishedPart b.part))

    abbrev on_channel : Book P → ℕ → Option CertificateFault
    on_channel r c = cond (comes_in net r.part c) (first_of (λ (s : Book P). cond (s.part == sender_of net c) (channel_fault net same kind c r s) None) books) None

    -- no fault of a receiving book on a channel
    quiet_channel : (r : Book P) (c : ℕ) → on_channel r c ≡ None → comes_in net r.part c ≡ true → (l : ℕ) (t : Book P) → nth books l ≡ Some t → t.part ≡ sender_of net c → Matches net kind c r t
    quiet_channel r c e ch l t g pt =
        let one = of_none (λ (s : Book P). cond (s.part == sender_of net c) (channel_fault net same kind c r s) None) books (guard_none (comes_in net r.part c) _ e ch) l t g in
        channel_none net same eq tells kind c r t (guard_none (t.part == sender_of net c) _ one (ap (λ z. z == sender_of net c) pt ∙ number_tied (sender_of net c)))

    mismatch : (f : CertificateFault) → first_of (book_fault net same kind books) books ≡ Some f → IsFirstMismatch net kind books f
    mismatch f e =
        let row = of_some (book_fault net same kind books) books f e in
        let chan = below_some (on_channel row.1) net.ifaces f row.3 in
        let open_channel = guard_some (comes_in net row.1.part chan.0) _ f chan.2 in
        let one = of_some (λ (s : Book P). cond (s.part == sender_of net chan.0) (channel_fault net same kind chan.0 row.1 s) None) books f open_channel.1 in
        let sent = guard_some (one.1.part == sender_of net chan.0) _ f one.3 in
        record {
          i = row.0;
          c = chan.0;
          j = one.0;
          r = row.1;
          s = one.1;
          receives = row.2;
          comes = open_channel.0;
          sends = one.2;
          from = number_is one.1.part (sender_of net chan.0) sent.0;
          misses = channel_some chan.0 row.1 one.1 f sent.1;
          books_before = λ k l d q t lt g h ch pt.
              quiet_channel q d (below_none (on_channel q) net.ifaces (row.4 k q lt g) d (channel_inside net q.part ok d ch)) ch l t h pt;
          channels_before = λ d l t lt ch h pt. quiet_channel row.1 d (chan.3 d lt) ch l t h pt;
          senders_before = λ l t lt h pt.
              channel_none net same eq tells kind chan.0 row.1 t (guard_none (t.part == sender_of net chan.0) _ (one.4 l t lt h) (ap (λ z. z == sender_of net chan.0) pt ∙ number_tied (sender_of net chan.0)));
        }

    there : (n : ℕ) → ((p : ℕ) → p < n → missing p ≡ None) → AreThere net kind books n
    there n h p lt = part_there p books (test_true (has_part p books) (MissingPart p) (h p lt))

    all_there : first_below missing net.parts ≡ None → AreThere net kind books net.parts
    all_there e = there net.parts (below_none missing net.parts e)

    all_done : first_of unfinished books ≡ None → AreDone net kind books (length books)
    all_done e i b lt g = test_true (is_done net b.part b.replica) (UnfinishedPart b.part) (of_none unfinished books e i b g)

    -- a mismatch is one of these three faults
    shown : (f : CertificateFault) → AreThere net kind books net.parts → AreDone net kind books (length books) → IsFirstMismatch net kind books f → FaultShows net kind books f
    shown f t d m = by_kind m.misses
      where
        by_kind : Misses net kind m.c m.r m.s f → FaultShows net kind books f
        by_kind (inl (n, is, w)) = subst (FaultShows net kind books) (sym is) (t, d, subst (IsFirstMismatch net kind books) is m)
        by_kind (inr (inl (is, w))) = subst (FaultShows net kind books) (sym is) (t, d, subst (IsFirstMismatch net kind books) is m)
        by_kind (inr (inr (is, w))) = subst (FaultShows net kind books) (sym is) (t, d, subst (IsFirstMismatch net kind books) is m)

    pub fault_shows : (f : CertificateFault) → certify net same kind books ≡ Some f → FaultShows net kind books f
    fault_shows f e = ⊎_elim
        (λ h.
        let r = below_some missing net.parts f h in
        let t = test_some (has_part r.0 books) (MissingPart r.0) f r.2 in
        subst (FaultShows net kind books) t.1 (r.1, there r.0 r.3, λ i b g pt. true≢false (sym (there_part r.0 books i b g pt) ∙ t.0)))
        (λ h. ⊎_elim
        (λ k.
        let r = of_some unfinished books f k in
        let t = test_some (is_done net r.1.part r.1.replica) (UnfinishedPart r.1.part) f r.3 in
        subst (FaultShows net kind books) t.1 (all_there h.0, (r.0, r.1, r.2, refl, t.0, λ i b lt g. test_true (is_done net b.part b.replica) (UnfinishedPart b.part) (r.4 i b lt g))))
        (λ k. shown f (all_there h.0) (all_done k.0) (mismatch f k.1))
        (either (first_of unfinished books) _ f h.1))
        (either (first_below missing net.parts) _ f e)
