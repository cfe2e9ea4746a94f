-- What steps of a certificate find, put together.
use Rattle.std.proofs.Common.{◌≡◌, ◌↔◌, IsOk, ℕ, zero, suc, ◌<◌, ◌&&◌, not, ltb, All, Bool, cond, List, [], ◌∷◌, length, get_or, Option, Some, None, Result, Ok, Err, refl, sym, ap, ap₂, ◌∙◌, subst, arith, ⊎_elim}
use Rattle.std.proofs.lemmas.Bool.{cases_lt}
use Rattle.nm_topology.specs.Topology.{receiving_iface}
use Rattle.nm_topology.specs.TopologyValue.{TopologyValue}
use Rattle.nm_model.specs.Accept.{last_from}
use Rattle.nm_model.specs.Before.{IsBefore, trace}
use Rattle.nm_model.specs.Certificate.{Book, CertificateFault, ClockFault, PromiseFault, FaultShows, IsCertified, certify, clock_fault, first_below, prefix_fault}
use Rattle.nm_model.specs.Join.{or_else}
use Rattle.nm_model.specs.Knowledge.{Know}
use Rattle.nm_model.specs.Lists.{nth}
use Rattle.nm_model.specs.Promise.{Tight}
use Rattle.nm_model.proofs.ListLemmas.{not_some}
use Rattle.nm_model.specs.Replica.{IsWithin, from_scratch}
use Rattle.nm_knowledge.specs.Octets.{same_octets}
use Rattle.nm_sim.specs.Network.{net_of}
use Rattle.nm_book.specs.Book.{BookValue, knowledge}
use Rattle.nm_rounds.specs.Certify.{AreCertified, AreOf, Certifies, FindsFault, IsWithinSafe, book_of, books_of, list_fault}
use Rattle.nm_rounds.specs.SameTopology.{SaysSame}
use Rattle.nm_rounds.specs.declared.certify.CertFault.{CertFault}
use Rattle.nm_rounds.specs.declared.certify.CertFault.TheVariants.{Topology, Missing, Unfinished, Prefix, Clock, Promise}

-- a fault that was found is the model's
pub found : (t : TopologyValue) (o : Option CertificateFault) (e : CertFault) → FindsFault t o (Err e) → (f : CertificateFault) × (o ≡ Some f) × ((p : Option CertificateFault) → p ≡ Some f → FindsFault t p (Err e))
found t o e (f, is, here) = (f, here, λ q k. (f, is, k))

-- a step's fault is that of all steps where those before it found none
pub first_step : (t : TopologyValue) (o p : Option CertificateFault) (e : CertFault) → FindsFault t o (Err e) → FindsFault t (or_else o p) (Err e)
first_step t o p e h = let s = found t o e h in s.2 (or_else o p) (ap (λ z. or_else z p) s.1)

pub next_step : (t : TopologyValue) (o p : Option CertificateFault) (r : Result Unit CertFault) → o ≡ None → FindsFault t p r → FindsFault t (or_else o p) r
next_step t o p r none h = subst (λ z. FindsFault t z r) (ap (λ z. or_else z p) (sym none)) h

pub ifaces_are : (t : TopologyValue) → (net_of t).ifaces ≡ length t.ifaces
unfolding net_of
ifaces_are t = refl

-- the first fault below a number
pub none_below : (f : ℕ → Option CertificateFault) (n : ℕ) → ((i : ℕ) → i < n → f i ≡ None) → first_below f n ≡ None
none_below f zero h = refl
none_below f (suc n) h = ap₂ (λ o p. or_else o p) (none_below f n (λ i lt. h i (omega arith))) (h n (omega arith))

pub first_is : (f : ℕ → Option CertificateFault) (n i : ℕ) (x : CertificateFault) → i < n → first_below f i ≡ None → f i ≡ Some x → first_below f n ≡ Some x
first_is f zero i x lt none here = absurd (omega arith)
first_is f (suc n) i x lt none here = ⊎_elim
    (λ h. ap (λ o. or_else o (f n)) (first_is f n i x h none here))
    (λ h. let e : i ≡ n = omega arith in ap₂ (λ o p. or_else o p) (ap (first_below f) (sym e) ∙ none) (ap f (sym e) ∙ here))
    (cases_lt i n)

-- the fault of a channel, by its three tests
pub prefix_shown : (i : ℕ) (a : Know (List ℕ)) (sent : List (ℕ × List ℕ)) (promised : ℕ) (f : CertificateFault)
    → prefix_fault same_octets i 0 a.list sent ≡ Some f → list_fault i a sent promised ≡ Some f
prefix_shown i a sent promised f here =
    ap (λ o. or_else o (or_else (clock_fault i a.clock (nth sent (length a.list))) (cond (ltb promised a.clock && not (last_from a.clock a.list)) (Some (PromiseFault i)) None))) here

module _ (i : ℕ) (a : Know (List ℕ)) (sent : List (ℕ × List ℕ)) (promised : ℕ) (prefix : prefix_fault same_octets i 0 a.list sent ≡ None) where
  pub clock_shown : clock_fault i a.clock (nth sent (length a.list)) ≡ Some (ClockFault i) → list_fault i a sent promised ≡ Some (ClockFault i)
  clock_shown clock =
      ap₂ (λ o p. or_else o (or_else p (cond (ltb promised a.clock && not (last_from a.clock a.list)) (Some (PromiseFault i)) None))) prefix clock

  pub promise_tested : (b : Bool) → clock_fault i a.clock (nth sent (length a.list)) ≡ None → (ltb promised a.clock && not (last_from a.clock a.list)) ≡ b
      → list_fault i a sent promised ≡ cond b (Some (PromiseFault i)) None
  promise_tested b clock test =
      ap₂ (λ o p. or_else o (or_else p (cond (ltb promised a.clock && not (last_from a.clock a.list)) (Some (PromiseFault i)) None))) prefix clock
      ∙ ap (λ z. cond z (Some (PromiseFault i)) None) test

-- books of one topology have one network
pub same_net : ((t : TopologyValue) (digest : List ℕ) → net_of (record t { digest = digest }) ≡ net_of t)
    → (s t : TopologyValue) → SaysSame s t → net_of s ≡ net_of t
same_net law s t same = sym (law s []) ∙ ap net_of same ∙ law t []

pub same_receiver : (s t : TopologyValue) → SaysSame s t → (c : ℕ) → receiving_iface s c ≡ receiving_iface t c
same_receiver s t same c = ap (λ z. receiving_iface z c) same

-- the model's n-th book
was_book : (l : List BookValue) (i : ℕ) (b : Book (List ℕ)) → nth (books_of l) i ≡ Some b → (v : BookValue) × (i < length l) × (get_or l i v ≡ v) × (book_of v ≡ b)
was_book [] i b e = absurd (cc)
was_book (v ∷ l) zero b e = (v, omega arith, refl, some_is _ _ e)
  where
    some_is : (x y : Book (List ℕ)) → Some x ≡ Some y → x ≡ y
    some_is x y e = cc
was_book (v ∷ l) (suc i) b e = let r = was_book l i b e in let h = r.1 in (r.0, omega (arith, h), r.2, r.3)

is_book : (l : List BookValue) (i : ℕ) (d : BookValue) → i < length l → nth (books_of l) i ≡ Some (book_of (get_or l i d))
is_book [] i d h = absurd (omega arith)
is_book (v ∷ l) zero d h = refl
is_book (v ∷ l) (suc i) d h = is_book l i d (omega arith)

module _ (t : TopologyValue) (books : List BookValue) (ours : AreOf t books) where
  -- a fault shows what the model's shows, and where there is none the books are certified
  refused : ((f : CertificateFault) → certify (net_of t) same_octets Tight (books_of books) ≡ Some f → FaultShows (net_of t) Tight (books_of books) f)
      → (e : CertFault) → FindsFault t (certify (net_of t) same_octets Tight (books_of books)) (Err e) → Certifies t books (Err e)
  refused shows Topology (f, is, here) = absurd (let g : None ≡ Some f = is in cc)
  refused shows (Missing p) (f, is, here) = (ours, shows _ (here ∙ sym is))
  refused shows (Unfinished p) (f, is, here) = (ours, shows _ (here ∙ sym is))
  refused shows (Prefix c n) (f, is, here) = (ours, shows _ (here ∙ sym is))
  refused shows (Clock c) (f, is, here) = (ours, shows _ (here ∙ sym is))
  refused shows (Promise c) (f, is, here) = (ours, shows _ (here ∙ sym is))

  pub answered : (certify (net_of t) same_octets Tight (books_of books) ≡ None → AreCertified t books)
      → ((f : CertificateFault) → certify (net_of t) same_octets Tight (books_of books) ≡ Some f → FaultShows (net_of t) Tight (books_of books) f)
      → (r : Result Unit CertFault) → FindsFault t (certify (net_of t) same_octets Tight (books_of books)) r → Certifies t books r
  answered sound shows (Ok u) h = sound h
  answered sound shows (Err e) h = refused shows e h

  pub all_certified : ((s : TopologyValue) (digest : List ℕ) → net_of (record s { digest = digest }) ≡ net_of s)
      → All (IsWithinSafe t) books
      → (((i : ℕ) (b : Book (List ℕ)) → nth (books_of books) i ≡ Some b
      → IsWithin (net_of t) b.part b.replica.knowledge b.replica.ran)
      → (i : ℕ) (b : Book (List ℕ)) → nth (books_of books) i ≡ Some b → (last : ℕ) → IsBefore (net_of t) (net_of t).stop last
      → (from_scratch (net_of t) b.part b.replica.knowledge b.replica.ran).records ≡ trace (net_of t) b.part last)
      → IsCertified (net_of t) Tight (books_of books) → AreCertified t books
  all_certified law within whole certified = record {
    ours = ours;
    certified = certified;
    traces = λ last before k d h.
        let b = get_or books k d in
        let same : net_of b.topology ≡ net_of t = same_net law b.topology t (ours k d h) in
        ap (λ net. (from_scratch net b.partition (knowledge b) b.events).records) same ∙ whole safe k (book_of b) (is_book books k d h) last before;
  }
    where
      safe : (i : ℕ) (b : Book (List ℕ)) → nth (books_of books) i ≡ Some b → IsWithin (net_of t) b.part b.replica.knowledge b.replica.ran
      safe i b e =
          let r = was_book books i b e in
          subst (λ (z : Book (List ℕ)). IsWithin (net_of t) z.part z.replica.knowledge z.replica.ran) r.3
          (subst (IsWithinSafe t) r.2 (within i r.0 r.1))

  -- the answer is Ok exactly where the books are certified
  module _ (complete : IsCertified (net_of t) Tight (books_of books) → certify (net_of t) same_octets Tight (books_of books) ≡ None) where
    not_certified : (e : CertFault) → FindsFault t (certify (net_of t) same_octets Tight (books_of books)) (Err e)
        → IsOk {T = Unit} (Err e) ↔ (AreOf t books × IsCertified (net_of t) Tight (books_of books))
    not_certified e h =
        let f = found t (certify (net_of t) same_octets Tight (books_of books)) e h in
        ((λ ok. absurd (cc)), (λ both. absurd (not_some f.0 (sym (complete both.1) ∙ f.1))))

    pub exactly : (r : Result Unit CertFault) → FindsFault t (certify (net_of t) same_octets Tight (books_of books)) r → Certifies t books r
        → IsOk r ↔ (AreOf t books × IsCertified (net_of t) Tight (books_of books))
    exactly (Ok u) h shown = ((λ ok. (ours, shown.certified)), (λ both. refl))
    exactly (Err e) h shown = not_certified e h

    -- both are so of an answer with a fault
    pub refuses : ((f : CertificateFault) → certify (net_of t) same_octets Tight (books_of books) ≡ Some f → FaultShows (net_of t) Tight (books_of books) f)
        → (e : CertFault) (r : Result Unit CertFault) → r ≡ Err e → FindsFault t (certify (net_of t) same_octets Tight (books_of books)) (Err e)
        → Certifies t books r × (IsOk r ↔ (AreOf t books × IsCertified (net_of t) Tight (books_of books)))
    refuses shows e r is h = (
      subst (Certifies t books) (sym is) (refused shows e h),
      subst (λ y. IsOk y ↔ (AreOf t books × IsCertified (net_of t) Tight (books_of books))) (sym is) (not_certified e h),
    )
