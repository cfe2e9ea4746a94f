-- The messages that a merge brings, gathered one by one.
use Rattle.std.proofs.Common.{◌≡◌, ◌≢◌, ◌⊎◌, inl, inr, ℕ, zero, suc, ◌+◌, ◌<◌, ◌≤◌, Bool, true, false, cond, leb, if◌then◌else◌, List, [], ◌∷◌, ◌++◌, drop, length, take, slice_index_or, slice_set, slice_get, IfSome, Option, Some, None, refl, sym, ◌∙◌, ap, subst, arith}
use Rattle.std.proofs.lemmas.Bool.Decides.{nat_tests}
use Rattle.std.proofs.lemmas.List.{length-set, length-take-le}
use Rattle.nm_topology.specs.Topology.{channel_from, receiving_iface}
use Rattle.nm_topology.specs.TopologyValue.{TopologyValue}
use Rattle.nm_model.specs.Join.{join}
use Rattle.nm_model.specs.Knowledge.{IsKnow, IsUnder, Know, Knowledge, nothing_known}
use Rattle.nm_model.specs.Lists.{IsPrefix, nth}
use Rattle.nm_model.specs.Partition.{comes_in}
use Rattle.nm_model.specs.Replica.{IsUnderAll, IsWithin, from_scratch}
use Rattle.nm_model.proofs.ListLemmas.{below_nth, not_some, prefix_self, same_number, some_inj}
use Rattle.nm_events.specs.Held.{Held}
use Rattle.nm_knowledge.specs.Gain.{Gain, IsGain}
use Rattle.nm_sim.specs.Network.{net_of}
use Rattle.nm_sim.specs.Part.{PartValue, Represents}
use Rattle.nm_book.specs.Book.{knowledge_of}
use Rattle.nm_book.specs.BookPart.{IsBook, pending_in}
use Rattle.nm_book.specs.Merging.{AreJoined, AreTold, IsGainOf, IsGrown, IsTurnOf, both_know, is_incoming, joined_at, known, other, with_gain}
use Rattle.nm_book.specs.Telling.{Follow, IsNext, known_of, told_each, told_one, with_message}
use Rattle.nm_book.specs.declared.message.Data.{Data}
use Rattle.nm_book.proofs.Safety.{next_case}
use Rattle.nm_book.proofs.Tellings.{known_here, set_elsewhere, set_here, set_same}

pub told_more : (knows : List (Know (List ℕ))) (ms : List Data) (m : Data) → told_each knows (ms ++ m ∷ []) ≡ told_one (told_each knows ms) m
told_more knows [] m = refl
told_more knows (x ∷ ms) m = told_more (told_one knows x) ms m

pub follow_more : (t : TopologyValue) (p : ℕ) (knows : List (Know (List ℕ))) (ms : List Data) (m : Data) → Follow t p knows ms → IsNext t p (told_each knows ms) m
    → Follow t p knows (ms ++ m ∷ [])
follow_more t p knows [] m follow next = (next, tt)
follow_more t p knows (x ∷ ms) m follow next = (follow.0, follow_more t p (told_one knows x) ms m follow.1 next)

pub set_twice : (l : List (Know (List ℕ))) (c : ℕ) (a b : Know (List ℕ)) → slice_set (slice_set l c a) c b ≡ slice_set l c b
set_twice [] c a b = refl
set_twice (x ∷ l) zero a b = refl
set_twice (x ∷ l) (suc c) a b = ap (λ z. x ∷ z) (set_twice l c a b)

take_front : (l k : List (ℕ × List ℕ)) → take (length l) (l ++ k) ≡ l
take_front [] k = refl
take_front (x ∷ l) k = ap (λ z. x ∷ z) (take_front l k)

take_suc : (l : List (ℕ × List ℕ)) (n : ℕ) (y : ℕ × List ℕ) → nth l n ≡ Some y → take n l ++ y ∷ [] ≡ take (suc n) l
take_suc [] n y e = let w : None ≡ Some y = e in absurd cc
take_suc (x ∷ l) zero y e = let is : ◌≡◌ {A = ℕ × List ℕ} x y = cc in ap (λ z. z ∷ []) (sym is)
take_suc (x ∷ l) (suc n) y e = ap (λ z. x ∷ z) (take_suc l n y e)

take_next : (l : List (ℕ × List ℕ)) (n : ℕ) (y : ℕ × List ℕ) → nth l n ≡ Some y → take n l ++ y ∷ [] ≡ take (n + 1) l
take_next l n y e = let more : suc n ≡ n + 1 = omega arith in take_suc l n y e ∙ ap (λ k. take k l) more

take_all : (l : List (ℕ × List ℕ)) → take (length l) l ≡ l
take_all [] = refl
take_all (x ∷ l) = ap (λ z. x ∷ z) (take_all l)

-- the longer list of the two is the join's
pub join_longer : (a b : Know (List ℕ)) → length a.list ≤ length b.list → (join a b).list ≡ b.list
join_longer a b h = go (leb (length a.list) (length b.list)) (grind (arith, nat_tests, h))
  where
    go : (z : Bool) → z ≡ true → cond z b.list a.list ≡ b.list
    go true e = refl
    go false e = let w : false ≡ true = e in absurd cc

pub join_shorter : (a b : Know (List ℕ)) → length b.list < length a.list → (join a b).list ≡ a.list
join_shorter a b h = go (leb (length a.list) (length b.list)) (grind (arith, nat_tests, h))
  where
    go : (z : Bool) → z ≡ false → cond z b.list a.list ≡ a.list
    go false e = refl
    go true e = let w : true ≡ false = e in absurd cc

same_length : (l rest k : List (ℕ × List ℕ)) → l ++ rest ≡ k → length k ≤ length l → l ≡ k
same_length [] [] k e h = e
same_length [] (y ∷ rest) [] e h = let w : ◌≡◌ {A = List (ℕ × List ℕ)} (y ∷ rest) [] = e in absurd cc
same_length [] (y ∷ rest) (z ∷ k) e h = absurd (omega (arith, h))
same_length (x ∷ l) rest [] e h = let w : ◌≡◌ {A = List (ℕ × List ℕ)} (x ∷ (l ++ rest)) [] = e in absurd cc
same_length (x ∷ l) rest (z ∷ k) e h =
    let head : ◌≡◌ {A = ℕ × List ℕ} x z = cc in
    let tail : ◌≡◌ {A = List (ℕ × List ℕ)} (l ++ rest) k = cc in
    ap (λ y. y ∷ l) head ∙ ap (λ y. z ∷ y) (same_length l rest k tail (omega (arith, h)))

-- a list that is not shorter is the join's
pub join_stays : (a b : Know (List ℕ)) → IsUnder a (join a b) → length b.list ≤ length a.list → a.list ≡ (join a b).list
join_stays a b under h = go (leb (length a.list) (length b.list)) refl under.begins
  where
    go : (z : Bool) → leb (length a.list) (length b.list) ≡ z → IsPrefix a.list (cond z b.list a.list) → a.list ≡ cond z b.list a.list
    go true e pre = same_length a.list pre.0 b.list pre.1 h
    go false e pre = refl

module _ (t : TopologyValue) (p : ℕ) (knows others : List (Know (List ℕ))) (c : ℕ) where
  -- channel c is told too
  pub told_at : (before after : List (Know (List ℕ))) (k : Know (List ℕ)) → AreTold t p knows others c before → c < length knows
      → (is_incoming t p knows others c ≡ true → (k.list ≡ (join (known t p knows others c) (other t p knows others c)).list)
      × (k.clock ≤ (join (known t p knows others c) (other t p knows others c)).clock) × ((known t p knows others c).clock ≤ k.clock))
      → (is_incoming t p knows others c ≡ false → k ≡ known t p knows others c)
      → after ≡ slice_set before c k → AreTold t p knows others (c + 1) after
  told_at before after k below there inside outside set = record {
    count = ap length set ∙ length-set before c k ∙ below.count;
    list = λ d h. next_case (λ d. is_incoming t p knows others d ≡ true → (slice_index_or after d nothing_known).list ≡ (join (known t p knows others d) (other t p knows others d)).list) d c h
        (λ lt comes. ap (λ (z : Know (List ℕ)). z.list) (away d (λ e. let w = sym e in absurd (omega (arith, lt, e)))) ∙ below.list d lt comes)
        (λ comes. ap (λ (z : Know (List ℕ)). z.list) here ∙ (inside comes).0);
    clock = λ d h. next_case (λ d. is_incoming t p knows others d ≡ true → (slice_index_or after d nothing_known).clock ≤ (join (known t p knows others d) (other t p knows others d)).clock) d c h
        (λ lt comes. let e = ap (λ (z : Know (List ℕ)). z.clock) (away d (λ e. absurd (omega (arith, lt, e)))) in let f = below.clock d lt comes in omega (arith, e, f))
        (λ comes. let e = ap (λ (z : Know (List ℕ)). z.clock) here in let f = (inside comes).1 in omega (arith, e, f));
    under = λ d h. next_case (λ d. is_incoming t p knows others d ≡ true → (known t p knows others d).clock ≤ (slice_index_or after d nothing_known).clock) d c h
        (λ lt comes. let e = ap (λ (z : Know (List ℕ)). z.clock) (away d (λ e. absurd (omega (arith, lt, e)))) in let f = below.under d lt comes in omega (arith, e, f))
        (λ comes. let e = ap (λ (z : Know (List ℕ)). z.clock) here in let f = (inside comes).2 in omega (arith, e, f));
    outside = λ d none. at d none (same_number d c);
    above = λ d h. away d (λ e. absurd (omega (arith, h, e))) ∙ below.above d (omega (arith, h));
  }
    where
      here : slice_index_or after c nothing_known ≡ k
      here = ap (λ l. slice_index_or l c nothing_known) set ∙ set_here before c k (let n = below.count in omega (arith, n, there))

      away : (d : ℕ) → (c ≡ d → ⊥) → slice_index_or after d nothing_known ≡ slice_index_or before d nothing_known
      away d apart = ap (λ l. slice_index_or l d nothing_known) set ∙ set_elsewhere before c d k apart

      at : (d : ℕ) → is_incoming t p knows others d ≡ false → (d ≡ c) ⊎ (d ≢ c) → slice_index_or after d nothing_known ≡ known t p knows others d
      at d none (inl same) = subst (λ z. slice_index_or after z nothing_known ≡ known t p knows others z) (sym same) (here ∙ outside (subst (λ z. is_incoming t p knows others z ≡ false) same none))
      at d none (inr apart) = away d (λ e. apart (sym e)) ∙ below.outside d none

  -- nothing of it is new, or it doesn't come in
  pub told_none : (before : List (Know (List ℕ))) → AreTold t p knows others c before → c < length knows
      → (is_incoming t p knows others c ≡ true → (known t p knows others c).list ≡ (join (known t p knows others c) (other t p knows others c)).list)
      → AreTold t p knows others (c + 1) before
  told_none before below there same =
      told_at before before (known t p knows others c) below there
      (λ comes. (same comes, omega arith, omega arith)) (λ none. refl)
      (sym (set_same before c) ∙ ap (λ k. slice_set before c k) (below.above c (omega arith)))

-- one channel's messages, one after another
module _ (t : TopologyValue) (p : ℕ) (knows before : List (Know (List ℕ))) (c : ℕ) (a b : Know (List ℕ)) where
  pub grown_first : (ms : List Data) → Follow t p knows ms → told_each knows ms ≡ before → slice_index_or before c nothing_known ≡ a
      → IsUnder a (join a b) → length a.list ≤ length b.list → IsGrown t p knows before (both_know c a b) (length a.list) ms
  grown_first ms follow is at under h =
      let longer = join_longer a b h in
      let begins : a.list ++ under.begins.0 ≡ b.list = under.begins.1 ∙ longer in
      record {
        follow = follow;
        now_known = a;
        set = is ∙ sym (set_same before c) ∙ ap (λ k. slice_set before c k) at;
        list = sym (take_front a.list under.begins.0) ∙ ap (take (length a.list)) begins;
        over = omega arith;
        under = omega arith;
        later = λ m x past e. under.later m x past (ap (λ l. nth l m) longer ∙ e);
      }

  pub grown_next : (n : ℕ) (ms : List Data) (time : ℕ) (x : List ℕ) → IsGrown t p knows before (both_know c a b) n ms → nth b.list n ≡ Some (time, x) → IsKnow b
      → comes_in (net_of t) p (receiving_iface t c) ≡ true → c < length before
      → IsGrown t p knows before (both_know c a b) (n + 1) (ms ++ record { channel = c; number = n; time = time; packet = x } ∷ [])
  grown_next n ms time x grown e is_know comes there =
      let k = grown.now_known in
      let m : Data = record { channel = c; number = n; time = time; packet = x } in
      let at : known_of (told_each knows ms) c ≡ k = ap (λ l. known_of l c) grown.set ∙ set_here before c k there in
      let within = below_nth b.list n (time, x) e in
      let counted : n ≡ length (known_of (told_each knows ms) c).list = sym (ap (λ (z : Know (List ℕ)). length z.list) at ∙ ap length grown.list ∙ length-take-le n b.list (omega (arith, within))) in
      let later = grown.later n (time, x) (omega arith) e in
      let clock = ap (λ (z : Know (List ℕ)). z.clock) at in
      let long = ap length grown.set ∙ length-set before c k in
      let next : IsNext t p (told_each knows ms) m = record { there = omega (arith, there, long); incoming = comes; number = counted; later = omega (arith, later, clock) } in
      let set : told_each knows (ms ++ m ∷ []) ≡ slice_set before c (with_message k time x) =
      told_more knows ms m ∙ ap (λ z. slice_set (told_each knows ms) c (with_message z time x)) at
      ∙ ap (λ l. slice_set l c (with_message k time x)) grown.set ∙ set_twice before c k (with_message k time x) in
      let last = is_know.last n (time, x) e in
      let over = grown.over in
      record {
        follow = follow_more t p knows ms m grown.follow next;
        now_known = with_message k time x;
        set = set;
        list = ap (λ l. l ++ (time, x) ∷ []) grown.list ∙ take_next b.list n (time, x) e;
        over = omega (arith, over, later);
        under = omega (arith, last);
        later = λ d y past f. let rise = is_know.rising n d (time, x) y (omega (arith, past)) e f in omega (arith, rise);
      }

-- and so all of them
pub grown_all : (t : TopologyValue) (p : ℕ) (knows others : List (Know (List ℕ))) (c : ℕ) (a b : Know (List ℕ)) (first ms : List Data) → IsTurnOf t p knows others (both_know c a b) first
    → length a.list < length b.list → is_incoming t p knows others c ≡ true → IsGrown t p knows (told_each knows first) (both_know c a b) (length b.list) ms → AreTold t p knows others (c + 1) (told_each knows ms)
grown_all t p knows others c a b first ms turn more comes grown =
    let ours : known t p knows others c ≡ a = turn.ours in
    let theirs : other t p knows others c ≡ b = turn.theirs in
    let list : grown.now_known.list ≡ (join a b).list = grown.list ∙ take_all b.list ∙ sym (join_longer a b (omega (arith, more))) in
    told_at t p knows others c (told_each knows first) (told_each knows ms) grown.now_known turn.below turn.there
    (λ h. (
      list ∙ ap (λ z. (join z b).list) (sym ours) ∙ ap (λ z. (join (known t p knows others c) z).list) (sym theirs),
      subst (λ z. grown.now_known.clock ≤ (join z (other t p knows others c)).clock) (sym ours) (subst (λ z. grown.now_known.clock ≤ (join a z).clock) (sym theirs) grown.under),
      subst (λ (z : Know (List ℕ)). z.clock ≤ grown.now_known.clock) (sym ours) grown.over,
    ))
    (λ none. let w : true ≡ false = sym comes ∙ none in absurd cc) grown.set

-- or there is nothing new of it
pub told_nothing : (t : TopologyValue) (p : ℕ) (knows others : List (Know (List ℕ))) (c : ℕ) (a b : Know (List ℕ)) (first : List Data) → IsTurnOf t p knows others (both_know c a b) first
    → (is_incoming t p knows others c ≡ true → a.list ≡ (join a b).list) → AreTold t p knows others (c + 1) (told_each knows first)
told_nothing t p knows others c a b first turn same =
    told_none t p knows others c (told_each knows first) turn.below turn.there
    (λ comes. ap (λ (z : Know (List ℕ)). z.list) turn.ours ∙ same comes ∙ ap (λ z. (join z b).list) (sym turn.ours) ∙ ap (λ z. (join (known t p knows others c) z).list) (sym turn.theirs))

-- once all is told, greater clocks change no state
module _ (t : TopologyValue) (p : ℕ) (knows others : List (Know (List ℕ))) (part : PartValue Held) where
  pub joined_book : (first after : List (Know (List ℕ))) → length knows ≡ length t.receivers → IsBook t p first part → AreTold t p knows others (length knows) first → AreJoined t p knows others after
      → ((c : ℕ) → c < length t.receivers → channel_from 0 t.receivers (receiving_iface t c) ≡ Some c)
      → ((i : ℕ) → comes_in (net_of t) p i ≡ true → (c : ℕ) × (c < length t.receivers) × (receiving_iface t c ≡ i))
      → ((K J : Knowledge (List ℕ)) → ((i : ℕ) → comes_in (net_of t) p i ≡ true → (K i).list ≡ (J i).list) → (k : ℕ) → from_scratch (net_of t) p K k ≡ from_scratch (net_of t) p J k)
      → ((K J : Knowledge (List ℕ)) → IsUnderAll (net_of t) p K J → (k : ℕ) → IsWithin (net_of t) p K k → IsWithin (net_of t) p J k)
      → IsBook t p after part
  joined_book first after total book are_told are_joined here numbered same within =
      let lists : (i : ℕ) → comes_in (net_of t) p i ≡ true → (knowledge_of t first i).list ≡ (knowledge_of t after i).list = λ i comes. (at i comes).0 in
      record {
        count = are_joined.count ∙ total;
        represents = subst (λ s. Represents pending_in t (Some p) part s) (same (knowledge_of t first) (knowledge_of t after) lists part.steps) book.represents;
        within = within (knowledge_of t first) (knowledge_of t after) (λ i comes. under i comes (at i comes)) part.steps book.within;
        all = book.all;
      }
    where
      joins : (d : ℕ) (z : Bool) → is_incoming t p knows others d ≡ z → z ≡ true → joined_at t p knows others d ≡ join (known t p knows others d) (other t p knows others d)
      joins d true e h = ap (λ y. if y then join (known t p knows others d) (other t p knows others d) else known t p knows others d) e
      joins d false e h = let w : false ≡ true = h in absurd cc

      at : (i : ℕ) → comes_in (net_of t) p i ≡ true → ((knowledge_of t first i).list ≡ (knowledge_of t after i).list) × ((knowledge_of t first i).clock ≤ (knowledge_of t after i).clock)
      at i comes =
          let found = numbered i comes in
          let d = found.0 in
          let low : d < length knows = let h = found.1 in omega (arith, h, total) in
          let incoming : is_incoming t p knows others d ≡ true = ap (comes_in (net_of t) p) found.2 ∙ comes in
          let was : knowledge_of t first i ≡ slice_index_or first d nothing_known = ap (knowledge_of t first) (sym found.2) ∙ known_here t first d (here d found.1) in
          let is : knowledge_of t after i ≡ join (known t p knows others d) (other t p knows others d) =
          ap (knowledge_of t after) (sym found.2) ∙ known_here t after d (here d found.1) ∙ are_joined.each d low ∙ joins d (is_incoming t p knows others d) refl incoming in
          let w = ap (λ (k : Know (List ℕ)). k.clock) was in
          let v = ap (λ (k : Know (List ℕ)). k.clock) is in
          let le = are_told.clock d low incoming in
          (ap (λ (k : Know (List ℕ)). k.list) was ∙ are_told.list d low incoming ∙ sym (ap (λ (k : Know (List ℕ)). k.list) is), omega (arith, w, v, le))

      over : (x y : Know (List ℕ)) → x.list ≡ y.list → x.clock ≤ y.clock → IsUnder x y
      over x y e le = record {
        begins = subst (λ l. IsPrefix x.list l) e (prefix_self x.list);
        later = λ n m past f. let low = below_nth y.list n m f in let long = ap length e in absurd (omega (arith, past, low, long));
        clock = le;
      }

      under : (i : ℕ) → comes_in (net_of t) p i ≡ true → ((knowledge_of t first i).list ≡ (knowledge_of t after i).list) × ((knowledge_of t first i).clock ≤ (knowledge_of t after i).clock)
          → IsUnder (knowledge_of t first i) (knowledge_of t after i)
      under i comes h = over (knowledge_of t first i) (knowledge_of t after i) h.0 h.1

-- what a channel knows after it took its gain
pub with_gain_is : (z : Bool) (a b : Know (List ℕ)) (g : Option Gain) → IsGainOf z a b g → with_gain a g ≡ (if z then join a b else a)
with_gain_is z a b None h = ap (λ y. if y then join a b else a) (sym h)
with_gain_is z a b (Some g) h = h.2 ∙ ap (λ y. if y then join a b else a) (sym h.0)

-- what holds of each member, and of one more
pub got_pushed : {A : Type 0} (Q : ℕ → A → Type 0) (l : List A) (x : A) → ((n : ℕ) (y : A) → slice_get l n ≡ Some y → Q n y) → Q (length l) x
    → (n : ℕ) (y : A) → slice_get (l ++ x ∷ []) n ≡ Some y → Q n y
got_pushed Q [] x each here zero y e = subst (λ z. Q 0 z) (some_inj x y e) here
got_pushed Q [] x each here (suc n) y e = absurd (not_some y e)
got_pushed Q (z ∷ l) x each here zero y e = each zero y e
got_pushed Q (z ∷ l) x each here (suc n) y e = got_pushed (λ m. Q (suc m)) l x (λ m. each (suc m)) here n y e

-- the first of the rest of a list
pub drop_first : {A : Type 0} (l : List A) (n : ℕ) (x : A) (r : List A) → drop n l ≡ x ∷ r → (slice_get l n ≡ Some x) × (drop (suc n) l ≡ r) × (n < length l)
drop_first {A} [] zero x r e = let w : ◌≡◌ {A = List A} [] (x ∷ r) = e in absurd cc
drop_first {A} [] (suc n) x r e = let w : ◌≡◌ {A = List A} [] (x ∷ r) = e in absurd cc
drop_first {A} (y ∷ l) zero x r e =
    let head : ◌≡◌ {A = A} y x = cc in
    let tail : ◌≡◌ {A = List A} l r = cc in
    (ap (λ z. Some z) head, tail, omega arith)
drop_first {A} (y ∷ l) (suc n) x r e = let rest = drop_first l n x r e in (rest.0, rest.1, let h = rest.2 in omega (arith, h))

pub gain_fits : (z : Bool) (a b : Know (List ℕ)) (g : Option Gain) → IsGainOf z a b g → IfSome g (IsGain a)
gain_fits z a b None h = tt
gain_fits z a b (Some g) h = h.1

pub none_left : {A : Type 0} (l : List A) → length l ≡ 0 → l ≡ []
none_left [] e = refl
none_left (x ∷ l) e = absurd (omega (arith, e))
