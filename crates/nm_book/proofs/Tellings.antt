-- A message that is told: what is known of its channel grows, and its arrival is to come.
use Rattle.std.proofs.Common.{◌≡◌, ℕ, zero, suc, ◌+◌, ◌<◌, ◌≤◌, ◌==◌, Bool, true, false, cond, ltb, if◌then◌else◌, List, [], ◌∷◌, ◌++◌, length, slice_get, slice_set, slice_index_or, get_or, Option, Some, None, refl, sym, ◌∙◌, ap, subst, arith}
use Rattle.std.proofs.Math.Path.{fun_ext}
use Rattle.std.proofs.lemmas.Bool.Decides.{nat_tests}
use Rattle.std.proofs.lemmas.Option.{get_or_from_slice_get, slice_get_read}
use Rattle.nm_topology.specs.Topology.{channel_from, receiving_iface}
use Rattle.nm_topology.specs.TopologyValue.{TopologyValue}
use Rattle.std.proofs.lemmas.List.{length-set}
use Rattle.std.specs.FinMap.{insert}
use Rattle.nm_base.specs.declared.event.Event.TheVariants.{Delivery}
use Rattle.nm_base.specs.declared.event.Origin.TheVariants.{Arrival}
use Rattle.nm_base.specs.declared.key.Place.TheVariants.{Arrive}
use Rattle.nm_base.specs.Key.{key_of}
use Rattle.nm_model.specs.Knowledge.{IsUnder, Know, Knowledge, nothing_known}
use Rattle.nm_model.specs.Accept.{Accepted, Gap, Known, Raised, accept_null, null_at}
use Rattle.nm_model.specs.Lists.{nth, set_at}
use Rattle.nm_model.specs.Partition.{comes_in}
use Rattle.nm_model.specs.Replica.{IsUnderAll, IsWithin, from_scratch}
use Rattle.nm_events.specs.Held.{Held}
use Rattle.nm_sim.specs.Network.{net_of}
use Rattle.nm_sim.specs.Part.{PartValue, Represents, with_arrival}
use Rattle.nm_book.specs.Book.{known_at, knowledge_of}
use Rattle.nm_book.specs.BookPart.{IsBook, pending_in}

is_same : (a b : ℕ) → (a == b) ≡ true → a ≡ b
is_same a b h = grind (arith, nat_tests, h)

-- a channel's number is where its interface stands
number_at : (n : ℕ) (rs : List ℕ) (j d : ℕ) → channel_from n rs j ≡ Some d → (k : ℕ) × (d ≡ n + k) × (slice_get rs k ≡ Some j)
number_at n [] j d h = let e : None ≡ Some d = h in absurd cc
number_at n (r ∷ rs) j d h = go (λ f. number_at (suc n) rs j d f) (r == j) refl h
  where
    go : (channel_from (suc n) rs j ≡ Some d → (k : ℕ) × (d ≡ suc n + k) × (slice_get rs k ≡ Some j)) → (b : Bool) → (r == j) ≡ b → (if b then Some n else channel_from (suc n) rs j) ≡ Some d → (k : ℕ) × (d ≡ n + k) × (slice_get (r ∷ rs) k ≡ Some j)
    go more true e f = let g : n ≡ d = cc in (0, omega (arith, g), ap (λ z. Some z) (is_same r j e))
    go more false e f = let rest = more f in let g = rest.1 in (suc rest.0, omega (arith, g), rest.2)

pub comes_at : (t : TopologyValue) (j d : ℕ) → channel_from 0 t.receivers j ≡ Some d → receiving_iface t d ≡ j
comes_at t j d h =
    let found = number_at 0 t.receivers j d h in
    let same : d ≡ found.0 = let g = found.1 in omega (arith, g) in
    get_or_from_slice_get t.receivers d j (length t.ifaces) (ap (slice_get t.receivers) same ∙ found.2)

pub set_here : (l : List (Know (List ℕ))) (c : ℕ) (a : Know (List ℕ)) → c < length l → slice_index_or (slice_set l c a) c nothing_known ≡ a
set_here [] c a h = absurd (omega (arith, h))
set_here (x ∷ l) zero a h = refl
set_here (x ∷ l) (suc c) a h = set_here l c a (omega (arith, h))

pub set_elsewhere : (l : List (Know (List ℕ))) (c d : ℕ) (a : Know (List ℕ)) → (c ≡ d → ⊥) → slice_index_or (slice_set l c a) d nothing_known ≡ slice_index_or l d nothing_known
set_elsewhere [] c d a h = refl
set_elsewhere (x ∷ l) zero zero a h = absurd (h refl)
set_elsewhere (x ∷ l) zero (suc d) a h = refl
set_elsewhere (x ∷ l) (suc c) zero a h = refl
set_elsewhere (x ∷ l) (suc c) (suc d) a h = set_elsewhere l c d a (λ e. h (omega (arith, e)))

module _ (t : TopologyValue) (l : List (Know (List ℕ))) (c : ℕ) (here : channel_from 0 t.receivers (receiving_iface t c) ≡ Some c) where
  -- what is known at the channel's interface
  pub known_here : knowledge_of t l (receiving_iface t c) ≡ slice_index_or l c nothing_known
  known_here = ap (known_at l) here

  -- once it is more, nothing changed elsewhere
  pub known_set : (a : Know (List ℕ)) → c < length l → knowledge_of t (slice_set l c a) ≡ set_at (knowledge_of t l) (receiving_iface t c) a
  unfolding set_at
  known_set a within = fun_ext each
    where
      at : (j : ℕ) (o : Option ℕ) → channel_from 0 t.receivers j ≡ o → (b : Bool) → (j == receiving_iface t c) ≡ b → known_at (slice_set l c a) o ≡ cond b a (known_at l o)
      at j o e true s =
          let is : o ≡ Some c = sym e ∙ ap (channel_from 0 t.receivers) (is_same j _ s) ∙ here in
          ap (known_at (slice_set l c a)) is ∙ set_here l c a within
      at j None e false s = refl
      at j (Some d) e false s = set_elsewhere l c d a (λ same. let wrong : (j == receiving_iface t c) ≡ true = other j d e same in absurd (let x : true ≡ false = sym wrong ∙ s in cc))
        where
          other : (j d : ℕ) → channel_from 0 t.receivers j ≡ Some d → c ≡ d → (j == receiving_iface t c) ≡ true
          other j d e same = let is : receiving_iface t c ≡ j = ap (receiving_iface t) same ∙ comes_at t j d e in grind (arith, nat_tests, is)

      each : (j : ℕ) → knowledge_of t (slice_set l c a) j ≡ set_at (knowledge_of t l) (receiving_iface t c) a j
      each j = at j (channel_from 0 t.receivers j) refl (j == receiving_iface t c) refl

-- a message that is not before the clock makes it more
pub more_is_over : (a : Know (List ℕ)) (time : ℕ) (x : List ℕ) → a.clock ≤ time → IsUnder a (record { list = a.list ++ (time, x) ∷ []; clock = time })
more_is_over a time x h = record {
  begins = ((time, x) ∷ [], refl);
  later = λ n b past e. last a.list n b past e;
  clock = h;
}
  where
    last : (l : List (ℕ × List ℕ)) (n : ℕ) (b : ℕ × List ℕ) → length l ≤ n → nth (l ++ (time, x) ∷ []) n ≡ Some b → a.clock ≤ b.0
    last [] zero b past e = let g : (time, x) ≡ b = cc in subst (λ z. a.clock ≤ z.0) g h
    last [] (suc n) b past e = let g : None ≡ Some b = e in absurd cc
    last (y ∷ l) zero b past e = absurd (omega (arith, past))
    last (y ∷ l) (suc n) b past e = last l n b (omega (arith, past)) e

-- A replica over what it knows, and over one message more of a channel.
module _ (t : TopologyValue) (p : ℕ) (l : List (Know (List ℕ))) (part new : PartValue Held) (c time : ℕ) (x : List ℕ) where
  abbrev i : ℕ
  i = receiving_iface t c

  abbrev K : Knowledge (List ℕ)
  K = knowledge_of t l

  abbrev known : Know (List ℕ)
  known = slice_index_or l c nothing_known

  abbrev grown : Know (List ℕ)
  grown = record { list = known.list ++ (time, x) ∷ []; clock = time }

  -- the message's arrival is to come
  pub told_data : channel_from 0 t.receivers i ≡ Some c → IsBook t p l part → c < length l → comes_in (net_of t) p i ≡ true
      → ((K : Knowledge (List ℕ)) (k : ℕ) → IsWithin (net_of t) p K k → (i : ℕ) → comes_in (net_of t) p i ≡ true → (b : ℕ × List ℕ) → (K i).clock ≤ b.0
      → from_scratch (net_of t) p (set_at K i (record { list = (K i).list ++ b ∷ []; clock = b.0 })) k
      ≡ record (from_scratch (net_of t) p K k) { pending = insert (from_scratch (net_of t) p K k).pending (key_of b.0 (Arrive i) (length (K i).list)) (Delivery (Arrival i) b.1) })
      → ((K J : Knowledge (List ℕ)) → IsUnderAll (net_of t) p K J → (k : ℕ) → IsWithin (net_of t) p K k → IsWithin (net_of t) p J k)
      → ((K : Knowledge (List ℕ)) (i : ℕ) (a : Know (List ℕ)) → IsUnder (K i) a → IsUnderAll (net_of t) p K (set_at K i a))
      → known.clock ≤ time → IsUnder known grown
      → Represents pending_in t (Some p) new (with_arrival i (length known.list) time x (from_scratch (net_of t) p K part.steps))
      → new.steps ≡ part.steps → new.records.keeping ≡ part.records.keeping → IsBook t p (slice_set l c grown) new
  told_data here book within comes message within_more more later under represents steps keeping =
      let at_here : K i ≡ known = known_here t l c here in
      let same : knowledge_of t (slice_set l c grown) ≡ set_at K i grown = known_set t l c here grown within in
      let state : from_scratch (net_of t) p (knowledge_of t (slice_set l c grown)) part.steps ≡ with_arrival i (length known.list) time x (from_scratch (net_of t) p K part.steps) =
      ap (λ J. from_scratch (net_of t) p J part.steps) same
      ∙ subst (λ (z : Know (List ℕ)). from_scratch (net_of t) p (set_at K i (record { list = z.list ++ (time, x) ∷ []; clock = time })) part.steps
      ≡ with_arrival i (length z.list) time x (from_scratch (net_of t) p K part.steps)) at_here
      (message K part.steps book.within i comes (time, x) (subst (λ (z : Know (List ℕ)). z.clock ≤ time) (sym at_here) later))
      in
      record {
        count = length-set l c _ ∙ book.count;
        represents = subst (λ k. Represents pending_in t (Some p) new (from_scratch (net_of t) p (knowledge_of t (slice_set l c grown)) k)) (sym steps)
            (subst (λ s. Represents pending_in t (Some p) new s) (sym state) represents);
        within = subst (λ k. IsWithin (net_of t) p (knowledge_of t (slice_set l c grown)) k) (sym steps)
            (subst (λ J. IsWithin (net_of t) p J part.steps) (sym same)
            (within_more K (set_at K i grown) (more K i grown (subst (λ z. IsUnder z grown) (sym at_here) under)) part.steps book.within));
        all = ap (λ k. k.wanted) keeping ∙ book.all;
      }

-- The same over a greater clock of a channel: no state changes.
module _ (t : TopologyValue) (p : ℕ) (l : List (Know (List ℕ))) (part : PartValue Held) (c : ℕ) where
  abbrev iface : ℕ
  iface = receiving_iface t c

  abbrev now_known : Know (List ℕ)
  now_known = slice_index_or l c nothing_known

  pub told_clock : channel_from 0 t.receivers iface ≡ Some c → IsBook t p l part → c < length l → comes_in (net_of t) p iface ≡ true
      → ((K : Knowledge (List ℕ)) (k : ℕ) → IsWithin (net_of t) p K k → (i : ℕ) → comes_in (net_of t) p i ≡ true → (time : ℕ) → (K i).clock ≤ time
      → from_scratch (net_of t) p (set_at K i (record { list = (K i).list; clock = time })) k ≡ from_scratch (net_of t) p K k)
      → ((K J : Knowledge (List ℕ)) → IsUnderAll (net_of t) p K J → (k : ℕ) → IsWithin (net_of t) p K k → IsWithin (net_of t) p J k)
      → ((K : Knowledge (List ℕ)) (i : ℕ) (a : Know (List ℕ)) → IsUnder (K i) a → IsUnderAll (net_of t) p K (set_at K i a))
      → (time : ℕ) → now_known.clock ≤ time → IsUnder now_known (record { list = now_known.list; clock = time })
      → IsBook t p (slice_set l c (record { list = now_known.list; clock = time })) part
  told_clock here book within comes clock within_more more time later under =
      let K : Knowledge (List ℕ) = knowledge_of t l in
      let raised : Know (List ℕ) = record { list = now_known.list; clock = time } in
      let at_here : K iface ≡ now_known = known_here t l c here in
      let same : knowledge_of t (slice_set l c raised) ≡ set_at K iface raised = known_set t l c here raised within in
      let state : from_scratch (net_of t) p (knowledge_of t (slice_set l c raised)) part.steps ≡ from_scratch (net_of t) p K part.steps =
      ap (λ J. from_scratch (net_of t) p J part.steps) same
      ∙ subst (λ (z : Know (List ℕ)). from_scratch (net_of t) p (set_at K iface (record { list = z.list; clock = time })) part.steps ≡ from_scratch (net_of t) p K part.steps) at_here
      (clock K part.steps book.within iface comes time (subst (λ (z : Know (List ℕ)). z.clock ≤ time) (sym at_here) later))
      in
      record {
        count = length-set l c _ ∙ book.count;
        represents = subst (λ s. Represents pending_in t (Some p) part s) (sym state) book.represents;
        within = subst (λ J. IsWithin (net_of t) p J part.steps) (sym same)
            (within_more K (set_at K iface raised) (more K iface raised (subst (λ z. IsUnder z raised) (sym at_here) under)) part.steps book.within);
        all = book.all;
      }

-- what is put where it stands changes nothing
pub set_same : (l : List (Know (List ℕ))) (c : ℕ) → slice_set l c (slice_index_or l c nothing_known) ≡ l
set_same [] c = refl
set_same (x ∷ l) zero = refl
set_same (x ∷ l) (suc c) = ap (λ z. x ∷ z) (set_same l c)

-- a null message was taken in, or changed nothing
module _ (t : TopologyValue) (p : ℕ) (l : List (Know (List ℕ))) (part : PartValue Held) (c : ℕ) where
  pub told_null : (book : IsBook t p l part)
      → ((time : ℕ) → (slice_index_or l c nothing_known).clock ≤ time → IsUnder (slice_index_or l c nothing_known) (record { list = (slice_index_or l c nothing_known).list; clock = time })
      → IsBook t p (slice_set l c (record { list = (slice_index_or l c nothing_known).list; clock = time })) part)
      → (n time : ℕ) → IsUnder (slice_index_or l c nothing_known) (accept_null (slice_index_or l c nothing_known) n time).after
      → IsBook t p (slice_set l c (accept_null (slice_index_or l c nothing_known) n time).after) part
  told_null book raise n time = at_once (nth (slice_index_or l c nothing_known).list n)
    where
      same : IsBook t p (slice_set l c (slice_index_or l c nothing_known)) part
      same = subst (λ z. IsBook t p z part) (sym (set_same l c)) book

      in_turn : (a b : Bool) → ltb (slice_index_or l c nothing_known).clock time ≡ b
          → IsUnder (slice_index_or l c nothing_known) (cond a (cond {A = Accepted (List ℕ)} b (record { answer = Raised; after = record (slice_index_or l c nothing_known) { clock = time } }) (record { answer = Known; after = slice_index_or l c nothing_known })) (record { answer = Gap (length (slice_index_or l c nothing_known).list); after = slice_index_or l c nothing_known })).after
          → IsBook t p (slice_set l c (cond a (cond {A = Accepted (List ℕ)} b (record { answer = Raised; after = record (slice_index_or l c nothing_known) { clock = time } }) (record { answer = Known; after = slice_index_or l c nothing_known })) (record { answer = Gap (length (slice_index_or l c nothing_known).list); after = slice_index_or l c nothing_known })).after) part
      in_turn false b e under = same
      in_turn true false e under = same
      in_turn true true e under = raise time (grind (arith, nat_tests, e)) under

      at_once : (o : Option (ℕ × List ℕ)) → IsUnder (slice_index_or l c nothing_known) (null_at o (slice_index_or l c nothing_known) n time).after
          → IsBook t p (slice_set l c (null_at o (slice_index_or l c nothing_known) n time).after) part
      at_once (Some m) under = same
      at_once None under = in_turn (n == length (slice_index_or l c nothing_known).list) (ltb (slice_index_or l c nothing_known).clock time) refl under

-- what was read at c
pub read_known : (xs : List (Know (List ℕ))) (i c : ℕ) (m : Know (List ℕ)) → i ≡ c → c < length xs → m ≡ get_or xs i m → slice_index_or xs c nothing_known ≡ m
read_known xs i c m e within f = get_or_from_slice_get xs c m nothing_known (slice_get_read xs (length xs) c m refl within (f ∙ ap (λ z. get_or xs z m) e))
