-- After so many rounds every partition is done.
use Rattle.std.proofs.Common.{◌≡◌, ℕ, zero, suc, ◌+◌, ◌*◌, ◌≤◌, ◌==◌, min, Bool, true, false, cond, ltb, List, [], ◌∷◌, ◌++◌, length, drop, Option, Some, None, refl, sym, ap, ap₂, ◌∙◌, subst, arith, append_assoc, append-nil, length-append, mul_comm, ◌-◌, ◌/◌}
use Rattle.std.proofs.lemmas.Bool.Decides.{nat_tests}
use Rattle.std.proofs.Math.Seq.{drop-append_seam}
use Rattle.nm_base.specs.declared.key.Place.TheVariants.{Arrive}
use Rattle.nm_base.specs.declared.key.Key.{Key}
use Rattle.nm_model.specs.Accept.{New, Known, Raised, Late, NotRising, Gap, Accepted, last_from, data_at, accept_data, null_at, accept_null}
use Rattle.nm_model.specs.EventList.{least, next_time}
use Rattle.nm_model.specs.Replica.{from_scratch, safe_time, safe_among, IsWithin, IsUnderAll}
use Rattle.nm_model.specs.Knowledge.{Knowledge, Know, IsValid, IsUnder, no_knowledge}
use Rattle.nm_model.specs.Partition.{in_part, comes_in, sender_of}
use Rattle.nm_model.specs.Lists.{nth, IsPrefix, IsRising}
use Rattle.nm_model.specs.Network.{Net, IsNet}
use Rattle.nm_model.specs.Before.{IsKnowledge, IsBefore, history, trace}
use Rattle.nm_model.specs.Run.{pends_before}
use Rattle.nm_model.specs.Rounds.{round_count, given, hear_list, hear, promised, heard_on, IsRounds}
use Rattle.nm_model.specs.World.{Replica}
use Rattle.nm_model.proofs.Keys.{least_has}
use Rattle.nm_model.proofs.ListLemmas.{number_tied, prefix_nth}
use Rattle.nm_model.proofs.Cut.{safe_stop}
use Rattle.nm_model.proofs.CutLaw.{quiet, out_prefix}
use Rattle.nm_model.proofs.Promises.{out_later}
use Rattle.nm_model.specs.Promise.{Promising, Plain, Tight, lookahead}
use Rattle.nm_model.proofs.Books.{books, within_more}
use Rattle.nm_model.proofs.Accepting.{last_is, under_self, under_both, data_under, null_under, null_valid, valid_next}
use Rattle.nm_model.proofs.Certified.{from_since}
use Rattle.nm_model.proofs.Stated.{times, before, within_only, exact, count}
use Rattle.nm_base.specs.declared.event.Event.{Event}

module _ {P : Type 0} (same : P → P → Bool) where
  past_end : {A : Type 0} (l : List A) → nth l (length l) ≡ None
  past_end [] = refl
  past_end (x ∷ l) = past_end l

  -- the next true message is new
  data_new : (a : Know P) (H : List (ℕ × P)) → IsRising H → IsValid a H → (b : ℕ × P) → nth H (length a.list) ≡ Some b → (accept_data same a (length a.list) b).after ≡ record { list = a.list ++ b ∷ []; clock = b.0 }
  data_new a H rising v b e =
      ap (λ o. (data_at same o a (length a.list) b).after) (past_end a.list)
      ∙ ap (λ z. (cond z (cond (ltb b.0 a.clock) (record { answer = Late a.clock; after = a }) (cond {A = Accepted P} (last_from b.0 a.list) (record { answer = NotRising; after = a }) (record { answer = New; after = record { list = a.list ++ b ∷ []; clock = b.0 } }))) (record { answer = Gap (length a.list); after = a })).after) (number_tied (length a.list))
      ∙ ap (λ z. (cond z (record { answer = Late a.clock; after = a }) (cond {A = Accepted P} (last_from b.0 a.list) (record { answer = NotRising; after = a }) (record { answer = New; after = record { list = a.list ++ b ∷ []; clock = b.0 } }))).after) in_time
      ∙ ap (λ z. (cond {A = Accepted P} z (record { answer = NotRising; after = a }) (record { answer = New; after = record { list = a.list ++ b ∷ []; clock = b.0 } })).after) (rises (last_from b.0 a.list) refl)
    where
      in_time : ltb b.0 a.clock ≡ false
      in_time = let l = v.later (length a.list) b (omega arith) e in grind (arith, nat_tests)

      rises : (z : Bool) → last_from b.0 a.list ≡ z → z ≡ false
      rises false h = refl
      rises true h = absurd (
          let l = last_is b.0 a.list h in
          let f = prefix_nth _ _ l.0 l.1 v.begins l.3 in
          let r = rising l.0 (length a.list) l.1 b (omega (arith, l.2)) f e in omega (arith, l.4))

  -- messages that go on as the history does are all taken
  list_heard : (a : Know P) (H : List (ℕ × P)) → IsRising H → IsValid a H → (l : List (ℕ × P)) → IsPrefix (a.list ++ l) H → ((hear_list same a (length a.list) l).list ≡ a.list ++ l) × IsValid (hear_list same a (length a.list) l) H
  list_heard a H rising v [] pre = (sym (append-nil a.list), v)
  list_heard a H rising v (b ∷ l) pre =
      let at : nth H (length a.list) ≡ Some b = prefix_nth _ _ (length a.list) b pre (seam a.list b l) in
      let new = data_new a H rising v b at in
      let next : Know P = record { list = a.list ++ b ∷ []; clock = b.0 } in
      let assoc : (a.list ++ b ∷ []) ++ l ≡ a.list ++ b ∷ l = append_assoc a.list (b ∷ []) l in
      let r = list_heard (record { list = a.list ++ b ∷ []; clock = b.0 }) H rising (valid_next a H rising v b at) l (subst (λ z. IsPrefix z H) (sym assoc) pre) in
      let n : length (a.list ++ b ∷ []) ≡ suc (length a.list) = omega (arith, length-append a.list (b ∷ [])) in
      let same_way : hear_list same (record { list = a.list ++ b ∷ []; clock = b.0 }) (length (a.list ++ b ∷ [])) l ≡ hear_list same (accept_data same a (length a.list) b).after (suc (length a.list)) l = ap₂ (λ x m. hear_list same x m l) (sym new) n in
      (ap (λ x. x.list) (sym same_way) ∙ r.0 ∙ assoc, subst (λ x. IsValid x H) same_way r.1)
    where
      seam : (xs : List (ℕ × P)) (y : ℕ × P) (ys : List (ℕ × P)) → nth (xs ++ y ∷ ys) (length xs) ≡ Some y
      seam [] y ys = refl
      seam (x ∷ xs) y ys = seam xs y ys

  list_under : (a : Know P) (n : ℕ) (l : List (ℕ × P)) → IsUnder a (hear_list same a n l)
  list_under a n [] = under_self a
  list_under a n (b ∷ l) = under_both _ _ _ (data_under same a n b) (list_under (accept_data same a n b).after (suc n) l)

  -- a null message with the right count raises the clock
  null_clock : (a : Know P) (n t : ℕ) → n ≡ length a.list → ((accept_null a n t).after.list ≡ a.list) × (t ≤ (accept_null a n t).after.clock)
  null_clock a n t e = subst (λ o. ((null_at o a n t).after.list ≡ a.list) × (t ≤ (null_at o a n t).after.clock)) (sym none) counted
    where
      none : nth a.list n ≡ None
      none = ap (nth a.list) e ∙ past_end a.list

      raised : (z : Bool) → ltb a.clock t ≡ z → ((cond {A = Accepted P} z (record { answer = Raised; after = record a { clock = t } }) (record { answer = Known; after = a })).after.list ≡ a.list) × (t ≤ (cond {A = Accepted P} z (record { answer = Raised; after = record a { clock = t } }) (record { answer = Known; after = a })).after.clock)
      raised true h = (refl, omega arith)
      raised false h = (refl, grind (arith, nat_tests))

      counted : ((null_at None a n t).after.list ≡ a.list) × (t ≤ (null_at None a n t).after.clock)
      counted = subst (λ z. ((cond z (cond {A = Accepted P} (ltb a.clock t) (record { answer = Raised; after = record a { clock = t } }) (record { answer = Known; after = a })) (record { answer = Gap (length a.list); after = a })).after.list ≡ a.list) × (t ≤ (cond z (cond {A = Accepted P} (ltb a.clock t) (record { answer = Raised; after = record a { clock = t } }) (record { answer = Known; after = a })) (record { answer = Gap (length a.list); after = a })).after.clock)) (sym (ap (λ m. m == length a.list) e ∙ number_tied (length a.list))) (raised (ltb a.clock t) refl)

  -- what a channel's receiver knows once it has heard all
  pub heard_all : (a : Know P) (H : List (ℕ × P)) → IsRising H → IsValid a H → (out : List (ℕ × P)) (t : ℕ) → IsPrefix a.list out → IsPrefix out H → ((i : ℕ) (x : ℕ × P) → length out ≤ i → nth H i ≡ Some x → t ≤ x.0) → ((hear same a out t).list ≡ out) × (t ≤ (hear same a out t).clock) × IsValid (hear same a out t) H × IsUnder a (hear same a out t)
  heard_all a H rising v out t pre begins later =
      let rest : a.list ++ drop (length a.list) out ≡ out = subst (λ z. a.list ++ drop (length a.list) z ≡ z) pre.1 (ap (λ z. a.list ++ z) (drop-append_seam a.list pre.0)) in
      let l = list_heard a H rising v (drop (length a.list) out) (subst (λ z. IsPrefix z H) (sym rest) begins) in
      let b = hear_list same a (length a.list) (drop (length a.list) out) in
      let list : (hear_list same a (length a.list) (drop (length a.list) out)).list ≡ out = l.0 ∙ rest in
      let c = null_clock b (length out) t (ap length (sym list)) in
      (c.0 ∙ list, c.1, (null_valid b H l.1 (length out) t later).1, under_both _ _ _ (list_under a (length a.list) (drop (length a.list) out)) (null_under b (length out) t))

module _ {P N : Type 0} (net : Net P N) where
  pub safe_at_least : (p : ℕ) (K : Knowledge P) (t n : ℕ) → t ≤ net.stop → ((c : ℕ) → comes_in net p c ≡ true → t ≤ (K c).clock) → t ≤ safe_among net p K n
  safe_at_least p K t zero h f = h
  safe_at_least p K t (suc n) h f = go (comes_in net p n) refl (safe_at_least p K t n h f)
    where
      go : (z : Bool) → comes_in net p n ≡ z → t ≤ safe_among net p K n → t ≤ cond z (min (K n).clock (safe_among net p K n)) (safe_among net p K n)
      go true e r = let c = f n e in omega arith
      go false e r = r

  -- a partition with no channel is never held up
  pub alone_safe : (p : ℕ) → ((c : ℕ) → comes_in net p c ≡ true → ⊥) → (K : Knowledge P) → safe_time net p K ≡ net.stop
  alone_safe p none K = let h = safe_at_least p K net.stop net.ifaces (omega arith) (λ c ch. absurd (none c ch)) in let s = safe_stop net p K net.ifaces in omega arith

module _ {P N : Type 0} (net : Net P N) (ok : IsNet net) (same : P → P → Bool) (eq : (x : P) → same x x ≡ true) (last : ℕ) (ends : IsBefore net net.stop last) (kind : Promising) (b : ℕ → ℕ → Replica P) (rounds : IsRounds net same kind b) (lead : ℕ) (leads : (p c : ℕ) → comes_in net p c ≡ true → lead ≤ lookahead net kind c) where
  -- what holds after round j
  record After (j : ℕ) : Type 0 where
    valid : (p c : ℕ) → comes_in net p c ≡ true → IsValid ((b j p).knowledge c) (history net last c)
    within : (p : ℕ) → IsWithin net p (b j p).knowledge (b j p).ran
    told : (p c : ℕ) → comes_in net p c ≡ true → ((b j p).knowledge c).list ≡ (from_scratch net (sender_of net c) (b j (sender_of net c)).knowledge (b j (sender_of net c)).ran).sent c
    far : (p : ℕ) → min net.stop (j * lead) ≤ safe_time net p (b j p).knowledge

  after_none : After 0
  after_none = record {
    valid = λ p c ch. subst (λ z. IsValid (z c) (history net last c)) (sym (empty p)) (record { begins = (history net last c, refl); later = λ n x le e. omega arith });
    within = λ p m lt. absurd (let e = ap (λ x. x.ran) (rounds.opens p) in omega arith);
    told = λ p c ch. ap (λ z. (z c).list) (empty p) ∙ sym (ap (λ (x : Replica P). (from_scratch net (sender_of net c) x.knowledge x.ran).sent c) (rounds.opens (sender_of net c)));
    far = λ p. omega arith;
  }
    where
      empty : (p : ℕ) → (b 0 p).knowledge ≡ no_knowledge
      empty p = ap (λ x. x.knowledge) (rounds.opens p)

  module _ (j : ℕ) (h : After j) where
    abbrev mid : ℕ → Replica P
    mid q = record { knowledge = (b j q).knowledge; ran = (b (suc j) q).ran }

    abbrev K : ℕ → Knowledge P
    K q = (b j q).knowledge

    abbrev k : ℕ → ℕ
    k q = (b (suc j) q).ran

    ran_within : (q : ℕ) → IsWithin net q (K q) (k q)
    ran_within q = (rounds.runs j q).first

    ran_on : (q : ℕ) → (b j q).ran ≤ k q
    ran_on q = within_only net ok q (K q) (b j q).ran (k q) (rounds.runs j q) (h.within q)

    own_end : (c : ℕ) → in_part net (sender_of net c) (Arrive (net.far_end c)) ≡ true
    own_end c = number_tied (sender_of net c)

    given_begins : (c : ℕ) → IsPrefix (given net mid c) (history net last c)
    given_begins c = out_prefix net ok (sender_of net c) (K (sender_of net c)) last ends.over (λ d ch. h.valid (sender_of net c) d ch) (k (sender_of net c)) c (ran_within (sender_of net c)) (own_end c)

    known_begins : (p c : ℕ) → comes_in net p c ≡ true → IsPrefix ((K p) c).list (given net mid c)
    known_begins p c ch = subst (λ l. IsPrefix l (given net mid c)) (sym (h.told p c ch))
        ((from_since net ok (sender_of net c) (K (sender_of net c)) (b j (sender_of net c)).ran (k (sender_of net c)) 0 (ran_on (sender_of net c)) (λ q y e. omega arith)).grows c)

    now : (p c : ℕ) → comes_in net p c ≡ true → ((hear same ((K p) c) (given net mid c) (promised net mid kind c)).list ≡ given net mid c) × (promised net mid kind c ≤ (hear same ((K p) c) (given net mid c) (promised net mid kind c)).clock) × IsValid (hear same ((K p) c) (given net mid c) (promised net mid kind c)) (history net last c) × IsUnder ((K p) c) (hear same ((K p) c) (given net mid c) (promised net mid kind c))
    now p c ch = heard_all same ((K p) c) (history net last c) (times net ok last c) (h.valid p c ch) (given net mid c) (promised net mid kind c) (known_begins p c ch) (given_begins c)
        (λ i x le e. out_later net ok (sender_of net c) (K (sender_of net c)) last ends.over (λ d dh. h.valid (sender_of net c) d dh) (k (sender_of net c)) c (ran_within (sender_of net c)) (own_end c) i x le e kind)

    is_heard : (p c : ℕ) → comes_in net p c ≡ true → (b (suc j) p).knowledge c ≡ hear same ((K p) c) (given net mid c) (promised net mid kind c)
    is_heard p c ch =
        ap (λ (z : Knowledge P). z c) (rounds.hears j p)
        ∙ ap (λ z. cond z (hear same (K p c) (given net mid c) (promised net mid kind c)) (K p c)) ch

    under : (p : ℕ) → IsUnderAll net p (K p) (b (suc j) p).knowledge
    under p c ch = subst (IsUnder ((K p) c)) (sym (is_heard p c ch)) (now p c ch).3

    -- a partition that has run all that is safe promises more than its safe time
    promised_far : (c : ℕ) → safe_time net (sender_of net c) (K (sender_of net c)) + lookahead net kind c ≤ promised net mid kind c
    promised_far c = by_kind kind
      where
        cause : (o : Option (Key × Event P)) → least (from_scratch net (sender_of net c) (K (sender_of net c)) (k (sender_of net c))).pending ≡ o → safe_time net (sender_of net c) (K (sender_of net c)) ≤ next_time (min net.stop (safe_time net (sender_of net c) (K (sender_of net c)))) o
        cause None e = let s = safe_stop net (sender_of net c) (K (sender_of net c)) net.ifaces in omega arith
        cause (Some x) e =
            let s = safe_stop net (sender_of net c) (K (sender_of net c)) net.ifaces in
            let q = quiet (safe_time net (sender_of net c) (K (sender_of net c))) (from_scratch net (sender_of net c) (K (sender_of net c)) (k (sender_of net c))) (rounds.runs j (sender_of net c)).over x.0 x.1 (least_has _ x e) in
            omega arith

        by_kind : (z : Promising) → safe_time net (sender_of net c) (K (sender_of net c)) + lookahead net z c ≤ promised net mid z c
        by_kind Plain = let h = cause (least (from_scratch net (sender_of net c) (K (sender_of net c)) (k (sender_of net c))).pending) refl in omega arith
        by_kind Tight = let h = cause (least (from_scratch net (sender_of net c) (K (sender_of net c)) (k (sender_of net c))).pending) refl in omega arith

    after_next : After (suc j)
    after_next = record {
      valid = λ p c ch. subst (λ z. IsValid z (history net last c)) (sym (is_heard p c ch)) (now p c ch).2;
      within = λ p. within_more net ok p (K p) (b (suc j) p).knowledge (under p) (k p) (ran_within p);
      told = λ p c ch. ap (λ z. z.list) (is_heard p c ch) ∙ (now p c ch).0 ∙ sym (ap (λ s. s.sent c) (books net ok (sender_of net c) (K (sender_of net c)) (b (suc j) (sender_of net c)).knowledge (under (sender_of net c)) (k (sender_of net c)) (ran_within (sender_of net c))));
      far = λ p. safe_at_least net p (b (suc j) p).knowledge (min net.stop (suc j * lead)) net.ifaces (omega arith) (λ c ch.
          let e = ap (λ z. z.clock) (is_heard p c ch) in
          let f = (now p c ch).1 in
          let g = promised_far c in
          let i = h.far (sender_of net c) in
          let l = leads p c ch in
          let m : suc j * lead ≡ j * lead + lead = omega arith in
          omega arith);
    }

  after : (j : ℕ) → After j
  after zero = after_none
  after (suc j) = after_next j (after j)

  pub enough : (j p : ℕ) → net.stop ≤ j * lead → safe_time net p (b j p).knowledge ≡ net.stop
  enough j p le = let f = (after j).far p in let s = safe_stop net p (b j p).knowledge net.ifaces in omega arith

  pub finished : (j p : ℕ) → net.stop ≤ j * lead → pends_before net.stop (from_scratch net p (b j p).knowledge (b (suc j) p).ran) ≡ false
  finished j p le = subst (λ t. pends_before t (from_scratch net p (b j p).knowledge (b (suc j) p).ran) ≡ false) (enough j p le) (rounds.runs j p).over

  pub rounds_valid : (j p c : ℕ) → comes_in net p c ≡ true → IsValid ((b j p).knowledge c) (history net last c)
  rounds_valid j p c ch = (after j).valid p c ch

module _ {P N : Type 0} (net : Net P N) (ok : IsNet net) (same : P → P → Bool) (kind : Promising) where
  -- rounds can be made
  pub book_after : ℕ → ℕ → Replica P
  book_after zero p = record { knowledge = no_knowledge; ran = 0 }
  book_after (suc j) p = record {
    knowledge = heard_on net same kind (λ q. record { knowledge = (book_after j q).knowledge; ran = (count net ok q (book_after j q).knowledge).0 }) p;
    ran = (count net ok p (book_after j p).knowledge).0;
  }

  pub rounds_there : (b : ℕ → ℕ → Replica P) × IsRounds net same kind b
  unfolding book_after
  rounds_there = (
    book_after,
    record {
      opens = λ p. refl;
      runs = λ j p. (count net ok p (book_after j p).knowledge).1;
      hears = λ j p. refl;
    },
  )

module _ {P N : Type 0} (net : Net P N) (ok : IsNet net) (same : P → P → Bool) (eq : (x : P) → same x x ≡ true) (kind : Promising) (b : ℕ → ℕ → Replica P) (rounds : IsRounds net same kind b) where
  pub known_true : (j p : ℕ) → IsKnowledge net p (b j p).knowledge
  known_true j p last ends c ch = rounds_valid net ok same eq last ends kind b rounds 0 (λ q d dh. omega arith) j p c ch

  -- a round never goes back
  pub ran_on_there : (j p : ℕ) → (b j p).ran ≤ (b (suc j) p).ran
  ran_on_there j p = let l = before net ok net.stop in ran_on net ok same eq l.0 l.1 kind b rounds 0 (λ q d dh. omega arith) j (after net ok same eq l.0 l.1 kind b rounds 0 (λ q d dh. omega arith) j) p

  pub traces_early : (j p last : ℕ) → safe_time net p (b j p).knowledge ≡ net.stop → IsBefore net net.stop last → (from_scratch net p (b j p).knowledge (b (suc j) p).ran).records ≡ trace net p last
  traces_early j p last safe e = exact net ok p (b j p).knowledge (known_true j p) (b (suc j) p).ran last (rounds.runs j p) (subst (λ t. IsBefore net t last) (sym safe) e)

  pub whole_traces : (lead : ℕ) → ((p c : ℕ) → comes_in net p c ≡ true → lead ≤ lookahead net kind c) → (j p last : ℕ) → net.stop ≤ j * lead → IsBefore net net.stop last → (from_scratch net p (b j p).knowledge (b (suc j) p).ran).records ≡ trace net p last
  whole_traces lead leads j p last le e = traces_early j p last (enough net ok same eq last e kind b rounds lead leads j p le) e

-- rounds are enough once they reach stop
pub ceil_reaches : (stop lead : ℕ) → 1 ≤ lead → stop ≤ round_count stop lead * lead
ceil_reaches stop lead h =
    let q = (stop + (lead - 1)) / lead in
    let r : (stop + (lead - 1)) / lead * lead ≡ lead * ((stop + (lead - 1)) / lead) = mul_comm _ _ in omega arith
