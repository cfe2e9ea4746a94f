-- The headline, from the prefix theorem of the model's world.
use Rattle.std.proofs.Common.{◌≡◌, inl, inr, ℕ, zero, suc, ◌+◌, ◌*◌, ◌<◌, ◌≤◌, min, Bool, true, false, List, [], ◌∷◌, length, map, slice_get, slice_index_or, Option, Some, None, refl, sym, ◌∙◌, ap, subst, arith, ⊎_elim, true≢false}
use Rattle.std.proofs.lemmas.Bool.{cases_lt}
use Rattle.std.specs.Option.{option_map}
use Rattle.nm_topology.specs.Topology.{channel_from, receiving_iface}
use Rattle.nm_topology.specs.TopologyValue.{TopologyValue}
use Rattle.nm_knowledge.specs.Answers.{reason}
use Rattle.nm_knowledge.specs.declared.answer.KnowFault.TheVariants as fault
use Rattle.nm_model.specs.Accept as accept
use Rattle.nm_model.specs.Before.{IsBefore, IsCount, IsKnowledge, events_at, history, trace}
use Rattle.nm_model.specs.Join.{join}
use Rattle.nm_model.specs.Knowledge.{IsUnder, IsValid, Know, Knowledge, nothing_known}
use Rattle.nm_model.specs.Lists.{nth, IsPrefix, IsRising}
use Rattle.nm_model.specs.Partition.{comes_in, goes_out, in_part}
use Rattle.nm_model.specs.Promise.{Promising, promise}
use Rattle.nm_model.specs.Replica.{Agrees, IsWithin, from_scratch, safe_time}
use Rattle.nm_model.specs.Run.{one_list, pends_before}
use Rattle.nm_model.specs.World as model
use Rattle.nm_sim.specs.Network.{net_of}
use Rattle.nm_book.specs.Book.{BookValue, is_incoming, is_outgoing, knowledge, knowledge_of, promise_on, replica_of, safe_of, sent_over, state_of}
use Rattle.nm_book.specs.Sisters.{KnowTheSame}
use Rattle.nm_book.proofs.Incoming.{stop_is}
use Rattle.nm_book.proofs.Sisters.{back, over, same_at}
use Rattle.nm_book.proofs.Tellings.{known_here}
use Rattle.nm_rounds.specs.Headline.{AreEqual, HasRunAll, HaveJoin, IsNoRefusal, IsTrue, records_at}
use Rattle.nm_rounds.specs.Replay.{world_after}
use Rattle.nm_rounds.specs.World.{IsReplicaOf, outcome_of}
use Rattle.nm_rounds.specs.declared.step.StepAnswer.{StepAnswer}
use Rattle.nm_rounds.specs.declared.step.StepAnswer.TheVariants as told
use Rattle.nm_rounds.proofs.Acts.{moved}

-- each number is that of a replica's place
pub place_of : (i : ℕ) → (p : ℕ) × (r : ℕ) × (r < 2) × (i ≡ 2 * p + r)
place_of zero = (0, 0, omega arith, refl)
place_of (suc i) = go (place_of i)
  where
    go : (p : ℕ) × (r : ℕ) × (r < 2) × (i ≡ 2 * p + r) → (p : ℕ) × (r : ℕ) × (r < 2) × (suc i ≡ 2 * p + r)
    go (p, zero, two, e) = (p, 1, omega arith, omega (arith, e))
    go (p, suc zero, two, e) = (suc p, 0, omega arith, omega (arith, e))
    go (p, suc (suc r), two, e) = absurd (omega (arith, two))

-- of the model's answers these are fine
abbrev is_fine : accept.Answer → Bool
is_fine accept.New = true
is_fine accept.Raised = true
is_fine accept.Known = true
is_fine (accept.Gap n) = true
is_fine (accept.Differs n) = false
is_fine (accept.Late n) = false
is_fine accept.NotRising = false
is_fine (accept.Contrary n) = false

not_fine : {A : Type 0} (a : accept.Answer) → is_fine a ≡ false → model.IsFine a → A
not_fine a is_not fine = absurd (true≢false (sym (says fine) ∙ is_not))
  where
    says : model.IsFine a → is_fine a ≡ true
    says (inl is) = ap is_fine is
    says (inr (inl is)) = ap is_fine is
    says (inr (inr (inl is))) = ap is_fine is
    says (inr (inr (inr (n, is)))) = ap is_fine is

-- what is fine of the model's answers is no refusal
fine_is : (t : TopologyValue) (a : StepAnswer) (o : model.Outcome) → outcome_of t a ≡ Some o → model.IsFineOutcome o → IsNoRefusal a
fine_is t (told.All n) o e fine = tt
fine_is t (told.Limit n) o e fine = tt
fine_is t (told.Frames n) o e fine = tt
fine_is t (told.Accepted a) o e fine = tt
fine_is t (told.Refused (fault.Gap n)) o e fine = (n, refl)
fine_is t (told.Refused (fault.Differs n)) o e fine = let g : model.Answered (accept.Differs n) ≡ o = cc in not_fine (accept.Differs n) refl (subst model.IsFineOutcome (sym g) fine)
fine_is t (told.Refused (fault.Late n)) o e fine = let g : model.Answered (accept.Late n) ≡ o = cc in not_fine (accept.Late n) refl (subst model.IsFineOutcome (sym g) fine)
fine_is t (told.Refused fault.NotRising) o e fine = let g : model.Answered accept.NotRising ≡ o = cc in not_fine accept.NotRising refl (subst model.IsFineOutcome (sym g) fine)
fine_is t (told.Refused fault.Memory) o e fine = absurd (let g : None ≡ Some o = e in cc)
fine_is t (told.Refused (fault.Contrary n)) o e fine = let g : model.Answered (accept.Contrary n) ≡ o = cc in not_fine (accept.Contrary n) refl (subst model.IsFineOutcome (sym g) fine)
fine_is t told.Merged o e fine = tt
fine_is t (told.MergeRefused c f) o e fine = by_reason (reason f) e
  where
    by_reason : (r : Option accept.Answer) → option_map (model.MergeRefused (receiving_iface t c)) r ≡ Some o → ⊥
    by_reason None g = absurd (let h : None ≡ Some o = g in cc)
    by_reason (Some a) g = let h : model.MergeRefused (receiving_iface t c) a ≡ o = cc in subst model.IsFineOutcome (sym h) fine
fine_is t told.Emptied o e fine = tt

pub fine_at : (t : TopologyValue) (answers : List StepAnswer) (outcomes : List model.Outcome) → map (outcome_of t) answers ≡ map Some outcomes → model.AllFine outcomes
    → (i : ℕ) (a : StepAnswer) → slice_get answers i ≡ Some a → IsNoRefusal a
fine_at t [] outcomes e fine i a f = absurd (let g : None ≡ Some a = f in cc)
fine_at t (x ∷ answers) [] e fine i a f = absurd cc
fine_at t (x ∷ answers) (o ∷ outcomes) e fine zero a f =
    let g : x ≡ a = cc in
    let h : outcome_of t x ≡ Some o = cc in subst IsNoRefusal g (fine_is t x o h fine.0)
fine_at t (x ∷ answers) (o ∷ outcomes) e fine (suc i) a f =
    let h : map (outcome_of t) answers ≡ map Some outcomes = cc in fine_at t answers outcomes h fine.1 i a f

module _ (t : TopologyValue) where
  -- a replica that is the world's after these steps
  abbrev after : List model.Step → ℕ → ℕ → model.Replica (List ℕ)
  after did p r = (world_after t did).replica p r

  module _ (did : List model.Step) (p r : ℕ) (b : BookValue) (is : IsReplicaOf t p r b (after did p r))
      (here : (c : ℕ) → c < length t.receivers → channel_from 0 t.receivers (receiving_iface t c) ≡ Some c)
      (none : (q c : ℕ) → length t.receivers ≤ c → comes_in (net_of t) q (receiving_iface t c) ≡ false)
      (within : IsWithin (net_of t) p (after did p r).knowledge (after did p r).ran)
      (valid : IsKnowledge (net_of t) p (after did p r).knowledge)
      (prefix : (last : ℕ) → IsBefore (net_of t) (net_of t).stop last → IsPrefix (model.state_of (net_of t) p (after did p r)).records (trace (net_of t) p last))
      (exact : (n : ℕ) → IsCount (net_of t) p (after did p r).knowledge (after did p r).ran → IsBefore (net_of t) (safe_time (net_of t) p (after did p r).knowledge) n
      → (model.state_of (net_of t) p (after did p r)).records ≡ trace (net_of t) p n)
      (agrees : (n : ℕ) → events_at (net_of t) (in_part (net_of t) p) n ≡ (after did p r).ran → Agrees (net_of t) p (one_list (net_of t) n) (model.state_of (net_of t) p (after did p r)))
      (sent : (c last : ℕ) → IsBefore (net_of t) (net_of t).stop last → goes_out (net_of t) p c ≡ true → IsPrefix (model.outgoing (net_of t) p (after did p r) c) (history (net_of t) last c))
      (promised : (c last : ℕ) → IsBefore (net_of t) (net_of t).stop last → goes_out (net_of t) p c ≡ true → (i : ℕ) (m : ℕ × List ℕ)
      → length (model.outgoing (net_of t) p (after did p r) c) ≤ i → nth (history (net_of t) last c) i ≡ Some m → (kind : Promising)
      → promise (net_of t) kind p (after did p r).knowledge (after did p r).ran c ≤ m.0)
      (low : safe_time (net_of t) p (after did p r).knowledge ≤ (net_of t).stop)
      (reached : (n : ℕ) × (events_at (net_of t) (in_part (net_of t) p) n ≡ (after did p r).ran)) where
    abbrev x : model.Replica (List ℕ)
    x = after did p r

    -- what is said of the book's own topology, partition and replica
    mine : (Q : TopologyValue → ℕ → model.Replica (List ℕ) → Type 0) → Q t p x → Q b.topology b.partition (replica_of b)
    mine Q h = subst (λ z. Q z b.partition (replica_of b)) (sym is.topology) (subst (λ q. Q t q (replica_of b)) (sym is.partition) (subst (λ y. Q t p y) (sym is.replica) h))

    comes : (c : ℕ) → is_incoming b c ≡ true → comes_in (net_of t) p (receiving_iface t c) ≡ true
    comes c h = subst (λ q. comes_in (net_of t) q (receiving_iface t c) ≡ true) is.partition (subst (λ z. comes_in (net_of z) b.partition (receiving_iface z c) ≡ true) is.topology h)

    goes : (c : ℕ) → is_outgoing b c ≡ true → goes_out (net_of t) p (receiving_iface t c) ≡ true
    goes c h = subst (λ q. goes_out (net_of t) q (receiving_iface t c) ≡ true) is.partition (subst (λ z. goes_out (net_of z) b.partition (receiving_iface z c) ≡ true) is.topology h)

    knows_it : (c : ℕ) → is_incoming b c ≡ true → x.knowledge (receiving_iface t c) ≡ slice_index_or b.knows c nothing_known
    knows_it c h =
        let i = receiving_iface t c in
        ap (λ z. z.knowledge i) (sym is.replica) ∙ ap (λ z. knowledge_of z b.knows i) is.topology
        ∙ known_here t b.knows c (here c (⊎_elim (λ lt. lt) (λ past. absurd (true≢false (sym (comes c h) ∙ none p c past))) (cases_lt c (length t.receivers))))

    stop_time : min t.stop t.stop ≡ (net_of t).stop
    stop_time = let e = stop_is t in omega (arith, e)

    safe_is : safe_of b ≡ safe_time (net_of t) p x.knowledge
    safe_is = sym (moved (λ t p x. safe_time (net_of t) p x.knowledge ≡ safe_of b) t p r b x is refl)

    safe_low : min (safe_of b) t.stop ≡ safe_time (net_of t) p x.knowledge
    safe_low = let e = stop_is t in let f = safe_is in omega (arith, e, f, low)

    count_is : HasRunAll b → IsCount (net_of t) p x.knowledge x.ran
    count_is h = record {
      over = moved (λ t p x. pends_before (safe_time (net_of t) p x.knowledge) (from_scratch (net_of t) p x.knowledge x.ran) ≡ false) t p r b x is h;
      first = within;
    }

    pub is_true : IsTrue t b
    is_true = record {
      knowledge = λ c messages h all. subst (λ z. IsValid z messages) (knows_it c h) (subst (IsValid (x.knowledge (receiving_iface t c))) (sym all.2) (valid all.0 all.1 (receiving_iface t c) (comes c h)));
      sent = λ c messages h all. subst (IsPrefix (sent_over b c)) (sym all.2) (mine (λ t' p' x'. IsPrefix (model.outgoing (net_of t') p' x' (receiving_iface t' c)) (history (net_of t) all.0 (receiving_iface t c))) (sent (receiving_iface t c) all.0 all.1 (goes c h)));
      promises = λ c n messages m h all past at kind.
          mine (λ t' p' x'. length (model.outgoing (net_of t') p' x' (receiving_iface t' c)) ≤ n → promise (net_of t') kind p' x'.knowledge x'.ran (receiving_iface t' c) ≤ m.0)
          (λ le. promised (receiving_iface t c) all.0 all.1 (goes c h) n m le (ap (λ l. nth l n) (sym all.2) ∙ at) kind) past;
      trace = λ all h.
          subst (IsPrefix (state_of b).records) (sym (ap (records_at t b.partition) h.2))
          (mine (λ t' p' x'. IsPrefix (model.state_of (net_of t') p' x').records (records_at t p' (one_list (net_of t) h.0).records)) (prefix h.0 (subst (λ s. IsBefore (net_of t) s h.0) stop_time h.1)));
      exact = λ all ran h.
          mine (λ t' p' x'. (model.state_of (net_of t') p' x').records ≡ records_at t p' (one_list (net_of t) h.0).records) (exact h.0 (count_is ran) (subst (λ s. IsBefore (net_of t) s h.0) safe_low h.1))
          ∙ ap (records_at t b.partition) (sym h.2);
      reached = mine (λ t' p' x'. (n : ℕ) × (events_at (net_of t) (in_part (net_of t) p') n ≡ x'.ran)) reached;
      state = λ n e. mine (λ t' p' x'. events_at (net_of t) (in_part (net_of t) p') n ≡ x'.ran → Agrees (net_of t) p' (one_list (net_of t) n) (model.state_of (net_of t') p' x')) (agrees n) e;
    }

-- what is known of one history has a join
pub have_join : (a b : Know (List ℕ)) (H : List (ℕ × List ℕ)) → IsRising H → IsValid a H → IsValid b H
    → IsUnder a (join a b) → IsUnder b (join a b) → ((d : Know (List ℕ)) → IsUnder a d → IsUnder b d → IsUnder (join a b) d) → HaveJoin a b
have_join a b H rising va vb left right least = record {
  compatible = record { history = H; rising = rising; left = va; right = vb };
  left = left;
  right = right;
  least = least;
}

-- replicas that know the same
module _ (a b : BookValue) (h : KnowTheSame a b) (here : (c : ℕ) → c < length a.topology.receivers → channel_from 0 a.topology.receivers (receiving_iface a.topology c) ≡ Some c)
    (numbered : (i : ℕ) → comes_in (net_of a.topology) a.partition i ≡ true → (c : ℕ) × (c < length a.topology.receivers) × (receiving_iface a.topology c ≡ i))
    (first : IsWithin (net_of a.topology) a.partition (knowledge a) a.events) (second : IsWithin (net_of b.topology) b.partition (knowledge b) b.events)
    (states : (K J : Knowledge (List ℕ)) → ((c : ℕ) → comes_in (net_of a.topology) a.partition c ≡ true → K c ≡ J c) → (k : ℕ) → IsWithin (net_of a.topology) a.partition K k
    → from_scratch (net_of a.topology) a.partition J k ≡ from_scratch (net_of a.topology) a.partition K k)
    (promises : (K J : Knowledge (List ℕ)) → ((c : ℕ) → comes_in (net_of a.topology) a.partition c ≡ true → K c ≡ J c) → (kind : Promising) (k c : ℕ) → IsWithin (net_of a.topology) a.partition K k
    → promise (net_of a.topology) kind a.partition J k c ≡ promise (net_of a.topology) kind a.partition K k c)
    (counts : (K J : Knowledge (List ℕ)) → ((c : ℕ) → comes_in (net_of a.topology) a.partition c ≡ true → K c ≡ J c) → (j k : ℕ) → IsCount (net_of a.topology) a.partition K j → IsCount (net_of a.topology) a.partition J k → j ≡ k) where
  J : Knowledge (List ℕ)
  J = knowledge_of a.topology b.knows

  alike : (i : ℕ) → comes_in (net_of a.topology) a.partition i ≡ true → knowledge a i ≡ knowledge_of a.topology b.knows i
  alike = same_at a b here numbered h

  pub are_equal : AreEqual a b
  are_equal = record {
    events = λ all_a all_b.
        counts (knowledge a) (knowledge_of a.topology b.knows) alike a.events b.events
        (record { over = all_a; first = first })
        (back a b (λ t p. IsCount (net_of t) p (knowledge_of t b.knows) b.events) h.sisters (record { over = all_b; first = second }));
    states = λ e. sym (over a b (λ t p. from_scratch (net_of t) p (knowledge_of t b.knows) b.events ≡ state_of a) h.sisters
        (subst (λ k. from_scratch (net_of a.topology) a.partition (knowledge_of a.topology b.knows) k ≡ state_of a) e (states (knowledge a) (knowledge_of a.topology b.knows) alike a.events first)));
    promises = λ e kind c. sym (over a b (λ t p. promise (net_of t) kind p (knowledge_of t b.knows) b.events (receiving_iface t c) ≡ promise_on kind a c) h.sisters
        (subst (λ k. promise (net_of a.topology) kind a.partition (knowledge_of a.topology b.knows) k (receiving_iface a.topology c) ≡ promise_on kind a c) e
        (promises (knowledge a) (knowledge_of a.topology b.knows) alike kind a.events (receiving_iface a.topology c) first)));
  }
