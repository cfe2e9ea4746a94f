-- What holds after so many rounds, and at their end.
use Rattle.std.proofs.Common.{◌≡◌, ◌⊎◌, inl, inr, ⊎_elim, ltb, ℕ, zero, suc, ◌+◌, ◌*◌, ◌-◌, ◌<◌, ◌≤◌, ◌==◌, ◌&&◌, not, Bool, true, false, List, length, slice_get, Some, refl, sym, ◌∙◌, ap, ap₂, subst, arith}
use Rattle.std.proofs.lemmas.Bool.{and_parts}
use Rattle.std.proofs.lemmas.Bool.Decides.{nat_tests}
use Rattle.nm_topology.specs.Topology.{receiving_iface}
use Rattle.nm_topology.specs.TopologyValue.{TopologyValue}
use Rattle.nm_model.specs.Before.{IsBefore, IsCount, trace}
use Rattle.nm_model.specs.Certificate.{is_done}
use Rattle.nm_model.specs.Knowledge.{Knowledge}
use Rattle.nm_model.proofs.ListLemmas.{number_is}
use Rattle.nm_model.specs.Partition.{comes_in}
use Rattle.nm_model.specs.Promise.{Tight, lookahead}
use Rattle.nm_model.specs.Replica.{from_scratch, safe_time}
use Rattle.nm_model.specs.Rounds.{round_count}
use Rattle.nm_model.specs.Run.{pends_before}
use Rattle.nm_model.specs.World.{Replica, fresh, state_of as model_state}
use Rattle.nm_sim.specs.Network.{net_of}
use Rattle.nm_book.specs.Book.{BookValue, state_of}
use Rattle.nm_rounds.specs.World.{IsReplicaOf}
use Rattle.nm_rounds.specs.Rounds.{AreBooks, AreDoneWithin, AllAreFinished, AreRounds, AreUnfinished, EndsRound, IsFinished, IsLeft, IsWhole, after_hearing, after_runs}
use Rattle.nm_rounds.proofs.Acts.{moved}
use Rattle.nm_rounds.proofs.RoundBooks.{as_others, is_there}

-- what is below the number after n is below n, or n
below_next : (j n : ℕ) → j < suc n → (j < n) ⊎ (j ≡ n)
below_next j n h = go (ltb j n) refl
  where
    go : (b : Bool) → ltb j n ≡ b → (j < n) ⊎ (j ≡ n)
    go true e = inl (grind (arith, nat_tests, e))
    go false e = let le : n ≤ j = grind (arith, nat_tests, e) in inr (omega (arith, h, le))

more_times : (a b n : ℕ) → a ≤ b → a * n ≤ b * n
more_times zero b n h = omega arith
more_times (suc a) zero n h = absurd (omega (arith, h))
more_times (suc a) (suc b) n h = let i = more_times a b n (omega (arith, h)) in omega (arith, i)

module _ (t : TopologyValue) where
  done_safe : (p : ℕ) (x : Replica (List ℕ)) → is_done (net_of t) p x ≡ true → safe_time (net_of t) p x.knowledge ≡ (net_of t).stop
  done_safe p x h = number_is _ _ (and_parts _ _ h).0

  done_is : (p : ℕ) (x : Replica (List ℕ)) → safe_time (net_of t) p x.knowledge ≡ (net_of t).stop → pends_before (net_of t).stop (model_state (net_of t) p x) ≡ false → is_done (net_of t) p x ≡ true
  done_is p x safe over = ap₂ (λ a b. a && not b) (same _ _ safe) over
    where
      same : (a b : ℕ) → a ≡ b → (a == b) ≡ true
      same a b e = grind (arith, nat_tests, e)

  -- a book's own test is the model's
  finished_is : (p : ℕ) (x : Replica (List ℕ)) (b : BookValue) → IsReplicaOf t p 0 b x → (v : Bool) → IsFinished b v → is_done (net_of t) p x ≡ v
  finished_is p x b is v fin = moved (λ t p z. is_done (net_of t) p z ≡ v) t p 0 b x is fin

  module _ (by_round : ℕ → ℕ → Replica (List ℕ)) (are : AreRounds t by_round) where
    -- the books after n rounds, in each of which not all were done
    pub record HaveRun (n : ℕ) (books : List BookValue) : Type 0 where
      pub stand : AreBooks t t.partitions (by_round n) books
      pub left : (j : ℕ) → j < n → IsLeft t by_round j

    pub run_none : (books : List BookValue) → AreBooks t t.partitions (λ p. fresh) books → HaveRun 0 books
    run_none books first = record {
      stand = as_others t t.partitions (λ p. fresh) books first (by_round 0) (λ p h. sym (are.opens p));
      left = λ j low. absurd (omega (arith, low));
    }

    pub run_more : (n : ℕ) (old books : List BookValue) → HaveRun n old → EndsRound t by_round n false books → HaveRun (suc n) books
    run_more n old books have ends = record {
      stand = ends.0;
      left = λ j low. ⊎_elim (λ l. have.left j l) (λ e. subst (IsLeft t by_round) (sym e) ends.1) (below_next j n low);
    }

    -- all books run, in the round after j of them
    pub all_ran : (j : ℕ) (old books : List BookValue)
        → ((p k l : ℕ) → IsCount (net_of t) p (by_round j p).knowledge k → IsCount (net_of t) p (by_round j p).knowledge l → k ≡ l)
        → ((s : TopologyValue) (x y : ℕ → Replica (List ℕ)) → AreBooks s s.partitions x old
        → ((p k l : ℕ) → IsCount (net_of s) p (x p).knowledge k → IsCount (net_of s) p (x p).knowledge l → k ≡ l)
        → ((p : ℕ) → IsCount (net_of s) p (x p).knowledge (y p).ran) → ((p : ℕ) → (y p).knowledge ≡ (x p).knowledge) → AreBooks s s.partitions y books)
        → AreBooks t t.partitions (by_round j) old → AreBooks t t.partitions (after_runs by_round j) books
    all_ran j old books once ran stand = ran t (by_round j) (after_runs by_round j) stand once (are.runs j) (λ p. refl)

    -- no round was left out of what a book hears
    pub all_heard : (j : ℕ) (books : List BookValue) → AreBooks t t.partitions (after_hearing t (after_runs by_round j)) books → AreBooks t t.partitions (by_round (suc j)) books
    all_heard j books stand = as_others t t.partitions (after_hearing t (after_runs by_round j)) books stand (by_round (suc j))
        (λ p h. ap (λ K. record { knowledge = K; ran = (by_round (suc j) p).ran }) (sym (are.hears j p)))

    pub one_left : (j : ℕ) (books : List BookValue) → AreBooks t t.partitions (after_runs by_round j) books → AllAreFinished books false → IsLeft t by_round j
    one_left j books stand found =
        let p : ℕ = found.0 in
        let low : p < t.partitions = let m = stand.count in let l = is_there books p found.1 found.2 in omega (arith, m, l) in
        (p, low, finished_is p (after_runs by_round j p) found.1 (stand.each p found.1 found.2) false found.3)

    -- all are done
    module _ (early : (j p last : ℕ) → safe_time (net_of t) p (by_round j p).knowledge ≡ (net_of t).stop → IsBefore (net_of t) (net_of t).stop last
        → (from_scratch (net_of t) p (by_round j p).knowledge (by_round (suc j) p).ran).records ≡ trace (net_of t) p last) where
      whole : (j : ℕ) (books : List BookValue) → AreBooks t t.partitions (after_runs by_round j) books → AllAreFinished books true → (p : ℕ) (b : BookValue) → slice_get books p ≡ Some b → IsWhole t p b
      whole j books stand fin p b e =
          let x : Replica (List ℕ) = after_runs by_round j p in
          let is : IsReplicaOf t p 0 b x = stand.each p b e in
          let done : is_done (net_of t) p x ≡ true = finished_is p x b is true (fin p b e) in
          let records : (state_of b).records ≡ (from_scratch (net_of t) p x.knowledge x.ran).records =
          moved (λ t p z. (state_of b).records ≡ (from_scratch (net_of t) p z.knowledge z.ran).records) t p 0 b x is refl in
          record {
            done = subst (λ z. is_done (net_of t) p z ≡ true) (sym is.replica) done;
            trace = λ last before. records ∙ early j p last (done_safe p x done) before;
          }

      pub all_done : (max j : ℕ) (old books : List BookValue) → j < max → HaveRun j old → EndsRound t by_round j true books → AreDoneWithin t max (j + 1) books
      all_done max j old books low have ends =
          let n : (j + 1) - 1 ≡ j = omega arith in
          record {
            some = omega arith;
            few = omega (arith, low);
            by_round = by_round;
            are = are;
            stand = subst (λ k. AreBooks t t.partitions (after_runs by_round k) books) (sym n) ends.0;
            first = λ i l. have.left i (before i l);
            whole = whole j books ends.0 ends.1;
          }
        where
          before : (i : ℕ) → i + 1 < j + 1 → i < j
          before i l = omega (arith, l)

    -- one is not
    module _ (alone : (p : ℕ) → ((c : ℕ) → comes_in (net_of t) p c ≡ true → ⊥) → (K : Knowledge (List ℕ)) → safe_time (net_of t) p K ≡ (net_of t).stop)
        (numbered : (p i : ℕ) → comes_in (net_of t) p i ≡ true → (c : ℕ) × (c < length t.receivers) × (receiving_iface t c ≡ i) × (1 ≤ (net_of t).delay i))
        (done : (lead : ℕ) → ((p c : ℕ) → comes_in (net_of t) p c ≡ true → lead ≤ lookahead (net_of t) Tight c) → (j p last : ℕ) → (net_of t).stop ≤ j * lead → IsBefore (net_of t) (net_of t).stop last
        → (safe_time (net_of t) p (by_round j p).knowledge ≡ (net_of t).stop) × (pends_before (net_of t).stop (from_scratch (net_of t) p (by_round j p).knowledge (by_round (suc j) p).ran) ≡ false))
        (enough : (stop lead : ℕ) → 1 ≤ lead → stop ≤ round_count stop lead * lead)
        (last : (n : ℕ) × IsBefore (net_of t) (net_of t).stop n) where
      not_left : (j p : ℕ) → is_done (net_of t) p (after_runs by_round j p) ≡ false → is_done (net_of t) p (after_runs by_round j p) ≡ true → ⊥
      not_left j p e f = let g : true ≡ false = sym f ∙ e in absurd (cc)

      no_channel : (j : ℕ) → IsLeft t by_round j → length t.receivers ≡ 0 → ⊥
      no_channel j left none =
          let p : ℕ = left.0 in
          let safe : safe_time (net_of t) p (by_round j p).knowledge ≡ (net_of t).stop =
          alone p (λ c comes. let n = numbered p c comes in let l = n.1 in omega (arith, l, none)) (by_round j p).knowledge in
          let over : pends_before (net_of t).stop (from_scratch (net_of t) p (by_round j p).knowledge (by_round (suc j) p).ran) ≡ false =
          subst (λ s. pends_before s (from_scratch (net_of t) p (by_round j p).knowledge (by_round (suc j) p).ran) ≡ false) safe (are.runs j p).over in
          not_left j p left.2 (done_is p (after_runs by_round j p) safe over)

      in_time : (j lead : ℕ) → IsLeft t by_round j → 1 ≤ lead → ((p c : ℕ) → comes_in (net_of t) p c ≡ true → lead ≤ lookahead (net_of t) Tight c) → round_count (net_of t).stop lead ≤ j → ⊥
      in_time j lead left some all le =
          let p : ℕ = left.0 in
          let e : (net_of t).stop ≤ round_count (net_of t).stop lead * lead = enough (net_of t).stop lead some in
          let m : round_count (net_of t).stop lead * lead ≤ j * lead = more_times (round_count (net_of t).stop lead) j lead le in
          let d = done lead all j p last.0 (reach _ _ _ e m) last.1 in
          not_left j p left.2 (done_is p (after_runs by_round j p) d.0 d.1)
        where
          reach : (a b c : ℕ) → a ≤ b → b ≤ c → a ≤ c
          reach a b c h k = omega (arith, h, k)

      pub not_done : (max : ℕ) (books : List BookValue) → 1 ≤ max → (n : ℕ) → n ≡ max → HaveRun n books → AreUnfinished t max max books
      not_done zero books some n is have = absurd (omega (arith, some))
      not_done (suc j) books some n is have =
          let left : IsLeft t by_round j = have.left j (omega (arith, is)) in
          record {
            all = refl;
            by_round = by_round;
            are = are;
            stand = subst (λ k. AreBooks t t.partitions (by_round k) books) is have.stand;
            left = λ i low. have.left i (to_all i low);
            channels = no_channel j left;
            enough = λ lead one all le. in_time j lead left one all (less _ le);
          }
        where
          to_all : (i : ℕ) → i < suc j → i < n
          to_all i low = omega (arith, low, is)

          less : (a : ℕ) → a + 1 ≤ suc j → a ≤ j
          less a h = omega (arith, h)
