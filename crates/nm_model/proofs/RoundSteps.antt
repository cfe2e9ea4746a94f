-- A round is a list of steps of the world: each partition runs, all is put into the bag, and then each frame is delivered once.
use Rattle.std.proofs.Common.{◌≡◌, ◌≢◌, inl, ℕ, zero, suc, ◌+◌, ◌<◌, ◌≤◌, ◌&&◌, ◌==◌, ◌-◌, not, ltb, leb, Bool, true, false, cond, List, [], ◌∷◌, ◌++◌, length, drop, Some, refl, sym, ap, ap₂, ◌∙◌, subst, arith, true≢false, ⊎_elim, append_assoc, append-nil}
use Rattle.std.proofs.lemmas.Bool.{cases_lt}
use Rattle.std.proofs.lemmas.Bool.Decides.{nat_tests}
use Rattle.std.proofs.Math.ListN.{drop_of_length-le}
use Rattle.nm_model.specs.Lists.{nth, IsPrefix, set_at}
use Rattle.nm_model.specs.Network.{Net, IsNet, IsParted}
use Rattle.nm_model.specs.Knowledge.{Knowledge, Know}
use Rattle.nm_model.specs.Accept.{Accepted, accept_data, accept_null}
use Rattle.nm_model.specs.Partition.{comes_in, goes_out, sender_of, receiver_of}
use Rattle.nm_model.specs.Promise.{Promising, promise}
use Rattle.nm_model.specs.Before.{IsCount}
use Rattle.nm_model.specs.Rounds.{IsRounds, hear_list, hear, given, promised, heard_on}
use Rattle.nm_model.specs.World.{World, Replica, Frame, DataFrame, NullFrame, Step, Run, Resend, Null, Deliver, Outcome, Frames, NoSuch, opening, put_replica, put_frames, is_replica, outgoing, data_frames, told, delivers, happens, world}
use Rattle.nm_model.proofs.ListLemmas.{bool_cases, same_number, set_here, set_there, number_is, number_tied, number_apart, nth_front, prefix_self, prefix_trans}
use Rattle.nm_model.proofs.Cut.{and_both, not_true, channel_inside}
use Rattle.nm_model.proofs.StepLaws.{here, others, run_over, resend_is}
use Rattle.nm_model.proofs.RoundLemmas.{ran_on_there}

module _ {A : Type 0} where
  set_twice : (f : ℕ → A) (i : ℕ) (v w : A) → set_at (set_at f i v) i w ≡ set_at f i w
  set_twice f i v w = λ z j. at j z
    where
      at : (j : ℕ) → set_at (set_at f i v) i w j ≡ set_at f i w j
      at j = ⊎_elim
          (λ e. ap (set_at (set_at f i v) i w) e ∙ set_here (set_at f i v) i w ∙ sym (set_here f i w) ∙ ap (set_at f i w) (sym e))
          (λ h. set_there (set_at f i v) i w j h ∙ set_there f i v j h ∙ sym (set_there f i w j h))
          (same_number j i)

  set_same : (f : ℕ → A) (i : ℕ) → set_at f i (f i) ≡ f
  set_same f i = λ z j. at j z
    where
      at : (j : ℕ) → set_at f i (f i) j ≡ f j
      at j = ⊎_elim (λ e. ap (set_at f i (f i)) e ∙ set_here f i (f i) ∙ ap f (sym e)) (λ h. set_there f i (f i) j h) (same_number j i)

  nth_behind : (xs ys : List A) (k : ℕ) → nth (xs ++ ys) (length xs + k) ≡ nth ys k
  nth_behind [] ys k = let e : 0 + k ≡ k = omega arith in ap (nth ys) e
  nth_behind (x ∷ xs) ys k = let e : suc (length xs) + k ≡ suc (length xs + k) = omega arith in ap (nth (x ∷ (xs ++ ys))) e ∙ nth_behind xs ys k

module _ {P N : Type 0} (net : Net P N) (ok : IsNet net) (parted : IsParted net) (same : P → P → Bool) (kind : Promising) where
  is_there : (p : ℕ) → p < net.parts → is_replica net p 0 ≡ true
  is_there p lt = let e : ltb p net.parts ≡ true = grind (arith, nat_tests) in ap (λ b. b && true) e

  world_after : (xs ys : List Step) (w : World P) → world net same (xs ++ ys) w ≡ world net same ys (world net same xs w)
  world_after [] ys w = refl
  world_after (x ∷ xs) ys w = world_after xs ys (happens net same w x).0

  -- both ends of a channel are there
  receiver_there : (c : ℕ) → c < net.ifaces → receiver_of net c < net.parts
  receiver_there c lt = parted.ifaces c lt

  sender_there : (c : ℕ) → c < net.ifaces → sender_of net c < net.parts
  sender_there c lt = parted.ifaces (net.far_end c) (⊎_elim
      (λ h. h)
      (λ le. absurd (let e : net.far_end c ≡ c = sym (ok.outside (net.far_end c) le) ∙ ok.twice c in omega arith))
      (cases_lt (net.far_end c) net.ifaces))

  -- what comes into a partition goes out of another, and into no third
  goes_too : (p c : ℕ) → comes_in net p c ≡ true → goes_out net (sender_of net c) c ≡ true
  goes_too p c h =
      let b = and_both _ _ h in
      let e = number_is (receiver_of net c) p b.0 in
      ap₂ (λ x y. x && not y) (number_tied (sender_of net c)) (number_apart (receiver_of net c) (sender_of net c) (λ f. true≢false (sym (ap (λ z. z == p) (sym f ∙ e) ∙ number_tied p) ∙ not_true _ b.1)))

  comes_too : (c : ℕ) → goes_out net (sender_of net c) c ≡ true → comes_in net (receiver_of net c) c ≡ true
  comes_too c h =
      let b = and_both _ _ h in
      ap₂ (λ x y. x && not y) (number_tied (receiver_of net c)) (number_apart (sender_of net c) (receiver_of net c) (λ f. true≢false (sym (ap (λ z. z == sender_of net c) (sym f) ∙ number_tied (sender_of net c)) ∙ not_true _ b.1)))

  comes_not : (p c : ℕ) → p ≢ receiver_of net c → comes_in net p c ≡ false
  comes_not p c h = ⊎_elim (λ e. absurd (h (sym (number_is (receiver_of net c) p (and_both _ _ e).0)))) (λ e. e) (bool_cases (comes_in net p c))

  -- each partition runs all that is safe
  module _ (before : ℕ → Replica P) (counts : ℕ → ℕ) (drains : (p : ℕ) → IsCount net p (before p).knowledge (counts p)) (on : (p : ℕ) → (before p).ran ≤ counts p) where
    abbrev have_run : ℕ → Replica P
    have_run p = record { knowledge = (before p).knowledge; ran = counts p }

    run_steps : ℕ → List Step
    run_steps zero = []
    run_steps (suc n) = run_steps n ++ Run n 0 (counts n) ∷ []

    run_to : (w : World P) (p : ℕ) → p < net.parts → (x : Replica P) → w.replica p 0 ≡ x → (n : ℕ) → IsCount net p x.knowledge n → x.ran ≤ n → (happens net same w (Run p 0 n)).0 ≡ put_replica w p 0 (record { knowledge = x.knowledge; ran = n })
    run_to w p lt x h n = subst (λ y. IsCount net p y.knowledge n → y.ran ≤ n → (happens net same w (Run p 0 n)).0 ≡ put_replica w p 0 (record { knowledge = y.knowledge; ran = n })) h
        (λ c le. ap (λ o. o.0) (run_over net same w p 0 n n (is_there p lt) c le (omega arith)))

    record Ran (n : ℕ) (w : World P) : Type 0 where
      done : (p : ℕ) → p < n → w.replica p 0 ≡ have_run p
      left : (p : ℕ) → n ≤ p → p < net.parts → w.replica p 0 ≡ before p

    all_run : (n : ℕ) → n ≤ net.parts → (w : World P) → ((p : ℕ) → p < net.parts → w.replica p 0 ≡ before p) → Ran n (world net same (run_steps n) w)
    unfolding run_steps
    all_run zero le w h = record { done = λ p lt. absurd (omega arith); left = λ p from lt. h p lt }
    all_run (suc n) le w h =
        let r = all_run n (omega arith) w h in
        let v = world net same (run_steps n) w in
        let e : (happens net same v (Run n 0 (counts n))).0 ≡ put_replica v n 0 (have_run n) = run_to v n le (before n) (r.left n (omega arith) le) (counts n) (drains n) (on n) in
        subst (Ran (suc n)) (sym e ∙ sym (world_after (run_steps n) (Run n 0 (counts n) ∷ []) w)) (record {
          done = λ p lt. ⊎_elim
              (λ s. ap (λ z. (put_replica v n 0 (have_run n)).replica z 0) s ∙ here v n 0 (have_run n) ∙ ap have_run (sym s))
              (λ s. others v n 0 (have_run n) p 0 (inl s) ∙ r.done p (omega (arith, s)))
              (same_number p n);
          left = λ p from lt. others v n 0 (have_run n) p 0 (inl (λ s. let z : p ≡ n = s in absurd (omega arith))) ∙ r.left p (omega arith) lt;
        })

  -- all that there is for others is put into the bag, and then each frame is delivered once
  module _ (start : World P) (mid : ℕ → Replica P) (is : (p : ℕ) → p < net.parts → start.replica p 0 ≡ mid p) where
    abbrev known : ℕ → ℕ
    known c = length ((mid (receiver_of net c)).knowledge c).list

    abbrev messages : ℕ → List (Frame P)
    messages c = data_frames c (known c) (drop (known c) (given net mid c))

    abbrev null : ℕ → Frame P
    null c = NullFrame c (length (given net mid c)) (promised net mid kind c)

    abbrev frames : ℕ → List (Frame P)
    frames c = cond (goes_out net (sender_of net c) c) (messages c ++ null c ∷ []) []

    abbrev sends : ℕ → List Step
    sends c = cond (goes_out net (sender_of net c) c) (Resend (sender_of net c) 0 c (known c) ∷ Null kind (sender_of net c) 0 c ∷ []) []

    all_frames : ℕ → List (Frame P)
    all_frames zero = []
    all_frames (suc c) = all_frames c ++ frames c

    all_sends : ℕ → List Step
    all_sends zero = []
    all_sends (suc c) = all_sends c ++ sends c

    -- messages from a number on, whichever it is
    resent : (l : List (Frame P)) (c : ℕ) → c < net.ifaces → goes_out net (sender_of net c) c ≡ true → (n : ℕ) → (happens net same (put_frames start l) (Resend (sender_of net c) 0 c n)).0 ≡ put_frames (put_frames start l) (data_frames c n (drop n (given net mid c)))
    resent l c lt out n = subst (λ x. (happens net same (put_frames start l) (Resend (sender_of net c) 0 c n)).0 ≡ put_frames (put_frames start l) (data_frames c n (drop n (outgoing net (sender_of net c) x c)))) (is (sender_of net c) (sender_there c lt))
        (⊎_elim
        (λ past.
        let e : leb n (length lines) ≡ false = grind (arith, nat_tests) in
        let d : drop n lines ≡ [] = drop_of_length-le lines (omega arith) in
        ap (λ z. (cond {A = World P × Outcome} (is_replica net (sender_of net c) 0 && goes_out net (sender_of net c) c && z) (put_frames v (data_frames c n (drop n lines)), Frames (length lines - n)) (v, NoSuch)).0) e
        ∙ neither (is_replica net (sender_of net c) 0 && goes_out net (sender_of net c) c)
        ∙ nothing
        ∙ ap (λ k. put_frames v (data_frames c n k)) (sym d))
        (λ le. ap (λ o. o.0) (resend_is net same v (sender_of net c) 0 c (is_there (sender_of net c) (sender_there c lt)) out n le))
        (cases_lt (length lines) n))
      where
        v : World P
        v = put_frames start l

        lines : List (ℕ × P)
        lines = outgoing net (sender_of net c) (start.replica (sender_of net c) 0) c

        neither : (z : Bool) → (cond {A = World P × Outcome} (z && false) (put_frames v (data_frames c n (drop n lines)), Frames (length lines - n)) (v, NoSuch)).0 ≡ v
        neither true = refl
        neither false = refl

        nothing : v ≡ put_frames v []
        nothing = ap (λ k. record { replica = start.replica; bag = k }) (sym (append-nil v.bag))

    promised_null : (v : World P) (c : ℕ) → c < net.ifaces → goes_out net (sender_of net c) c ≡ true → v.replica (sender_of net c) 0 ≡ mid (sender_of net c) → (happens net same v (Null kind (sender_of net c) 0 c)).0 ≡ put_frames v (null c ∷ [])
    promised_null v c lt out e = subst (λ x. (happens net same v (Null kind (sender_of net c) 0 c)).0 ≡ put_frames v (NullFrame c (length (outgoing net (sender_of net c) x c)) (promise net kind (sender_of net c) x.knowledge x.ran c) ∷ [])) e
        (ap (λ z. (cond {A = World P × Outcome} z (put_frames v (NullFrame c (length (outgoing net (sender_of net c) (v.replica (sender_of net c) 0) c)) (promise net kind (sender_of net c) (v.replica (sender_of net c) 0).knowledge (v.replica (sender_of net c) 0).ran c) ∷ []), Frames 1) (v, NoSuch)).0) (ap₂ (λ x y. x && y) (is_there (sender_of net c) (sender_there c lt)) out))

    send_one : (c : ℕ) → c < net.ifaces → (l : List (Frame P)) → world net same (sends c) (put_frames start l) ≡ put_frames start (l ++ frames c)
    send_one c lt l = ⊎_elim
        (λ out.
        ap (λ z. world net same (cond z (Resend (sender_of net c) 0 c (known c) ∷ Null kind (sender_of net c) 0 c ∷ []) []) (put_frames start l)) out
        ∙ ap (λ v. (happens net same v (Null kind (sender_of net c) 0 c)).0) (resent l c lt out (known c))
        ∙ promised_null (put_frames (put_frames start l) (messages c)) c lt out (is (sender_of net c) (sender_there c lt))
        ∙ ap (λ k. record { replica = start.replica; bag = k }) (append_assoc (start.bag ++ l) (messages c) (null c ∷ []) ∙ append_assoc start.bag l (messages c ++ null c ∷ []))
        ∙ ap (λ z. put_frames start (l ++ cond z (messages c ++ null c ∷ []) [])) (sym out))
        (λ none.
        ap (λ z. world net same (cond z (Resend (sender_of net c) 0 c (known c) ∷ Null kind (sender_of net c) 0 c ∷ []) []) (put_frames start l)) none
        ∙ ap (put_frames start) (sym (append-nil l))
        ∙ ap (λ z. put_frames start (l ++ cond z (messages c ++ null c ∷ []) [])) (sym none))
        (bool_cases (goes_out net (sender_of net c) c))

    all_sent : (n : ℕ) → n ≤ net.ifaces → world net same (all_sends n) start ≡ put_frames start (all_frames n)
    unfolding all_sends all_frames
    all_sent zero le = ap (λ k. record { replica = start.replica; bag = k }) (sym (append-nil start.bag))
    all_sent (suc c) le = world_after (all_sends c) (sends c) start ∙ ap (world net same (sends c)) (all_sent c (omega arith)) ∙ send_one c le (all_frames c)

    -- a frame that is told to replica 0 of its receiver
    abbrev hears : World P → Frame P → World P
    hears w f = (delivers net same w 0 (Some f)).0

    hears_all : World P → List (Frame P) → World P
    hears_all w [] = w
    hears_all w (f ∷ fs) = hears_all (hears w f) fs

    hears-append : (w : World P) (k l : List (Frame P)) → hears_all w (k ++ l) ≡ hears_all (hears_all w k) l
    unfolding hears_all
    hears-append w [] l = refl
    hears-append w (f ∷ k) l = hears-append (hears w f) k l

    bag_stays : (w : World P) (f : Frame P) → (hears w f).bag ≡ w.bag
    bag_stays w (DataFrame c n b) = go (is_replica net (receiver_of net c) 0) (accept_data same ((w.replica (receiver_of net c) 0).knowledge c) n b)
      where
        go : (z : Bool) (a : Accepted P) → (cond z (told w (receiver_of net c) 0 c a) (w, NoSuch)).0.bag ≡ w.bag
        go true a = refl
        go false a = refl
    bag_stays w (NullFrame c n t) = go (is_replica net (receiver_of net c) 0) (accept_null ((w.replica (receiver_of net c) 0).knowledge c) n t)
      where
        go : (z : Bool) (a : Accepted P) → (cond z (told w (receiver_of net c) 0 c a) (w, NoSuch)).0.bag ≡ w.bag
        go true a = refl
        go false a = refl

    bag_stays_all : (w : World P) (fs : List (Frame P)) → (hears_all w fs).bag ≡ w.bag
    unfolding hears_all
    bag_stays_all w [] = refl
    bag_stays_all w (f ∷ fs) = bag_stays_all (hears w f) fs ∙ bag_stays w f

    delivers_from : ℕ → ℕ → List Step
    delivers_from i zero = []
    delivers_from i (suc n) = Deliver i 0 ∷ delivers_from (suc i) n

    delivered : (fs : List (Frame P)) (i : ℕ) (w : World P) → ((k : ℕ) (f : Frame P) → nth fs k ≡ Some f → nth w.bag (i + k) ≡ Some f) → world net same (delivers_from i (length fs)) w ≡ hears_all w fs
    unfolding hears_all delivers_from
    delivered [] i w at = refl
    delivered (f ∷ fs) i w at =
        let e : i + 0 ≡ i = omega arith in
        let first : nth w.bag i ≡ Some f = ap (nth w.bag) (sym e) ∙ at 0 f refl in
        ap (λ o. world net same (delivers_from (suc i) (length fs)) (delivers net same w 0 o).0) first
        ∙ delivered fs (suc i) (hears w f) (λ k g h. let z : suc i + k ≡ i + suc k = omega arith in ap (λ l. nth l (suc i + k)) (bag_stays w f) ∙ ap (nth w.bag) z ∙ at (suc k) g h)

    -- replica 0 of p was told of channel c alone
    record Heard (p c : ℕ) (w v : World P) (a : Know P) : Type 0 where
      mine : v.replica p 0 ≡ record { knowledge = set_at (w.replica p 0).knowledge c a; ran = (w.replica p 0).ran }
      others : (q : ℕ) → q ≢ p → v.replica q 0 ≡ w.replica q 0

    nothing_heard : (p c : ℕ) (w : World P) → Heard p c w w ((w.replica p 0).knowledge c)
    nothing_heard p c w = record {
      mine = ap (λ K. record { knowledge = K; ran = (w.replica p 0).ran }) (sym (set_same (w.replica p 0).knowledge c));
      others = λ q h. refl;
    }

    heard_both : (p c : ℕ) (w v u : World P) (a : Know P) (f : Know P → Know P) → Heard p c w v a → Heard p c v u (f ((v.replica p 0).knowledge c)) → Heard p c w u (f a)
    heard_both p c w v u a f h k = record {
      mine =
          let e : (v.replica p 0).knowledge ≡ set_at (w.replica p 0).knowledge c a = ap (λ (x : Replica P). x.knowledge) h.mine in
          let at : (v.replica p 0).knowledge c ≡ a = ap (λ (K : Knowledge P). K c) e ∙ set_here (w.replica p 0).knowledge c a in
          k.mine ∙ ap₂ (λ (K : Knowledge P) (r : ℕ). record { knowledge = K; ran = r })
          (ap (λ (b : Know P). set_at (v.replica p 0).knowledge c (f b)) at ∙ ap (λ (K : Knowledge P). set_at K c (f a)) e ∙ set_twice (w.replica p 0).knowledge c a (f a))
          (ap (λ (x : Replica P). x.ran) h.mine);
      others = λ q ne. k.others q ne ∙ h.others q ne;
    }

    put_heard : (p c : ℕ) (w : World P) (a : Know P) → Heard p c w (put_replica w p 0 (record { knowledge = set_at (w.replica p 0).knowledge c a; ran = (w.replica p 0).ran })) a
    put_heard p c w a = record {
      mine = here w p 0 (record { knowledge = set_at (w.replica p 0).knowledge c a; ran = (w.replica p 0).ran });
      others = λ q h. others w p 0 (record { knowledge = set_at (w.replica p 0).knowledge c a; ran = (w.replica p 0).ran }) q 0 (inl h);
    }

    module _ (c : ℕ) (lt : c < net.ifaces) where
      abbrev to : ℕ
      to = receiver_of net c

      message_heard : (w : World P) (n : ℕ) (b : ℕ × P) → Heard to c w (hears w (DataFrame c n b)) (accept_data same ((w.replica to 0).knowledge c) n b).after
      message_heard w n b = subst (λ v. Heard to c w v (accept_data same ((w.replica to 0).knowledge c) n b).after)
          (sym (ap (λ z. (cond z (told w to 0 c (accept_data same ((w.replica to 0).knowledge c) n b)) (w, NoSuch)).0) (is_there to (receiver_there c lt))))
          (put_heard to c w (accept_data same ((w.replica to 0).knowledge c) n b).after)

      null_heard : (w : World P) (n t : ℕ) → Heard to c w (hears w (NullFrame c n t)) (accept_null ((w.replica to 0).knowledge c) n t).after
      null_heard w n t = subst (λ v. Heard to c w v (accept_null ((w.replica to 0).knowledge c) n t).after)
          (sym (ap (λ z. (cond z (told w to 0 c (accept_null ((w.replica to 0).knowledge c) n t)) (w, NoSuch)).0) (is_there to (receiver_there c lt))))
          (put_heard to c w (accept_null ((w.replica to 0).knowledge c) n t).after)

      messages_heard : (l : List (ℕ × P)) (n : ℕ) (w : World P) → Heard to c w (hears_all w (data_frames c n l)) (hear_list same ((w.replica to 0).knowledge c) n l)
      unfolding hears_all
      messages_heard [] n w = nothing_heard to c w
      messages_heard (b ∷ l) n w = heard_both to c w (hears w (DataFrame c n b)) (hears_all (hears w (DataFrame c n b)) (data_frames c (suc n) l)) (accept_data same ((w.replica to 0).knowledge c) n b).after (λ a. hear_list same a (suc n) l) (message_heard w n b) (messages_heard l (suc n) (hears w (DataFrame c n b)))

      channel_heard : (w : World P) (l : List (ℕ × P)) (n m t : ℕ) → Heard to c w (hears_all w (data_frames c n l ++ NullFrame c m t ∷ [])) (accept_null (hear_list same ((w.replica to 0).knowledge c) n l) m t).after
      unfolding hears_all
      channel_heard w l n m t =
          let v = hears_all w (data_frames c n l) in
          subst (λ u. Heard to c w u (accept_null (hear_list same ((w.replica to 0).knowledge c) n l) m t).after) (sym (hears-append w (data_frames c n l) (NullFrame c m t ∷ [])))
          (heard_both to c w v (hears v (NullFrame c m t)) (hear_list same ((w.replica to 0).knowledge c) n l) (λ a. (accept_null a m t).after) (messages_heard l n w) (null_heard v m t))

    -- what is known once the channels below n were heard
    abbrev known_below : ℕ → ℕ → Knowledge P
    known_below p n c = cond (ltb c n) (heard_on net same kind mid p c) ((mid p).knowledge c)

    record Told (n : ℕ) (w : World P) : Type 0 where
      bag : w.bag ≡ start.bag ++ all_frames net.ifaces
      replica : (p : ℕ) → p < net.parts → w.replica p 0 ≡ record { knowledge = known_below p n; ran = (mid p).ran }

    frames_begin : (n m : ℕ) → n ≤ m → IsPrefix (all_frames n) (all_frames m)
    unfolding all_frames
    frames_begin n zero le = let e : n ≡ 0 = omega arith in subst (λ k. IsPrefix (all_frames n) (all_frames k)) e (prefix_self (all_frames n))
    frames_begin n (suc m) le = ⊎_elim
        (λ lt. prefix_trans _ _ _ (frames_begin n m (omega arith)) (frames m, refl))
        (λ ge. let e : n ≡ suc m = omega arith in subst (λ k. IsPrefix (all_frames n) (all_frames k)) e (prefix_self (all_frames n)))
        (cases_lt n (suc m))

    abbrev base : ℕ → ℕ
    base c = length start.bag + length (all_frames c)

    -- where a channel's frames lie
    frame_at : (c : ℕ) → c < net.ifaces → (w : World P) → w.bag ≡ start.bag ++ all_frames net.ifaces → (k : ℕ) (f : Frame P) → nth (frames c) k ≡ Some f → nth w.bag (base c + k) ≡ Some f
    unfolding all_frames
    frame_at c lt w e k f g =
        let pre = frames_begin (suc c) net.ifaces lt in
        let z : base c + k ≡ length start.bag + (length (all_frames c) + k) = omega arith in
        ap (λ l. nth l (base c + k)) e ∙ ap (nth (start.bag ++ all_frames net.ifaces)) z
        ∙ nth_behind start.bag (all_frames net.ifaces) (length (all_frames c) + k)
        ∙ ap (λ l. nth l (length (all_frames c) + k)) (sym pre.1)
        ∙ nth_front (all_frames c ++ frames c) pre.0 (length (all_frames c) + k) f (nth_behind (all_frames c) (frames c) k ∙ g)

    all_delivers : ℕ → List Step
    all_delivers zero = []
    all_delivers (suc c) = all_delivers c ++ delivers_from (base c) (length (frames c))

    -- a channel more
    below_one : (p c : ℕ) → set_at (known_below p c) c (heard_on net same kind mid p c) ≡ known_below p (suc c)
    below_one p c = λ z d. at d z
      where
        at : (d : ℕ) → set_at (known_below p c) c (heard_on net same kind mid p c) d ≡ known_below p (suc c) d
        at d = ⊎_elim
            (λ e.
            let t : ltb d (suc c) ≡ true = grind (arith, nat_tests) in
            ap (set_at (known_below p c) c (heard_on net same kind mid p c)) e ∙ set_here (known_below p c) c (heard_on net same kind mid p c)
            ∙ ap (heard_on net same kind mid p) (sym e) ∙ sym (ap (λ b. cond b (heard_on net same kind mid p d) ((mid p).knowledge d)) t))
            (λ h.
            let t : ltb d c ≡ ltb d (suc c) = grind (arith, nat_tests) in
            set_there (known_below p c) c (heard_on net same kind mid p c) d h ∙ ap (λ b. cond b (heard_on net same kind mid p d) ((mid p).knowledge d)) t)
            (same_number d c)

    at_last : (p c : ℕ) → known_below p c c ≡ (mid p).knowledge c
    at_last p c = let t : ltb c c ≡ false = grind (arith, nat_tests) in ap (λ b. cond b (heard_on net same kind mid p c) ((mid p).knowledge c)) t

    not_heard : (p c : ℕ) → comes_in net p c ≡ false → known_below p c ≡ known_below p (suc c)
    not_heard p c h =
        sym (set_same (known_below p c) c)
        ∙ ap (set_at (known_below p c) c) (at_last p c ∙ sym (ap (λ b. cond b (hear same ((mid p).knowledge c) (given net mid c) (promised net mid kind c)) ((mid p).knowledge c)) h))
        ∙ below_one p c

    hears_channel : (c : ℕ) → c < net.ifaces → (w : World P) → Told c w → Told (suc c) (hears_all w (frames c))
    unfolding hears_all
    hears_channel c lt w t = ⊎_elim
        (λ out.
        let to = receiver_of net c in
        let a = hear same ((mid to).knowledge c) (given net mid c) (promised net mid kind c) in
        let e : (w.replica to 0).knowledge ≡ known_below to c = ap (λ (x : Replica P). x.knowledge) (t.replica to (receiver_there c lt)) in
        let at : (w.replica to 0).knowledge c ≡ (mid to).knowledge c = ap (λ (K : Knowledge P). K c) e ∙ at_last to c in
        let h : Heard to c w (hears_all w (messages c ++ null c ∷ [])) a = subst (λ b. Heard to c w (hears_all w (messages c ++ null c ∷ [])) (accept_null (hear_list same b (known c) (drop (known c) (given net mid c))) (length (given net mid c)) (promised net mid kind c)).after) at
        (channel_heard c lt w (drop (known c) (given net mid c)) (known c) (length (given net mid c)) (promised net mid kind c)) in
        let is_a : heard_on net same kind mid to c ≡ a = ap (λ b. cond b a ((mid to).knowledge c)) (comes_too c out) in
        subst (λ fs. Told (suc c) (hears_all w fs)) (sym (ap (λ z. cond z (messages c ++ null c ∷ []) []) out)) (record {
          bag = bag_stays_all w (messages c ++ null c ∷ []) ∙ t.bag;
          replica = λ p pl. ⊎_elim
              (λ s.
              ap (λ q. (hears_all w (messages c ++ null c ∷ [])).replica q 0) s ∙ h.mine
              ∙ ap₂ (λ (K : Knowledge P) (r : ℕ). record { knowledge = K; ran = r }) (ap₂ (λ (K : Knowledge P) (b : Know P). set_at K c b) e (sym is_a) ∙ below_one to c) (ap (λ (x : Replica P). x.ran) (t.replica to (receiver_there c lt)))
              ∙ ap (λ q. record { knowledge = known_below q (suc c); ran = (mid q).ran }) (sym s))
              (λ s. h.others p s ∙ t.replica p pl ∙ ap (λ K. record { knowledge = K; ran = (mid p).ran }) (not_heard p c (comes_not p c s)))
              (same_number p to);
        }))
        (λ none. subst (λ fs. Told (suc c) (hears_all w fs)) (sym (ap (λ z. cond z (messages c ++ null c ∷ []) []) none)) (record {
          bag = t.bag;
          replica = λ p pl. t.replica p pl ∙ ap (λ K. record { knowledge = K; ran = (mid p).ran }) (not_heard p c (⊎_elim (λ h. absurd (true≢false (sym (goes_too p c h) ∙ none))) (λ h. h) (bool_cases (comes_in net p c))));
        }))
        (bool_cases (goes_out net (sender_of net c) c))

    all_heard : (n : ℕ) → n ≤ net.ifaces → (w : World P) → Told 0 w → Told n (world net same (all_delivers n) w)
    unfolding all_delivers
    all_heard zero le w t = t
    all_heard (suc c) le w t =
        let v = world net same (all_delivers c) w in
        let u = all_heard c (omega arith) w t in
        subst (Told (suc c)) (sym (delivered (frames c) (base c) v (frame_at c le v u.bag)) ∙ sym (world_after (all_delivers c) (delivers_from (base c) (length (frames c))) w)) (hears_channel c le v u)

    none_told : Told 0 (put_frames start (all_frames net.ifaces))
    none_told = record { bag = refl; replica = λ p lt. is p lt ∙ ap (λ K. record { knowledge = K; ran = (mid p).ran }) (λ z c. at p c z) }
      where
        at : (p c : ℕ) → (mid p).knowledge c ≡ known_below p 0 c
        at p c = let t : ltb c 0 ≡ false = grind (arith, nat_tests) in sym (ap (λ b. cond b (heard_on net same kind mid p c) ((mid p).knowledge c)) t)

    all_known : (p : ℕ) → known_below p net.ifaces ≡ heard_on net same kind mid p
    all_known p = λ z c. at c z
      where
        at : (c : ℕ) → known_below p net.ifaces c ≡ heard_on net same kind mid p c
        at c = ⊎_elim
            (λ lt. let t : ltb c net.ifaces ≡ true = grind (arith, nat_tests) in ap (λ b. cond b (heard_on net same kind mid p c) ((mid p).knowledge c)) t)
            (λ ge.
            let t : ltb c net.ifaces ≡ false = grind (arith, nat_tests) in
            let none : comes_in net p c ≡ false = ⊎_elim (λ h. absurd (let i = channel_inside net p ok c h in omega arith)) (λ h. h) (bool_cases (comes_in net p c)) in
            ap (λ b. cond b (heard_on net same kind mid p c) ((mid p).knowledge c)) t ∙ sym (ap (λ b. cond b (hear same ((mid p).knowledge c) (given net mid c) (promised net mid kind c)) ((mid p).knowledge c)) none))
            (cases_lt c net.ifaces)

    -- the second half of a round
    abbrev hearing : List Step
    hearing = all_sends net.ifaces ++ all_delivers net.ifaces

    heard_by_all : (p : ℕ) → p < net.parts → (world net same hearing start).replica p 0 ≡ record { knowledge = heard_on net same kind mid p; ran = (mid p).ran }
    heard_by_all p lt =
        let e : world net same hearing start ≡ world net same (all_delivers net.ifaces) (put_frames start (all_frames net.ifaces)) = world_after (all_sends net.ifaces) (all_delivers net.ifaces) start ∙ ap (world net same (all_delivers net.ifaces)) (all_sent net.ifaces (omega arith)) in
        ap (λ (w : World P). w.replica p 0) e ∙ (all_heard net.ifaces (omega arith) (put_frames start (all_frames net.ifaces)) none_told).replica p lt
        ∙ ap (λ K. record { knowledge = K; ran = (mid p).ran }) (all_known p)

  module _ (eq : (x : P) → same x x ≡ true) (b : ℕ → ℕ → Replica P) (rounds : IsRounds net same kind b) where
    -- the steps of the first rounds
    pub steps_of : (j : ℕ) → (steps : List Step) × ((p : ℕ) → p < net.parts → (world net same steps opening).replica p 0 ≡ b j p)
    steps_of zero = ([], λ p lt. sym (rounds.opens p))
    steps_of (suc j) =
        let s = steps_of j in
        let w = world net same s.0 opening in
        let counts = λ (p : ℕ). (b (suc j) p).ran in
        let on = λ (p : ℕ). ran_on_there net ok same eq kind b rounds j p in
        let v = world net same (run_steps (b j) counts (rounds.runs j) on net.parts) w in
        let r = all_run (b j) counts (rounds.runs j) on net.parts (omega arith) w s.1 in
        let mid = have_run (b j) counts (rounds.runs j) on in
        let last = hearing v mid r.done in (
          s.0 ++ (run_steps (b j) counts (rounds.runs j) on net.parts ++ last),
          λ p lt.
              ap (λ (u : World P). u.replica p 0) (world_after s.0 (run_steps (b j) counts (rounds.runs j) on net.parts ++ last) opening ∙ world_after (run_steps (b j) counts (rounds.runs j) on net.parts) last w)
              ∙ heard_by_all v mid r.done p lt
              ∙ ap (λ K. record { knowledge = K; ran = (b (suc j) p).ran }) (sym (rounds.hears j p)),
        )
