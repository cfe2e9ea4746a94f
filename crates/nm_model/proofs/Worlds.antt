-- What holds of replicas over every schedule.
use Rattle.std.proofs.Common.{◌≡◌, ◌⊎◌, inl, inr, ℕ, zero, suc, ◌+◌, ◌≤◌, min, Bool, true, false, cond, ◌&&◌, leb, ◌-◌, drop, List, [], ◌∷◌, ◌++◌, length, Option, Some, None, refl, sym, ap, ◌∙◌, subst, arith, ⊎_elim}
use Rattle.std.proofs.lemmas.Bool.{cases_lt}
use Rattle.nm_model.specs.Accept.{Answer, accept_data, accept_null}
use Rattle.nm_model.specs.Replica.{from_scratch, safe_time, IsWithin}
use Rattle.nm_model.specs.Knowledge.{Knowledge, Know, IsValid, IsUnder}
use Rattle.nm_model.specs.Partition.{goes_out, receiver_of}
use Rattle.nm_model.specs.Promise.{promise}
use Rattle.nm_model.specs.Join.{join_faults, join_all}
use Rattle.nm_model.specs.Lists.{nth, set_at}
use Rattle.nm_model.specs.Network.{Net, IsNet}
use Rattle.nm_model.specs.Before.{IsBefore, IsCount, IsKnowledge, history}
use Rattle.nm_model.specs.Run.{pends_before}
use Rattle.nm_model.specs.World.{Frame, DataFrame, NullFrame, Replica, World, Step, Run, Data, Resend, Null, Deliver, Merge, Restart, Outcome, All, Limit, Frames, NoSuch, opening, put_replica, put_frames, sister, advance, is_replica, outgoing, data_frames, sends, told, runs, merges, delivers, happens, world, answers, IsFineOutcome, AllFine}
use Rattle.nm_model.proofs.ListLemmas.{below_or_at, nth_drop, same_number, set_here, set_there, prefix_nth}
use Rattle.nm_model.proofs.Cut.{and_both}
use Rattle.nm_model.proofs.CutLaw.{out_prefix}
use Rattle.nm_model.proofs.Promises.{out_later}
use Rattle.nm_model.proofs.Books.{within_more}
use Rattle.nm_model.proofs.Accepting.{under_self, data_under, data_valid, null_under, null_valid}
use Rattle.nm_model.proofs.Joins.{join_valid, left_under, join_faultless, no_faults}
use Rattle.nm_model.proofs.Stated.{times, before}

module _ {P : Type 0} where
  replica_case : (w : World P) (p r : ℕ) (x : Replica P) (q s : ℕ) → ((q ≡ p) × ((put_replica w p r x).replica q s ≡ x)) ⊎ ((put_replica w p r x).replica q s ≡ w.replica q s)
  replica_case w p r x q s = ⊎_elim
      (λ e. let here : (put_replica w p r x).replica q s ≡ set_at (w.replica p) r x s = ap (λ f. f s) (ap (set_at w.replica p (set_at (w.replica p) r x)) e ∙ set_here w.replica p (set_at (w.replica p) r x)) in
      ⊎_elim
      (λ f. inl (e, here ∙ ap (set_at (w.replica p) r x) f ∙ set_here (w.replica p) r x))
      (λ f. inr (here ∙ set_there (w.replica p) r x s f ∙ ap (λ v. w.replica v s) (sym e)))
      (same_number s r))
      (λ e. inr (ap (λ f. f s) (set_there w.replica p (set_at (w.replica p) r x) q e)))
      (same_number q p)

  abbrev Each : (Frame P → Type 0) → List (Frame P) → Type 0
  Each Q [] = Unit {0}
  Each Q (f ∷ l) = Q f × Each Q l

  all_nth : (Q : Frame P → Type 0) (l : List (Frame P)) → Each Q l → (i : ℕ) (f : Frame P) → nth l i ≡ Some f → Q f
  all_nth Q [] h i f e = absurd (cc)
  all_nth Q (x ∷ l) h zero f e = let g : x ≡ f = cc in subst Q g h.0
  all_nth Q (x ∷ l) h (suc i) f e = all_nth Q l h.1 i f e

  all-append : (Q : Frame P → Type 0) (k l : List (Frame P)) → Each Q k → Each Q l → Each Q (k ++ l)
  all-append Q [] l h i = i
  all-append Q (x ∷ k) l h i = (h.0, all-append Q k l h.1 i)

module _ {P N : Type 0} (net : Net P N) where
  pub advance_within : (p : ℕ) (K : Knowledge P) (n k : ℕ) → IsWithin net p K k → IsWithin net p K (advance net p K n k)
  advance_within p K zero k w = w
  advance_within p K (suc n) k w = go (pends_before (safe_time net p K) (from_scratch net p K k)) refl (λ v. advance_within p K n (suc k) v)
    where
      go : (b : Bool) → pends_before (safe_time net p K) (from_scratch net p K k) ≡ b → (IsWithin net p K (suc k) → IsWithin net p K (advance net p K n (suc k))) → IsWithin net p K (cond b (advance net p K n (suc k)) k)
      go false e rest = w
      go true e rest = rest (λ m lt. ⊎_elim (λ f. w m f) (λ f. subst (λ z. pends_before (safe_time net p K) (from_scratch net p K z) ≡ true) (sym f) e) (below_or_at m k lt))

  -- a run goes on to the lesser of k + n and the count
  pub advance_is : (p : ℕ) (K : Knowledge P) (count : ℕ) → IsCount net p K count → (n k : ℕ) → k ≤ count → advance net p K n k ≡ min (k + n) count
  advance_is p K count c zero k le = omega arith
  advance_is p K count c (suc n) k le = ⊎_elim
      (λ lt. ap (λ b. cond b (advance net p K n (suc k)) k) (c.first k lt) ∙ advance_is p K count c n (suc k) lt ∙ omega arith)
      (λ ge. let e : k ≡ count = omega arith in ap (λ b. cond b (advance net p K n (suc k)) k) (ap (λ z. pends_before (safe_time net p K) (from_scratch net p K z)) e ∙ c.over) ∙ omega arith)
      (cases_lt k count)

module _ {P N : Type 0} (net : Net P N) (ok : IsNet net) (same : P → P → Bool) (eq : (x : P) → same x x ≡ true) (last : ℕ) (ends : IsBefore net net.stop last) where
  -- a frame that says what is so
  abbrev IsTrueFrame : Frame P → Type 0
  IsTrueFrame (DataFrame c n b) = nth (history net last c) n ≡ Some b
  IsTrueFrame (NullFrame c n t) = (i : ℕ) (x : ℕ × P) → n ≤ i → nth (history net last c) i ≡ Some x → t ≤ x.0

  pub record Fair (p : ℕ) (x : Replica P) : Type 0 where
    pub valid : (c : ℕ) → IsValid (x.knowledge c) (history net last c)
    pub within : IsWithin net p x.knowledge x.ran

  pub record Sound (w : World P) : Type 0 where
    pub fair : (p r : ℕ) → Fair p (w.replica p r)
    pub truthful : Each IsTrueFrame w.bag

  pub sound_opening : Sound opening
  sound_opening = record {
    fair = λ p r. record {
      valid = λ c. record { begins = (history net last c, refl); later = λ n b le e. omega arith };
      within = λ m lt. absurd (omega arith);
    };
    truthful = tt;
  }

  sound_put : (w : World P) → Sound w → (p r : ℕ) (x : Replica P) → Fair p x → Sound (put_replica w p r x)
  sound_put w h p r x f = record {
    fair = λ q s. ⊎_elim
        (λ e. subst (Fair q) (sym e.1) (subst (λ z. Fair z x) (sym e.0) f))
        (λ e. subst (Fair q) (sym e) (h.fair q s))
        (replica_case w p r x q s);
    truthful = h.truthful;
  }

  sound_frames : (w : World P) → Sound w → (l : List (Frame P)) → Each IsTrueFrame l → Sound (put_frames w l)
  sound_frames w h l a = record { fair = h.fair; truthful = all-append IsTrueFrame w.bag l h.truthful a }

  -- knowledge that was told of one channel
  fair_set : (p : ℕ) (x : Replica P) → Fair p x → (c : ℕ) (a : Know P) → IsUnder (x.knowledge c) a → IsValid a (history net last c) → Fair p (record { knowledge = set_at x.knowledge c a; ran = x.ran })
  fair_set p x f c a u v = record {
    valid = λ d. ⊎_elim
        (λ e. subst (λ z. IsValid ((set_at x.knowledge c a) z) (history net last z)) (sym e) (subst (λ z. IsValid z (history net last c)) (sym (set_here x.knowledge c a)) v))
        (λ e. subst (λ z. IsValid z (history net last d)) (sym (set_there x.knowledge c a d e)) (f.valid d))
        (same_number d c);
    within = within_more net ok p x.knowledge (set_at x.knowledge c a) (λ d ch. ⊎_elim
        (λ e. subst (λ z. IsUnder (x.knowledge z) ((set_at x.knowledge c a) z)) (sym e) (subst (IsUnder (x.knowledge c)) (sym (set_here x.knowledge c a)) u))
        (λ e. subst (IsUnder (x.knowledge d)) (sym (set_there x.knowledge c a d e)) (under_self (x.knowledge d)))
        (same_number d c)) x.ran f.within;
  }

  abbrev Kept : World P × Outcome → Type 0
  Kept o = Sound o.0 × IsFineOutcome o.1

  -- a step at a replica that isn't there changes nothing
  guarded : (w : World P) → Sound w → (z : Bool) (o : World P × Outcome) → (z ≡ true → Kept o) → Kept (cond z o (w, NoSuch))
  guarded w h true o k = k refl
  guarded w h false o k = (h, tt)

  delivers_kept : (w : World P) → Sound w → (r : ℕ) (o : Option (Frame P)) → ((f : Frame P) → o ≡ Some f → IsTrueFrame f) → Kept (delivers net same w r o)
  delivers_kept w h r None t = (h, tt)
  delivers_kept w h r (Some (DataFrame c n b)) t =
      let p = receiver_of net c in
      let x = w.replica p r in
      let f = h.fair p r in
      let d = data_valid same eq (x.knowledge c) (history net last c) (times net ok last c) (f.valid c) n b (t (DataFrame c n b) refl) in
      let s = sound_put w h p r (record { knowledge = set_at x.knowledge c (accept_data same (x.knowledge c) n b).after; ran = x.ran }) (fair_set p x f c (accept_data same (x.knowledge c) n b).after (data_under same (x.knowledge c) n b) d.1) in
      guarded w h (is_replica net p r) (told w p r c (accept_data same (x.knowledge c) n b)) (λ z. (s, d.0))
  delivers_kept w h r (Some (NullFrame c n k)) t =
      let p = receiver_of net c in
      let x = w.replica p r in
      let f = h.fair p r in
      let d = null_valid (x.knowledge c) (history net last c) (f.valid c) n k (t (NullFrame c n k) refl) in
      let s = sound_put w h p r (record { knowledge = set_at x.knowledge c (accept_null (x.knowledge c) n k).after; ran = x.ran }) (fair_set p x f c (accept_null (x.knowledge c) n k).after (null_under (x.knowledge c) n k) d.1) in
      guarded w h (is_replica net p r) (told w p r c (accept_null (x.knowledge c) n k)) (λ z. (s, d.0))

  merges_kept : (w : World P) → Sound w → (p r s : ℕ) (o : Option (ℕ × Answer)) → join_faults same (w.replica p r).knowledge (w.replica p s).knowledge net.ifaces ≡ o → Kept (merges w p r (w.replica p s).knowledge o)
  merges_kept w h p r s (Some f) e =
      let none = no_faults same (w.replica p r).knowledge (w.replica p s).knowledge net.ifaces (λ c. join_faultless (history net last c) same eq _ _ ((h.fair p r).valid c) ((h.fair p s).valid c)) in
      absurd (cc)
  merges_kept w h p r s None e =
      let x = w.replica p r in let y = w.replica p s in (
        sound_put w h p r (record { knowledge = join_all x.knowledge y.knowledge; ran = x.ran }) (record {
          valid = λ c. join_valid (history net last c) _ _ ((h.fair p r).valid c) ((h.fair p s).valid c);
          within = within_more net ok p x.knowledge (join_all x.knowledge y.knowledge) (λ c ch. left_under (history net last c) _ _ ((h.fair p r).valid c) ((h.fair p s).valid c)) x.ran (h.fair p r).within;
        }),
        tt,
      )

  -- what a replica has put on an outgoing channel is so
  out_true : (p : ℕ) (x : Replica P) → Fair p x → (c n : ℕ) (b : ℕ × P) → goes_out net p c ≡ true → nth (outgoing net p x c) n ≡ Some b → nth (history net last c) n ≡ Some b
  out_true p x f c n b out e = prefix_nth _ _ n b (out_prefix net ok p x.knowledge last ends.over (λ d ch. f.valid d) x.ran c f.within (and_both _ _ out).0) e

  sends_kept : (w : World P) → Sound w → (c n : ℕ) (o : Option (ℕ × P)) → ((b : ℕ × P) → o ≡ Some b → nth (history net last c) n ≡ Some b) → Kept (sends w c n o)
  sends_kept w h c n None t = (h, tt)
  sends_kept w h c n (Some b) t = (sound_frames w h (DataFrame c n b ∷ []) (t b refl, tt), tt)

  frames_true : (c n : ℕ) (l : List (ℕ × P)) → ((d : ℕ) (b : ℕ × P) → nth l d ≡ Some b → nth (history net last c) (n + d) ≡ Some b) → Each IsTrueFrame (data_frames c n l)
  frames_true c n [] t = tt
  frames_true c n (b ∷ l) t =
      let z : n + 0 ≡ n = omega arith in
      (ap (nth (history net last c)) (sym z) ∙ t 0 b refl, frames_true c (suc n) l (λ d x e. let y : suc n + d ≡ n + suc d = omega arith in ap (nth (history net last c)) y ∙ t (suc d) x e))

  kept : (w : World P) → Sound w → (e : Step) → Kept (happens net same w e)
  kept w h (Run p r n) =
      let x = w.replica p r in let f = h.fair p r in
      guarded w h (is_replica net p r) (runs net w p r x (advance net p x.knowledge n x.ran)) (λ z. (sound_put w h p r _ (record { valid = f.valid; within = advance_within net p x.knowledge n x.ran f.within }), ran_fine (pends_before (safe_time net p x.knowledge) (from_scratch net p x.knowledge (advance net p x.knowledge n x.ran))) (advance net p x.knowledge n x.ran - x.ran)))
    where
      ran_fine : (z : Bool) (m : ℕ) → IsFineOutcome (cond z (Limit m) (All m))
      ran_fine true m = tt
      ran_fine false m = tt
  kept w h (Data p r c n) =
      guarded w h (is_replica net p r && goes_out net p c) (sends w c n (nth (outgoing net p (w.replica p r) c) n))
      (λ z. sends_kept w h c n _ (λ b e. out_true p (w.replica p r) (h.fair p r) c n b (and_both _ _ z).1 e))
  kept w h (Resend p r c n) =
      let l = outgoing net p (w.replica p r) c in
      guarded w h (is_replica net p r && goes_out net p c && leb n (length l)) (put_frames w (data_frames c n (drop n l)), Frames (length l - n))
      (λ z. (sound_frames w h (data_frames c n (drop n l)) (frames_true c n (drop n l) (λ d b e. out_true p (w.replica p r) (h.fair p r) c (n + d) b (and_both _ _ (and_both _ _ z).0).1 (nth_drop (outgoing net p (w.replica p r) c) n d b e))), tt))
  kept w h (Null kind p r c) =
      let x = w.replica p r in let f = h.fair p r in
      guarded w h (is_replica net p r && goes_out net p c) (put_frames w (NullFrame c (length (outgoing net p x c)) (promise net kind p x.knowledge x.ran c) ∷ []), Frames 1)
      (λ z. (sound_frames w h (NullFrame c (length (outgoing net p x c)) (promise net kind p x.knowledge x.ran c) ∷ []) ((λ i b le g. out_later net ok p x.knowledge last ends.over (λ d ch. f.valid d) x.ran c f.within (and_both _ _ (and_both _ _ z).1).0 i b le g kind), tt), tt))
  kept w h (Deliver i r) = delivers_kept w h r (nth w.bag i) (λ f e. all_nth IsTrueFrame w.bag h.truthful i f e)
  kept w h (Merge p r) = guarded w h (is_replica net p r) _ (λ z. merges_kept w h p r (sister r) _ refl)
  kept w h (Restart p r) = guarded w h (is_replica net p r) _ (λ z. (sound_put w h p r _ (sound_opening.fair p r), tt))

  pub world_sound : (es : List Step) (w : World P) → Sound w → Sound (world net same es w)
  world_sound [] w h = h
  world_sound (e ∷ es) w h = world_sound es (happens net same w e).0 (kept w h e).0

  pub world_fine : (es : List Step) (w : World P) → Sound w → AllFine (answers net same es w)
  world_fine [] w h = tt
  world_fine (e ∷ es) w h = let k = kept w h e in (k.1, world_fine es (happens net same w e).0 k.0)

module _ {P N : Type 0} (net : Net P N) (ok : IsNet net) (same : P → P → Bool) (eq : (x : P) → same x x ≡ true) (steps : List Step) where
  sound_for : (last : ℕ) (ends : IsBefore net net.stop last) → Sound net ok same eq last ends (world net same steps opening)
  sound_for last ends = world_sound net ok same eq last ends steps opening (sound_opening net ok same eq last ends)

  pub all_fine : AllFine (answers net same steps opening)
  all_fine = let l = before net ok net.stop in world_fine net ok same eq l.0 l.1 steps opening (sound_opening net ok same eq l.0 l.1)

  module _ (p r : ℕ) where
    pub all_valid : IsKnowledge net p ((world net same steps opening).replica p r).knowledge
    all_valid last ends c ch = ((sound_for last ends).fair p r).valid c

    pub all_within : IsWithin net p ((world net same steps opening).replica p r).knowledge ((world net same steps opening).replica p r).ran
    all_within = let l = before net ok net.stop in ((sound_for l.0 l.1).fair p r).within
