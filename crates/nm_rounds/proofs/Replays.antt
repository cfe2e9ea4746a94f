-- Steps done one after another, and what is reported of them.
use Rattle.std.proofs.Common.{◌≡◌, ◌⊎◌, inl, inr, ℕ, zero, suc, ◌+◌, ◌*◌, ◌<◌, List, [], ◌∷◌, ◌++◌, length, map, take, slice_get, replicate, get_or, Some, None, Ok, Err, refl, sym, ◌∙◌, ap, ap₂, subst, arith, length-append}
use Rattle.std.proofs.lemmas.List.{map-append}
use Rattle.std.proofs.lemmas.Option.{slice_get_read}
use Rattle.nm_topology.specs.TopologyValue.{TopologyValue}
use Rattle.nm_knowledge.specs.Octets.{same_octets}
use Rattle.nm_model.specs.Knowledge.{nothing_known}
use Rattle.nm_model.specs.World as model
use Rattle.nm_sim.specs.Network.{net_of}
use Rattle.nm_book.specs.Book.{BookValue}
use Rattle.nm_book.specs.declared.message.ChannelMessage.{ChannelMessage}
use Rattle.nm_rounds.specs.Acting.{DoesStep}
use Rattle.nm_rounds.specs.World.{AreFirst, AreReplicas, IsReplicaOf, IsWorld, Steps, happens, outcome_of, step_of}
use Rattle.nm_rounds.specs.Replay.{IsInterrupted, IsReplay, NamesNothing, answers_of, first_steps, world_after}
use Rattle.nm_rounds.specs.declared.replay.ReplayEnd.TheVariants as ending
use Rattle.nm_rounds.specs.declared.step.StepAnswer.{StepAnswer}
use Rattle.nm_rounds.specs.declared.step.WorldStep.{WorldStep}
use Rattle.nm_rounds.specs.declared.step.WorldStep.TheVariants as step
use Rattle.nm_rounds.specs.declared.world.Stop.{Stop}
use Rattle.nm_rounds.specs.declared.world.Stop.TheVariants as stop
use Rattle.nm_rounds.proofs.Mergings.{fresh_book}
use Rattle.nm_rounds.proofs.Standing.{last_is, places_apart}

take_next : {X : Type 0} (l : List X) (n : ℕ) (x : X) → slice_get l n ≡ Some x → take (suc n) l ≡ take n l ++ x ∷ []
take_next [] n x e = absurd (let g : None ≡ Some x = e in cc)
take_next (y ∷ l) zero x e = let g : y ≡ x = cc in ap (λ z. z ∷ []) g
take_next (y ∷ l) (suc n) x e = ap (λ z. y ∷ z) (take_next l n x e)

module _ (t : TopologyValue) where
  world_more : (xs ys : List model.Step) (w : model.World (List ℕ)) → model.world (net_of t) same_octets (xs ++ ys) w ≡ model.world (net_of t) same_octets ys (model.world (net_of t) same_octets xs w)
  world_more [] ys w = refl
  world_more (x ∷ xs) ys w = world_more xs ys (model.happens (net_of t) same_octets w x).0

  answers_more : (xs ys : List model.Step) (w : model.World (List ℕ))
      → model.answers (net_of t) same_octets (xs ++ ys) w ≡ model.answers (net_of t) same_octets xs w ++ model.answers (net_of t) same_octets ys (model.world (net_of t) same_octets xs w)
  answers_more [] ys w = refl
  answers_more (x ∷ xs) ys w = ap (λ z. (model.happens (net_of t) same_octets w x).1 ∷ z) (answers_more xs ys (model.happens (net_of t) same_octets w x).0)

  module _ (steps : List WorldStep) where
    steps_more : (n : ℕ) (s : WorldStep) → slice_get steps n ≡ Some s → first_steps t steps (suc n) ≡ first_steps t steps n ++ step_of t s ∷ []
    steps_more n s e = ap (map (step_of t)) (take_next steps n s e) ∙ map-append (step_of t) (take n steps) (s ∷ [])

    -- so many steps were done
    pub record IsReplaying (n : ℕ) (answers : List StepAnswer) (books : List BookValue) (bag : List ChannelMessage) : Type 0 where
      pub count : length answers ≡ n
      pub stands : IsWorld t books bag (world_after t (first_steps t steps n))
      pub answered : map (outcome_of t) answers ≡ map Some (answers_of t (first_steps t steps n))

    pub begins : (books : List BookValue) → IsWorld t books [] model.opening → IsReplaying 0 [] books []
    begins books stands = record { count = refl; stands = stands; answered = refl }

    answered_so_far : (n : ℕ) (answers : List StepAnswer) (books : List BookValue) (bag : List ChannelMessage) → IsReplaying n answers books bag → map (outcome_of t) answers ≡ map Some (answers_of t (first_steps t steps (length answers)))
    answered_so_far n answers books bag h = subst (λ k. map (outcome_of t) answers ≡ map Some (answers_of t (first_steps t steps k))) (sym h.count) h.answered

    -- all were
    pub ended : (n : ℕ) (answers : List StepAnswer) (books : List BookValue) (bag : List ChannelMessage) → IsReplaying n answers books bag → n ≡ length steps → IsReplay t steps answers books ending.Ended
    ended n answers books bag h all = record {
      did = first_steps t steps (length answers);
      ends = (h.count ∙ all, refl);
      answered = answered_so_far n answers books bag h;
      replicas = subst (λ k. AreReplicas t books (world_after t (first_steps t steps k))) (sym h.count) h.stands.replicas;
    }

    -- the next step, where so many were done
    module _ (n : ℕ) (answers : List StepAnswer) (old new : List BookValue) (bag more : List ChannelMessage) (s : WorldStep) (h : IsReplaying n answers old bag) (low : n < length steps)
        (is : s ≡ get_or steps n s) where
      here : slice_get steps n ≡ Some s
      here = slice_get_read steps (length steps) n s refl low is

      -- it was done
      pub goes_on : (a : StepAnswer) → DoesStep t (old, bag) s (Ok a) (new, more) → IsReplaying (n + 1) (answers ++ a ∷ []) new more
      goes_on a did =
          let now = did (world_after t (first_steps t steps n)) h.stands in
          let did_more = steps_more n s here in
          let next : suc n ≡ n + 1 = omega arith in
          subst (λ k. IsReplaying k (answers ++ a ∷ []) new more) next (record {
            count = let l = length-append answers (a ∷ []) in let c = h.count in omega (arith, l, c);
            stands = subst (IsWorld t new more) (sym (ap (world_after t) did_more ∙ world_more (first_steps t steps n) (step_of t s ∷ []) model.opening)) now.1;
            answered =
                map-append (outcome_of t) answers (a ∷ [])
                ∙ ap₂ (λ k l. k ++ l ∷ []) h.answered now.0
                ∙ sym (map-append Some (answers_of t (first_steps t steps n)) ((happens t (world_after t (first_steps t steps n)) s).1 ∷ []))
                ∙ ap (map Some) (sym (ap (answers_of t) did_more ∙ answers_more (first_steps t steps n) (step_of t s ∷ []) model.opening));
          })

      -- it names what is not there
      pub named_nothing : (why : Stop) → why ≡ stop.NoSuch → DoesStep t (old, bag) s (Err why) (new, more) → IsReplay t steps answers new (ending.NoSuch n)
      named_nothing why same did =
          let now = subst (λ y. Steps t (world_after t (first_steps t steps n)) s (Err y) new more) same (did (world_after t (first_steps t steps n)) h.stands) in
          record {
            did = first_steps t steps n;
            ends = (h.count, refl, subst (NamesNothing t (world_after t (first_steps t steps n))) (sym here) now.0);
            answered = answered_so_far n answers old bag h;
            replicas = now.1.replicas;
          }

      -- memory was refused
      pub was_interrupted : (why : Stop) → why ≡ stop.Memory → DoesStep t (old, bag) s (Err why) (new, more) → IsReplay t steps answers new (ending.Memory n)
      was_interrupted why same did = go s here (subst (λ y. Steps t (world_after t (first_steps t steps n)) s (Err y) new more) same (did (world_after t (first_steps t steps n)) h.stands))
        where
          as_was : (s : WorldStep) → slice_get steps n ≡ Some s → IsInterrupted (Some s) (first_steps t steps n) (first_steps t steps n) → IsWorld t new more (world_after t (first_steps t steps n)) → IsReplay t steps answers new (ending.Memory n)
          as_was s e was stands = record {
            did = first_steps t steps n;
            ends = (h.count, subst (λ o. IsInterrupted o (first_steps t steps n) (first_steps t steps n)) (sym e) was);
            answered = answered_so_far n answers old bag h;
            replicas = stands.replicas;
          }

          go : (s : WorldStep) → slice_get steps n ≡ Some s → Steps t (world_after t (first_steps t steps n)) s (Err stop.Memory) new more → IsReplay t steps answers new (ending.Memory n)
          go (step.Run p r limit) e cut = record {
            did = first_steps t steps n ++ model.Run p r cut.0 ∷ [];
            ends = (h.count, subst (λ o. IsInterrupted o (first_steps t steps n) (first_steps t steps n ++ model.Run p r cut.0 ∷ [])) (sym e) (cut.0, cut.1, refl));
            answered = answered_so_far n answers old bag h;
            replicas = (subst (IsWorld t new more) (sym (world_more (first_steps t steps n) (model.Run p r cut.0 ∷ []) model.opening)) cut.2).replicas;
          }
          go (step.Data p r c m) e stands = as_was (step.Data p r c m) e refl stands
          go (step.Resend p r c m) e stands = as_was (step.Resend p r c m) e refl stands
          go (step.Null p r c) e stands = as_was (step.Null p r c) e refl stands
          go (step.OldNull p r c) e stands = as_was (step.OldNull p r c) e refl stands
          go (step.Deliver i r) e stands = as_was (step.Deliver i r) e refl stands
          go (step.Merge p r) e stands = as_was (step.Merge p r) e refl stands
          go (step.Restart p r) e stands = as_was (step.Restart p r) e refl stands

  -- the replicas at the start, one after another
  pub first_none : AreFirst t 0 []
  first_none = record { count = refl; each = λ p r b h e. absurd (let g : None ≡ Some b = e in cc) }

  pub first_more : (p r : ℕ) (books : List BookValue) (b : BookValue) → r < 2 → AreFirst t (2 * p + r) books
      → b ≡ record { topology = t; partition = p; replica = r; knows = replicate (length t.receivers) nothing_known; events = 0; handed = 0 } → AreFirst t (2 * p + r + 1) (books ++ b ∷ [])
  first_more p r books b two h e = record {
    count = let l = length-append books (b ∷ []) in let c = h.count in omega (arith, l, c);
    each = λ q s d low f. at q s d low f (last_is books b (2 * q + s) d f);
  }
    where
      at : (q s : ℕ) (d : BookValue) → s < 2 → slice_get (books ++ b ∷ []) (2 * q + s) ≡ Some d → (slice_get books (2 * q + s) ≡ Some d) ⊎ ((2 * q + s ≡ length books) × (b ≡ d)) → IsReplicaOf t q s d model.fresh
      at q s d low f (inl g) = h.each q s d low g
      at q s d low f (inr g) =
          let one = places_apart p r q s two low (g.0 ∙ h.count) in
          subst (λ z. IsReplicaOf t z s d model.fresh) (sym one.0) (subst (λ z. IsReplicaOf t p z d model.fresh) (sym one.1) (subst (λ z. IsReplicaOf t p r z model.fresh) g.1 (fresh_book t p r b e)))
