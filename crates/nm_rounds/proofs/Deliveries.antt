-- A frame reaches a replica of its receiver.
use Rattle.std.proofs.Common.{◌≡◌, ℕ, zero, suc, ◌+◌, ◌*◌, ◌<◌, ltb, Bool, true, false, cond, List, [], ◌∷◌, length, map, slice_get, slice_set, slice_index_or, get_or, Some, None, Ok, Err, refl, sym, ◌∙◌, ap, ap₂, subst, arith}
use Rattle.std.proofs.lemmas.List.{length-set, set-get_or}
use Rattle.std.proofs.lemmas.Option.{slice_get_past, slice_get_read}
use Rattle.std.proofs.lemmas.Bool.Decides.{nat_tests}
use Rattle.std.specs.Option.{option_map}
use Rattle.nm_topology.specs.TopologyValue.{TopologyValue}
use Rattle.nm_topology.specs.Topology.{channel_from, receiving_iface}
use Rattle.nm_knowledge.specs.Answers.{answer, reason}
use Rattle.nm_knowledge.specs.Octets.{same_octets}
use Rattle.nm_knowledge.specs.declared.answer.Accepted.{Accepted}
use Rattle.nm_knowledge.specs.declared.answer.KnowFault.{KnowFault}
use Rattle.nm_knowledge.specs.declared.answer.KnowFault.TheVariants as fault
use Rattle.nm_model.specs.Knowledge.{Know, nothing_known}
use Rattle.nm_model.specs.Lists.{nth, set_at}
use Rattle.nm_model.specs.Partition.{comes_in, receiver_of}
use Rattle.nm_model.specs.World as model
use Rattle.nm_sim.specs.Network.{net_of}
use Rattle.nm_book.specs.Book.{BookValue, is_incoming, is_replica, knowledge_of, message_channel, only_if}
use Rattle.nm_book.specs.Accepting.{IsNotLearned, LearnsIf, Learns, Takes, message_taken}
use Rattle.nm_book.specs.declared.message.ChannelMessage.{ChannelMessage}
use Rattle.nm_book.specs.declared.message.ChannelMessage.TheVariants.{Data as DataMessage, Null as NullMessage}
use Rattle.nm_book.specs.declared.fault.AcceptFault.TheVariants.{Known, Stranger}
use Rattle.nm_book.proofs.Tellings.{known_here, known_set, set_elsewhere}
use Rattle.nm_rounds.specs.World.{IsReplicaOf, IsWorld, Steps, frame_of, happens, refusal_of}
use Rattle.nm_rounds.specs.declared.step.StepAnswer.TheVariants as told
use Rattle.nm_rounds.specs.declared.step.WorldStep.TheVariants as step
use Rattle.nm_rounds.specs.declared.world.Stop.TheVariants as stop
use Rattle.nm_rounds.proofs.Refusals.{refused_keeps, said_of, taken_is}
use Rattle.nm_rounds.proofs.Standing.{is_absent, is_replica_is, is_there}
use Rattle.nm_rounds.proofs.Acts.{unchanged_at, book_read, step_done, step_names_nothing, with_book}

pub past_the_bag : {X : Type 0} (l : List X) (i : ℕ) → ltb i (length l) ≡ false → slice_get l i ≡ None
past_the_bag l i e = slice_get_past l i (grind (arith, nat_tests, e))

in_bag : {X : Type 0} (l : List X) (i : ℕ) (x : X) → ltb i (length l) ≡ true → x ≡ get_or l i x → slice_get l i ≡ Some x
in_bag l i x e f = slice_get_read l (length l) i x refl (grind (arith, nat_tests, e)) f

-- a frame of the bag
nth_map : {X Y : Type 0} (f : X → Y) (l : List X) (i : ℕ) → nth (map f l) i ≡ option_map f (slice_get l i)
nth_map f [] i = refl
nth_map f (x ∷ l) zero = refl
nth_map f (x ∷ l) (suc i) = nth_map f l i

-- the delivery in the model's world
abbrev pub told_world : TopologyValue → model.World (List ℕ) → ℕ → ℕ → ChannelMessage → model.World (List ℕ) × model.Outcome
told_world t w p r m = model.told w p r (receiving_iface t (message_channel m)) (said_of ((w.replica p r).knowledge (receiving_iface t (message_channel m))) m)

module _ (t : TopologyValue) (books : List BookValue) (bag : List ChannelMessage) (w : model.World (List ℕ)) (stands : IsWorld t books bag w) (i r : ℕ) where
  -- there is no such frame
  pub no_frame : slice_get bag i ≡ None → Steps t w (step.Deliver i r) (Err stop.NoSuch) books bag
  no_frame e =
      step_names_nothing t w (step.Deliver i r) books bag
      (ap (model.delivers (net_of t) same_octets w r) (ap (λ l. nth l i) (sym stands.sent.frames) ∙ nth_map (frame_of t) bag i ∙ ap (option_map (frame_of t)) e)) stands

  -- message m is the frame, and this the partition that its channel goes to
  module _ (m : ChannelMessage) (within : true ≡ ltb i (length bag)) (is_frame : m ≡ get_or bag i m) (channel partition : ℕ) (named : channel ≡ message_channel m)
      (receives : partition ≡ receiver_of (net_of t) (receiving_iface t channel)) where
    abbrev p : ℕ
    p = receiver_of (net_of t) (receiving_iface t (message_channel m))

    to_there : partition ≡ p
    to_there = receives ∙ ap (λ z. receiver_of (net_of t) (receiving_iface t z)) named

    here : slice_get bag i ≡ Some m
    here = in_bag bag i m (sym within) is_frame

    frame : nth w.bag i ≡ Some (frame_of t m)
    frame = ap (λ l. nth l i) (sym stands.sent.frames) ∙ nth_map (frame_of t) bag i ∙ ap (option_map (frame_of t)) here

    delivers_is : (m : ChannelMessage) (v : Bool) → model.is_replica (net_of t) (receiver_of (net_of t) (receiving_iface t (message_channel m))) r ≡ v
        → model.delivers (net_of t) same_octets w r (Some (frame_of t m)) ≡ cond v (told_world t w (receiver_of (net_of t) (receiving_iface t (message_channel m))) r m) (w, model.NoSuch)
    delivers_is (DataMessage d) v e = ap (λ z. cond z (told_world t w (receiver_of (net_of t) (receiving_iface t d.channel)) r (DataMessage d)) (w, model.NoSuch)) e
    delivers_is (NullMessage n) v e = ap (λ z. cond z (told_world t w (receiver_of (net_of t) (receiving_iface t n.channel)) r (NullMessage n)) (w, model.NoSuch)) e

    deliver_is : (v : Bool) → is_replica t p r ≡ v → happens t w (step.Deliver i r) ≡ cond v (told_world t w p r m) (w, model.NoSuch)
    deliver_is v e = ap (model.delivers (net_of t) same_octets w r) frame ∙ delivers_is m v (sym (is_replica_is t p r) ∙ e)

    -- its receiver has no such replica
    pub no_receiver : only_if (is_replica t partition r) (2 * partition + r) ≡ None → Steps t w (step.Deliver i r) (Err stop.NoSuch) books bag
    no_receiver e = step_names_nothing t w (step.Deliver i r) books bag (deliver_is false (ap (λ z. is_replica t z r) (sym to_there) ∙ is_absent _ _ e)) stands

    -- it has one, who stands at this place and is told the message
    module _ (place : ℕ) (found : only_if (is_replica t partition r) (2 * partition + r) ≡ Some place) (b c : BookValue) (read : b ≡ get_or books place b)
        (comes_there : (d : ℕ) → d < length t.receivers → comes_in (net_of t) (receiver_of (net_of t) (receiving_iface t d)) (receiving_iface t d) ≡ true)
        (numbered : (d : ℕ) → d < length t.receivers → channel_from 0 t.receivers (receiving_iface t d) ≡ Some d) where
      there : is_replica t p r ≡ true
      there = ap (λ z. is_replica t z r) (sym to_there) ∙ (is_there _ _ _ found).0

      at : place ≡ 2 * p + r
      at = (is_there _ _ _ found).1 ∙ ap (λ z. 2 * z + r) to_there

      abbrev x : model.Replica (List ℕ)
      x = w.replica p r

      abbrev is : IsReplicaOf t p r b x
      is = book_read t books bag w stands p r there place at b read

      abbrev ch : ℕ
      ch = message_channel m

      abbrev iface : ℕ
      iface = receiving_iface t ch

      is_channel : ch < length t.receivers
      is_channel = stands.sent.named i m here

      number : channel_from 0 t.receivers iface ≡ Some ch
      number = numbered ch is_channel

      incoming : is_incoming b ch ≡ true
      incoming = subst (λ z. comes_in (net_of z) b.partition (receiving_iface z ch) ≡ true) (sym is.topology) (subst (λ z. comes_in (net_of t) z iface ≡ true) (sym is.partition) (comes_there ch is_channel))

      is_known : ch < length b.knows
      is_known = let n = is.count in let h = is_channel in omega (arith, n, h)

      -- what the world's replica knows of the channel
      knows_it : x.knowledge iface ≡ slice_index_or b.knows ch nothing_known
      knows_it = ap (λ z. z.knowledge iface) (sym is.replica) ∙ ap (λ z. knowledge_of z b.knows iface) is.topology ∙ known_here t b.knows ch number

      -- the book that learned
      learned : (after : Know (List ℕ)) → c ≡ record b { knows = slice_set b.knows ch after } → IsReplicaOf t p r c (record { knowledge = set_at x.knowledge iface after; ran = x.ran })
      learned after e = subst (λ z. IsReplicaOf t p r z (record { knowledge = set_at x.knowledge iface after; ran = x.ran })) (sym e) (record {
        topology = is.topology;
        partition = is.partition;
        number = is.number;
        replica =
            ap₂ (λ K k. record { knowledge = K; ran = k })
            (ap (λ z. knowledge_of z (slice_set b.knows ch after)) is.topology ∙ known_set t b.knows ch number after is_known
            ∙ ap (λ K. set_at K iface after) (ap (λ z. knowledge_of z b.knows) (sym is.topology) ∙ ap (λ z. z.knowledge) is.replica))
            (ap (λ z. z.ran) is.replica);
        handed = is.handed;
        count = length-set b.knows ch after ∙ is.count;
        quiet = λ d out. set_elsewhere b.knows ch d after (λ same. absurd (let f : true ≡ false = sym incoming ∙ ap (is_incoming b) same ∙ out in cc)) ∙ is.quiet d out;
      })

      taken : message_taken b.knows m ≡ said_of (x.knowledge iface) m
      taken = taken_is b.knows m ∙ ap (λ a. said_of a m) (sym knows_it)

      -- it took it in
      pub accepted : (a : Accepted) → Takes b c ch (message_taken b.knows m) (Ok a) → Steps t w (step.Deliver i r) (Ok (told.Accepted a)) (slice_set books place c) bag
      accepted a h =
          let learns : Learns b.knows c.knows ch (message_taken b.knows m) (Ok a) = subst (λ z. LearnsIf z b.knows c.knows ch (message_taken b.knows m) (Ok a)) incoming h.learns in
          let says : option_map model.Answered (answer (Ok a)) ≡ Some (model.Answered (said_of (x.knowledge iface) m).answer) =
          ap (option_map model.Answered) (sym learns.0 ∙ ap (λ z. Some z.answer) taken) in
          step_done t w (step.Deliver i r) (slice_set books place c) bag
          (model.put_replica w p r (record { knowledge = set_at x.knowledge iface (said_of (x.knowledge iface) m).after; ran = x.ran }))
          (model.Answered (said_of (x.knowledge iface) m).answer) (told.Accepted a) (deliver_is true there) says
          (with_book t books bag w stands p r there place at b c read _
          (learned (said_of (x.knowledge iface) m).after (h.same ∙ ap (λ z. record b { knows = z }) (learns.1 ∙ ap (λ z. slice_set b.knows ch z.after) taken))))

      -- it comes in here
      pub no_stranger : Takes b c ch (message_taken b.knows m) (Err Stranger) → ⊥
      no_stranger h = not_here (subst (λ z. LearnsIf z b.knows c.knows ch (message_taken b.knows m) (Err Stranger)) incoming h.learns)
        where
          not_here : Learns b.knows c.knows ch (message_taken b.knows m) (Err Stranger) → ⊥
          not_here (f, is, why, same) = absurd (let e : Stranger ≡ Known f = is in cc)

      -- it refused it, for another reason
      pub refused : (f : KnowFault) → Takes b c ch (message_taken b.knows m) (Err (Known f)) → Steps t w (step.Deliver i r) (refusal_of f) (slice_set books place c) bag
      refused f h = by_fault f (subst (λ z. LearnsIf z b.knows c.knows ch (message_taken b.knows m) (Err (Known f))) incoming h.learns)
        where
          for_reason : (f : KnowFault) → Some (message_taken b.knows m).answer ≡ reason f → c.knows ≡ b.knows → Steps t w (step.Deliver i r) (Ok (told.Refused f)) (slice_set books place c) bag
          for_reason f why same =
              let shown : Some (said_of (x.knowledge iface) m).answer ≡ reason f = ap (λ z. Some z.answer) (sym taken) ∙ why in
              let keeps : (said_of (x.knowledge iface) m).after ≡ slice_index_or b.knows ch nothing_known = refused_keeps m (x.knowledge iface) f shown ∙ knows_it in
              step_done t w (step.Deliver i r) (slice_set books place c) bag
              (model.put_replica w p r (record { knowledge = set_at x.knowledge iface (said_of (x.knowledge iface) m).after; ran = x.ran }))
              (model.Answered (said_of (x.knowledge iface) m).answer) (told.Refused f) (deliver_is true there) (ap (option_map model.Answered) (sym shown))
              (with_book t books bag w stands p r there place at b c read _
              (learned (said_of (x.knowledge iface) m).after (h.same ∙ ap (λ z. record b { knows = z }) (same ∙ sym (set-get_or b.knows ch nothing_known) ∙ ap (slice_set b.knows ch) (sym keeps)))))

          by_why : (f : KnowFault) → IsNotLearned (message_taken b.knows m) f → c.knows ≡ b.knows → Steps t w (step.Deliver i r) (refusal_of f) (slice_set books place c) bag
          by_why fault.Memory why same = unchanged_at t books bag w stands p r there place at b c read (h.same ∙ ap (λ z. record b { knows = z }) same)
          by_why (fault.Gap n) why same = for_reason (fault.Gap n) why same
          by_why (fault.Differs n) why same = for_reason (fault.Differs n) why same
          by_why (fault.Late n) why same = for_reason (fault.Late n) why same
          by_why fault.NotRising why same = for_reason fault.NotRising why same
          by_why (fault.Contrary n) why same = for_reason (fault.Contrary n) why same

          by_fault : (f : KnowFault) → Learns b.knows c.knows ch (message_taken b.knows m) (Err (Known f)) → Steps t w (step.Deliver i r) (refusal_of f) (slice_set books place c) bag
          by_fault f (known, is, why, same) = let e : known ≡ f = cc in by_why f (subst (IsNotLearned (message_taken b.knows m)) e why) same
