-- What a replica sends is put behind the frames that were sent before.
use Rattle.std.proofs.Common.{◌≡◌, ℕ, zero, suc, ◌+◌, ◌*◌, ◌-◌, ◌<◌, ◌≤◌, ◌&&◌, leb, Bool, true, false, cond, List, [], ◌∷◌, ◌++◌, length, drop, map, slice_get, get_or, Option, Some, None, Ok, Err, refl, sym, ◌∙◌, ap, ap₂, subst, arith, ⊎_elim, append_assoc, append-nil}
use Rattle.std.proofs.lemmas.Bool.{and_from, and_left, and_parts, and_right}
use Rattle.std.proofs.lemmas.Bool.Decides.{nat_tests}
use Rattle.std.proofs.lemmas.List.{map-append}
use Rattle.std.specs.Option.{option_and_then}
use Rattle.nm_topology.specs.TopologyValue.{TopologyValue}
use Rattle.nm_topology.specs.Topology.{receiving_iface}
use Rattle.nm_model.specs.Lists.{nth}
use Rattle.nm_model.specs.Partition.{goes_out}
use Rattle.nm_model.specs.Promise.{Promising, Plain, Tight, promise as promise_of}
use Rattle.nm_model.specs.World as model
use Rattle.nm_sim.specs.Network.{net_of}
use Rattle.nm_book.specs.Book.{BookValue, data_from, is_outgoing, is_replica, message_channel, null_on, only_if, promise_on, sent_over}
use Rattle.nm_book.specs.declared.message.ChannelMessage.{ChannelMessage}
use Rattle.nm_book.specs.declared.message.ChannelMessage.TheVariants.{Data as DataMessage, Null as NullMessage}
use Rattle.nm_book.specs.declared.message.Data.{Data}
use Rattle.nm_book.specs.declared.message.Null.{Null}
use Rattle.nm_rounds.specs.World.{AreMessages, IsPushed, IsReplicaOf, IsWorld, Steps, frame_of, happens}
use Rattle.nm_rounds.specs.Acting.{kind_of, null_step}
use Rattle.nm_rounds.specs.declared.acting.Promise.{Promise}
use Rattle.nm_rounds.specs.declared.acting.Promise.TheVariants as made
use Rattle.nm_rounds.specs.declared.step.StepAnswer.TheVariants as answer
use Rattle.nm_rounds.specs.declared.step.WorldStep.TheVariants as step
use Rattle.nm_rounds.specs.declared.world.Stop.TheVariants as stop
use Rattle.nm_rounds.proofs.Standing.{get_append, is_absent, is_replica_is, is_there, only_one, put_frames}
use Rattle.nm_rounds.proofs.Acts.{book_read, moved, step_done, step_names_nothing}

-- the end of a channel at which a replica sends
abbrev pub sends_on : TopologyValue → ℕ → ℕ → ℕ → Bool
sends_on t p r c = is_replica t p r && goes_out (net_of t) p (receiving_iface t c)

-- the same for the model
model_sends : (t : TopologyValue) (p r c : ℕ) (v : Bool) → sends_on t p r c ≡ v → (model.is_replica (net_of t) p r && goes_out (net_of t) p (receiving_iface t c)) ≡ v
model_sends t p r c v e = ap (λ z. z && goes_out (net_of t) p (receiving_iface t c)) (sym (is_replica_is t p r)) ∙ e

-- a message that was sent
pub was_sent : (out : Bool) (sent : List (ℕ × List ℕ)) (c n : ℕ) (d : Data) → option_and_then (λ l. data_from c n (nth l n)) (only_if out sent) ≡ Some d
    → (out ≡ true) × (nth sent n ≡ Some (d.time, d.packet)) × (d.channel ≡ c) × (d.number ≡ n)
was_sent true sent c n d e = go (nth sent n) refl e
  where
    go : (o : Option (ℕ × List ℕ)) → nth sent n ≡ o → data_from c n o ≡ Some d → (true ≡ true) × (nth sent n ≡ Some (d.time, d.packet)) × (d.channel ≡ c) × (d.number ≡ n)
    go None f g = absurd cc
    go (Some m) f g = let is : record { channel = c; number = n; time = m.0; packet = m.1 } ≡ d = cc in
        (refl, f ∙ ap (λ (z : Data). Some (z.time, z.packet)) is, ap (λ (z : Data). z.channel) (sym is), ap (λ (z : Data). z.number) (sym is))
was_sent false sent c n d e = absurd cc

was_not_sent : (sent : List (ℕ × List ℕ)) (c n : ℕ) (out : Bool) → out ≡ true → None ≡ option_and_then (λ l. data_from c n (nth l n)) (only_if out sent) → nth sent n ≡ None
was_not_sent sent c n true h e = go (nth sent n) refl e
  where
    go : (o : Option (ℕ × List ℕ)) → nth sent n ≡ o → None ≡ data_from c n o → nth sent n ≡ None
    go None f g = f
    go (Some m) f g = absurd cc
was_not_sent sent c n false h e = absurd (let f : false ≡ true = h in cc)

module _ (t : TopologyValue) (books : List BookValue) (bag : List ChannelMessage) (w : model.World (List ℕ)) (stands : IsWorld t books bag w) (p r c : ℕ) where
  abbrev i : ℕ
  i = receiving_iface t c

  abbrev x : model.Replica (List ℕ)
  x = w.replica p r

  abbrev lines : List (ℕ × List ℕ)
  lines = model.outgoing (net_of t) p x i

  -- the frame of a null message of this kind is sent
  abbrev null_goes : Promising → model.World (List ℕ) × model.Outcome
  null_goes kind = (model.put_frames w (model.NullFrame i (length lines) (promise_of (net_of t) kind p x.knowledge x.ran i) ∷ []), model.Frames 1)

  null_happens : (promise : Promise) (v : Bool) → sends_on t p r c ≡ v → happens t w (null_step promise p r c) ≡ cond v (null_goes (kind_of promise)) (w, model.NoSuch)
  null_happens made.Tight v e = ap (λ z. cond z (null_goes Tight) (w, model.NoSuch)) (model_sends t p r c v e)
  null_happens made.Plain v e = ap (λ z. cond z (null_goes Plain) (w, model.NoSuch)) (model_sends t p r c v e)

  -- all messages from number n on are
  abbrev resent : ℕ → model.World (List ℕ) × model.Outcome
  resent n = (model.put_frames w (model.data_frames i n (drop n lines)), model.Frames (length lines - n))

  -- the channel does not go out from such a replica
  module _ (none : only_if (sends_on t p r c) (2 * p + r) ≡ None) where
    no : sends_on t p r c ≡ false
    no = is_absent _ _ none

    pub nothing_to_send : (n : ℕ) → Steps t w (step.Data p r c n) (Err stop.NoSuch) books bag
    nothing_to_send n = step_names_nothing t w (step.Data p r c n) books bag (ap (λ z. cond z (model.sends w i n (nth lines n)) (w, model.NoSuch)) (model_sends t p r c false no)) stands

    pub nothing_to_resend : (n : ℕ) → Steps t w (step.Resend p r c n) (Err stop.NoSuch) books bag
    nothing_to_resend n = step_names_nothing t w (step.Resend p r c n) books bag (ap (λ z. cond z (resent n) (w, model.NoSuch)) (and_left _ _ (model_sends t p r c false no))) stands

    pub no_null : (promise : Promise) → Steps t w (null_step promise p r c) (Err stop.NoSuch) books bag
    no_null promise = step_names_nothing t w (null_step promise p r c) books bag (null_happens promise false no) stands

  -- it goes out from the replica that stands here
  module _ (place : ℕ) (found : only_if (sends_on t p r c) (2 * p + r) ≡ Some place) (within : c < length t.receivers) (b : BookValue) (read : b ≡ get_or books place b) where
    yes : sends_on t p r c ≡ true
    yes = (is_there _ _ _ found).0

    abbrev is : IsReplicaOf t p r b x
    is = book_read t books bag w stands p r (and_parts _ _ yes).0 place (is_there _ _ _ found).1 b read

    goes : is_outgoing b c ≡ true
    goes = let q = sym is.partition in let s = sym is.topology in
        subst (λ z. goes_out (net_of z) b.partition (receiving_iface z c) ≡ true) s (subst (λ z. goes_out (net_of t) z (receiving_iface t c) ≡ true) q (and_parts _ _ yes).1)

    lines_are : sent_over b c ≡ lines
    lines_are = sym (moved (λ t p x. model.outgoing (net_of t) p x (receiving_iface t c) ≡ sent_over b c) t p r b x is refl)

    -- one message of the channel is of a channel that is there
    one_there : (m : ChannelMessage) → message_channel m ≡ c → (j : ℕ) (x : ChannelMessage) → slice_get (m ∷ []) j ≡ Some x → message_channel x < length t.receivers
    one_there m same j x e = let one = ap message_channel (only_one m x j e) in omega (arith, one, same, within)

    pub data_sent : (n : ℕ) (d : Data) → Some d ≡ option_and_then (λ l. data_from c n (nth l n)) (only_if (is_outgoing b c) (sent_over b c))
        → Steps t w (step.Data p r c n) (Ok (answer.Frames 1)) books (bag ++ DataMessage d ∷ [])
    data_sent n d e =
        let sent = was_sent (is_outgoing b c) (sent_over b c) c n d (sym e) in
        let frame : frame_of t (DataMessage d) ≡ model.DataFrame i n (d.time, d.packet) = ap₂ (λ a z. model.DataFrame (receiving_iface t a) z (d.time, d.packet)) sent.2 sent.3 in
        step_done t w (step.Data p r c n) books (bag ++ DataMessage d ∷ []) (model.put_frames w (model.DataFrame i n (d.time, d.packet) ∷ [])) (model.Frames 1) (answer.Frames 1)
        (ap (λ z. cond z (model.sends w i n (nth lines n)) (w, model.NoSuch)) (model_sends t p r c true yes)
        ∙ ap (model.sends w i n) (ap (λ l. nth l n) (sym lines_are) ∙ sent.1)) refl
        (put_frames t books bag (DataMessage d ∷ []) w (model.DataFrame i n (d.time, d.packet) ∷ []) stands (ap (λ z. z ∷ []) frame) (one_there (DataMessage d) sent.2))

    -- no such message was sent
    pub data_missing : (n : ℕ) → None ≡ option_and_then (λ l. data_from c n (nth l n)) (only_if (is_outgoing b c) (sent_over b c)) → Steps t w (step.Data p r c n) (Err stop.NoSuch) books bag
    data_missing n e =
        step_names_nothing t w (step.Data p r c n) books bag
        (ap (λ z. cond z (model.sends w i n (nth lines n)) (w, model.NoSuch)) (model_sends t p r c true yes)
        ∙ ap (model.sends w i n) (ap (λ l. nth l n) (sym lines_are) ∙ was_not_sent (sent_over b c) c n (is_outgoing b c) goes e)) stands

    -- a null message with its promise
    null_frame : (kind : Promising) → frame_of t (NullMessage (null_on kind b c)) ≡ model.NullFrame i (length lines) (promise_of (net_of t) kind p x.knowledge x.ran i)
    null_frame kind = sym (moved (λ t p x. ◌≡◌ {A = model.Frame (List ℕ)} (model.NullFrame (receiving_iface t c) (length (model.outgoing (net_of t) p x (receiving_iface t c))) (promise_of (net_of t) kind p x.knowledge x.ran (receiving_iface t c)))
        (model.NullFrame (receiving_iface t c) (length (sent_over b c)) (promise_on kind b c))) t p r b x is refl)

    pub null_sent : (promise : Promise) (null : Null) → Some null ≡ only_if (is_outgoing b c) (null_on (kind_of promise) b c) → Steps t w (null_step promise p r c) (Ok (answer.Frames 1)) books (bag ++ NullMessage null ∷ [])
    null_sent promise null e =
        let kind = kind_of promise in
        let one : NullMessage null ≡ NullMessage (null_on kind b c) = ap NullMessage (is_there (is_outgoing b c) (null_on kind b c) null (sym e)).1 in
        step_done t w (null_step promise p r c) books (bag ++ NullMessage null ∷ []) _ (model.Frames 1) (answer.Frames 1) (null_happens promise true yes) refl
        (put_frames t books bag (NullMessage null ∷ []) w _ stands (ap (λ z. z ∷ []) (ap (frame_of t) one ∙ null_frame kind)) (one_there (NullMessage null) (ap message_channel one)))

    -- where the channel goes out there is an answer
    pub no_answer : {X : Type 0} (v : X) → None ≡ only_if (is_outgoing b c) v → ⊥
    no_answer v e = let f : None ≡ only_if true v = e ∙ ap (λ z. only_if z v) goes in absurd (let g : None ≡ Some v = f in cc)

    -- all messages from number n on
    pub again_sent : (n : ℕ) (more : List ChannelMessage) → n ≤ length (sent_over b c) → AreMessages b c n more
        → Steps t w (step.Resend p r c n) (Ok (answer.Frames (length (sent_over b c) - n))) books (bag ++ more)
    again_sent n more le are =
        let few : leb n (length lines) ≡ true = let e = ap length lines_are in grind (arith, nat_tests, le, e) in
        let frames : map (frame_of t) more ≡ model.data_frames i n (drop n lines) =
        ap (λ z. map (frame_of z) more) (sym is.topology) ∙ are.frames ∙ ap (λ z. model.data_frames (receiving_iface z c) n (drop n (sent_over b c))) is.topology ∙ ap (λ z. model.data_frames i n (drop n z)) lines_are in
        step_done t w (step.Resend p r c n) books (bag ++ more) (resent n).0 (model.Frames (length lines - n)) (answer.Frames (length (sent_over b c) - n))
        (ap (λ z. cond z (resent n) (w, model.NoSuch)) (and_from _ _ (model_sends t p r c true yes) few)) (ap (λ z. Some (model.Frames (length z - n))) lines_are)
        (put_frames t books bag more w (model.data_frames i n (drop n lines)) stands frames (λ j m e. let s = are.named j m e in omega (arith, s, within)))

    pub none_so_far : (n : ℕ) → length (sent_over b c) < n → Steps t w (step.Resend p r c n) (Err stop.NoSuch) books bag
    none_so_far n lt =
        let past : leb n (length lines) ≡ false = let e = ap length lines_are in grind (arith, nat_tests, lt, e) in
        step_names_nothing t w (step.Resend p r c n) books bag (ap (λ z. cond z (resent n) (w, model.NoSuch)) (and_right _ _ past)) stands

-- What is gathered of a channel's messages.
module _ (b : BookValue) (c : ℕ) where
  abbrev pub to_come : ℕ → List (model.Frame (List ℕ))
  to_come n = model.data_frames (receiving_iface b.topology c) n (drop n (sent_over b c))

  -- those gathered from number first on, and those to come from number n on
  pub record AreGathered (first n : ℕ) (messages : List ChannelMessage) : Type 0 where
    pub frames : map (frame_of b.topology) messages ++ to_come n ≡ to_come first
    pub named : (i : ℕ) (m : ChannelMessage) → slice_get messages i ≡ Some m → message_channel m ≡ c

  pub gathered_none : (first : ℕ) → AreGathered first first []
  gathered_none first = record { frames = refl; named = λ i m e. absurd (let g : None ≡ Some m = e in cc) }

  next_frame : (i n : ℕ) (l : List (ℕ × List ℕ)) (m : ℕ × List ℕ) → nth l n ≡ Some m → (k : ℕ) → model.data_frames i k (drop n l) ≡ model.DataFrame i k m ∷ model.data_frames i (suc k) (drop (suc n) l)
  next_frame i n [] m e k = absurd (let g : None ≡ Some m = e in cc)
  next_frame i zero (y ∷ l) m e k = let g : y ≡ m = cc in ap (λ z. model.DataFrame i k z ∷ model.data_frames i (suc k) l) g
  next_frame i (suc n) (y ∷ l) m e k = next_frame i n l m e k

  pub gathered_more : (first n : ℕ) (before after : List ChannelMessage) → AreGathered first n before → IsPushed b c n before after → AreGathered first (suc n) after
  gathered_more first n before after are p =
      let one : frame_of b.topology (DataMessage p.message) ≡ model.DataFrame (receiving_iface b.topology c) n (p.message.time, p.message.packet) =
      ap₂ (λ a z. model.DataFrame (receiving_iface b.topology a) z (p.message.time, p.message.packet)) p.channel p.number in
      record {
        frames =
            ap (λ z. map (frame_of b.topology) z ++ to_come (suc n)) p.pushed ∙ ap (λ z. z ++ to_come (suc n)) (map-append (frame_of b.topology) before (DataMessage p.message ∷ []))
            ∙ append_assoc (map (frame_of b.topology) before) (frame_of b.topology (DataMessage p.message) ∷ []) (to_come (suc n))
            ∙ ap (λ z. map (frame_of b.topology) before ++ z ∷ to_come (suc n)) one
            ∙ ap (λ z. map (frame_of b.topology) before ++ z) (sym (next_frame (receiving_iface b.topology c) n (sent_over b c) (p.message.time, p.message.packet) p.sent n)) ∙ are.frames;
        named = λ i m e. ⊎_elim (λ f. are.named i m f) (λ f. ap message_channel (sym (only_one (DataMessage p.message) m f.0 f.1)) ∙ p.channel) (get_append before (DataMessage p.message ∷ []) i m (ap (λ z. slice_get z i) (sym p.pushed) ∙ e));
      }

  pub gathered_all : (first n : ℕ) (messages : List ChannelMessage) → AreGathered first n messages → length (sent_over b c) ≤ n → AreMessages b c first messages
  gathered_all first n messages are le = record {
    frames = sym (append-nil (map (frame_of b.topology) messages)) ∙ ap (λ z. map (frame_of b.topology) messages ++ z) (sym (none_left n (sent_over b c) le n)) ∙ are.frames;
    named = are.named;
  }
    where
      none_left : (n : ℕ) (l : List (ℕ × List ℕ)) → length l ≤ n → (k : ℕ) → model.data_frames (receiving_iface b.topology c) k (drop n l) ≡ []
      none_left zero [] h k = refl
      none_left (suc n) [] h k = refl
      none_left zero (y ∷ l) h k = absurd (omega (arith, h))
      none_left (suc n) (y ∷ l) h k = none_left n l (omega (arith, h)) k
