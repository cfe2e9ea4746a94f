-- A book is told messages of a channel, one after another.
use Rattle.std.proofs.Common.{◌≡◌, ◌++◌, ℕ, zero, suc, ◌<◌, true, List, [], ◌∷◌, length, take, slice_get, slice_set, slice_index_or, Some, None, IfOk, OnOk, Result, Ok, Err, refl, sym, ◌∙◌, ap, ap₂, subst}
use Rattle.nm_knowledge.specs.Answers.{reason}
use Rattle.nm_knowledge.specs.declared.answer.Accepted.{Accepted}
use Rattle.nm_knowledge.specs.declared.answer.KnowFault.{KnowFault}
use Rattle.nm_knowledge.specs.declared.answer.KnowFault.TheVariants as fault
use Rattle.nm_model.specs.Knowledge.{Know, nothing_known}
use Rattle.nm_book.specs.Book.{BookValue, is_incoming, message_channel}
use Rattle.nm_book.specs.Accepting.{IsNotLearned, Learns, LearnsIf, Takes, message_taken}
use Rattle.nm_book.specs.declared.message.ChannelMessage.{ChannelMessage}
use Rattle.nm_book.specs.declared.message.ChannelMessage.TheVariants.{Data as DataMessage, Null as NullMessage}
use Rattle.nm_book.specs.declared.fault.AcceptFault.TheVariants.{Known, Stranger}
use Rattle.nm_book.proofs.Tellings.{set_here, set_same}
use Rattle.nm_rounds.specs.Rounds.{AreOfChannel, told_all, told_message}
use Rattle.nm_rounds.proofs.Refusals.{refused_keeps, said_of, taken_is}

-- what is known of the channel then
told_is : (a : Know (List ℕ)) (m : ChannelMessage) → (said_of a m).after ≡ told_message a m
told_is a (DataMessage d) = refl
told_is a (NullMessage n) = refl

after_is : (knows : List (Know (List ℕ))) (m : ChannelMessage) → (message_taken knows m).after ≡ told_message (slice_index_or knows (message_channel m) nothing_known) m
after_is knows m = ap (λ z. z.after) (taken_is knows m) ∙ told_is (slice_index_or knows (message_channel m) nothing_known) m

stays : (knows : List (Know (List ℕ))) (m : ChannelMessage) (f : KnowFault) → Some (message_taken knows m).answer ≡ reason f → told_message (slice_index_or knows (message_channel m) nothing_known) m ≡ slice_index_or knows (message_channel m) nothing_known
stays knows m f e =
    let a = slice_index_or knows (message_channel m) nothing_known in
    sym (told_is a m) ∙ refused_keeps m a f (ap (λ z. Some z.answer) (sym (taken_is knows m)) ∙ e)

-- A book is told a message of a channel that comes in.
module _ (b c : BookValue) (m : ChannelMessage) (comes : is_incoming b (message_channel m) ≡ true) where
  abbrev ch : ℕ
  ch = message_channel m

  abbrev known : Know (List ℕ)
  known = slice_index_or b.knows ch nothing_known

  -- it took it in
  pub took : (a : Accepted) → Takes b c ch (message_taken b.knows m) (Ok a) → c ≡ record b { knows = slice_set b.knows ch (told_message known m) }
  took a h =
      let learns : Learns b.knows c.knows ch (message_taken b.knows m) (Ok a) = subst (λ z. LearnsIf z b.knows c.knows ch (message_taken b.knows m) (Ok a)) comes h.learns in
      h.same ∙ ap (λ z. record b { knows = z }) (learns.1 ∙ ap (slice_set b.knows ch) (after_is b.knows m))

  pub no_stranger : Takes b c ch (message_taken b.knows m) (Err Stranger) → ⊥
  no_stranger h = not_here (subst (λ z. LearnsIf z b.knows c.knows ch (message_taken b.knows m) (Err Stranger)) comes h.learns)
    where
      not_here : Learns b.knows c.knows ch (message_taken b.knows m) (Err Stranger) → ⊥
      not_here (f, is, why, same) = absurd (let e : Stranger ≡ Known f = is in cc)

  -- it refused it
  pub refused : (f : KnowFault) → (f ≡ fault.Memory → ⊥) → Takes b c ch (message_taken b.knows m) (Err (Known f)) → c ≡ record b { knows = slice_set b.knows ch (told_message known m) }
  refused f other h = by_fault f other (subst (λ z. LearnsIf z b.knows c.knows ch (message_taken b.knows m) (Err (Known f))) comes h.learns)
    where
      for_reason : (f : KnowFault) → Some (message_taken b.knows m).answer ≡ reason f → c.knows ≡ b.knows → c ≡ record b { knows = slice_set b.knows ch (told_message known m) }
      for_reason f why same =
          h.same ∙ ap (λ z. record b { knows = z }) (same ∙ sym (set_same b.knows ch) ∙ ap (slice_set b.knows ch) (sym (stays b.knows m f why)))

      by_why : (f : KnowFault) → (f ≡ fault.Memory → ⊥) → IsNotLearned (message_taken b.knows m) f → c.knows ≡ b.knows → c ≡ record b { knows = slice_set b.knows ch (told_message known m) }
      by_why (fault.Gap n) other why same = for_reason (fault.Gap n) why same
      by_why (fault.Differs n) other why same = for_reason (fault.Differs n) why same
      by_why (fault.Late n) other why same = for_reason (fault.Late n) why same
      by_why fault.NotRising other why same = for_reason fault.NotRising why same
      by_why fault.Memory other why same = absurd (other refl)
      by_why (fault.Contrary n) other why same = for_reason (fault.Contrary n) why same

      by_fault : (f : KnowFault) → (f ≡ fault.Memory → ⊥) → Learns b.knows c.knows ch (message_taken b.knows m) (Err (Known f)) → c ≡ record b { knows = slice_set b.knows ch (told_message known m) }
      by_fault f other (why_not, is, why, same) = let e : why_not ≡ f = cc in by_why f other (subst (IsNotLearned (message_taken b.knows m)) e why) same

-- one message more
pub told_more : (a : Know (List ℕ)) (ms : List ChannelMessage) (i : ℕ) (m : ChannelMessage) → slice_get ms i ≡ Some m → told_all a (take (suc i) ms) ≡ told_message (told_all a (take i ms)) m
told_more a [] i m e = absurd (let g : None ≡ Some m = e in cc)
told_more a (x ∷ ms) zero m e = let g : x ≡ m = cc in ap (told_message a) g
told_more a (x ∷ ms) (suc i) m e = told_more (told_message a x) ms i m e

pub told_append : (a : Know (List ℕ)) (ms : List ChannelMessage) (m : ChannelMessage) → told_all a (ms ++ m ∷ []) ≡ told_message (told_all a ms) m
told_append a [] m = refl
told_append a (x ∷ ms) m = told_append (told_message a x) ms m

-- what is set twice
set_twice : (l : List (Know (List ℕ))) (c : ℕ) (a b : Know (List ℕ)) → slice_set (slice_set l c a) c b ≡ slice_set l c b
set_twice [] c a b = refl
set_twice (x ∷ l) zero a b = refl
set_twice (x ∷ l) (suc c) a b = ap (λ z. x ∷ z) (set_twice l c a b)

-- The book b, once it was told the first i messages of channel c.
module _ (b : BookValue) (messages : List ChannelMessage) (c : ℕ) where
  abbrev pub with_told : ℕ → BookValue
  with_told i = record b { knows = slice_set b.knows c (told_all (slice_index_or b.knows c nothing_known) (take i messages)) }

  pub told_next : (now new : BookValue) (i : ℕ) (m : ChannelMessage) → now ≡ with_told i → is_incoming b c ≡ true → c < length b.knows → AreOfChannel c messages → slice_get messages i ≡ Some m
      → (is_incoming now (message_channel m) ≡ true → new ≡ record now { knows = slice_set now.knows (message_channel m) (told_message (slice_index_or now.knows (message_channel m) nothing_known) m) })
      → new ≡ with_told (suc i)
  told_next now new i m is comes within of_c here tells =
      let same : message_channel m ≡ c = of_c i m here in
      let a : Know (List ℕ) = told_all (slice_index_or b.knows c nothing_known) (take i messages) in
      let still : is_incoming now (message_channel m) ≡ true = ap₂ is_incoming is same ∙ comes in
      tells still ∙ ap₂ (λ (z : BookValue) (k : ℕ). record z { knows = slice_set z.knows k (told_message (slice_index_or z.knows k nothing_known) m) }) is same
      ∙ ap (λ z. record b { knows = z })
      (set_twice b.knows c a (told_message (slice_index_or (slice_set b.knows c a) c nothing_known) m)
      ∙ ap (λ z. slice_set b.knows c (told_message z m)) (set_here b.knows c a within)
      ∙ ap (slice_set b.knows c) (sym (told_more (slice_index_or b.knows c nothing_known) messages i m here)))

-- a weaker fact of what went well
pub where_ok : {X E : Type 0} (r : Result X E) (P Q : Type 0) → (P → Q) → OnOk r P → OnOk r Q
where_ok (Ok y) P Q f h = f h
where_ok (Err e) P Q f h = tt

pub if_ok : {X E : Type 0} (r : Result X E) (P Q : X → Type 0) → ((y : X) → P y → Q y) → IfOk r P → IfOk r Q
if_ok (Ok y) P Q f h = f y h
if_ok (Err e) P Q f h = tt
