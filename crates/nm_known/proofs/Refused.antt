-- Why a frame is refused: no file of the replica has it there.
use Rattle.std.proofs.Common.{◌≡◌, ◌⊎◌, inl, inr, ◌≢◌, ℕ, ◌≤◌, ◌<◌, ◌==◌, ◌&&◌, Bool, true, false, List, [], ◌∷◌, ◌++◌, length, slice_set, slice_index_or, refl, sym, ◌∙◌, ap, subst, arith, append_assoc}
use Rattle.std.proofs.lemmas.Bool.{true≢false}
use Rattle.std.proofs.lemmas.Bool.Decides.{nat_tests}
use Rattle.nm_base.specs.declared.fault.Fault.{Fault}
use Rattle.nm_base.specs.declared.fault.Fault.TheVariants.{Memory, Refused}
use Rattle.nm_model.specs.Knowledge.{Know, nothing_known}
use Rattle.nm_knowledge.specs.Order.{IsAccepted}
use Rattle.nm_book.proofs.Tellings.{set_here}
use Rattle.nm_book.specs.Accepting.{data_taken, null_taken}
use Rattle.nm_book.specs.Book.{BookValue, is_incoming}
use Rattle.nm_book.specs.declared.message.ChannelMessage.TheVariants.{Data as DataMessage, Null as NullMessage}
use Rattle.nm_book.specs.declared.message.Data.{Data as DataFields}
use Rattle.nm_book.specs.declared.message.Null.{Null as NullFields}
use Rattle.nm_frames.specs.declared.frame.Frame.{Frame}
use Rattle.nm_frames.specs.declared.frame.Frame.TheVariants.{Hello, Have, Data, Null, Bye}
use Rattle.nm_frames.specs.declared.frame.Have.{Have as HaveFields}
use Rattle.nm_frames.specs.declared.frame.Hello.{Hello as HelloFields}
use Rattle.nm_known.specs.Known.{IsOfReplica, channel_known, known_frames, replica_hello}
use Rattle.nm_known.specs.Reading.{BeginsOther, Explains, HasHeard, IsAmid, IsNoFront, Learned, Refuses, RefusesHello}
use Rattle.nm_known.specs.declared.known_fault.KnownCause.{KnownCause}
use Rattle.nm_known.specs.declared.known_fault.KnownCause.TheVariants.{Topology, Form, Failed}
use Rattle.nm_known.specs.declared.taking.Expected.TheVariants.{Hello as ExpectsHello, Channel as ExpectsChannel, End as ExpectsEnd}
use Rattle.nm_known.proofs.Going.{begins_with, data_next, know_there, next_accepted, no_bye, no_have, no_hello, none_heads, null_next, null_taken_so}

all_three : (x y z : Bool) → x ≡ true → y ≡ true → z ≡ true → (x && y && z) ≡ true
all_three true true true p q r = refl
all_three true true false p q r = absurd (true≢false (sym r))
all_three true false z p q r = absurd (true≢false (sym q))
all_three false y z p q r = absurd (true≢false (sym p))

module _ (b : BookValue) (told : List Frame) where
  -- the first frame
  pub first_refused : (f : Frame) → HasHeard b ExpectsHello told → f ≢ replica_hello b → IsNoFront b (told ++ f ∷ [])
  first_refused f heard unlike = λ other ok rest e. unlike (begins_with b other f rest ok (heard.follows other ok (f ∷ rest) (e ∙ append_assoc told (f ∷ []) rest))).0

  pub hello_refused : (h : HelloFields) (e : Fault KnownCause) → HasHeard b ExpectsHello told → RefusesHello b h e → Explains b (told ++ Hello h ∷ []) e
  hello_refused h Memory heard why = tt
  hello_refused h (Refused Form) heard why = first_refused (Hello h) heard why
  hello_refused h (Refused Failed) heard why = tt
  hello_refused h (Refused Topology) heard why = subst (λ l. BeginsOther b (l ++ Hello h ∷ [])) (sym heard.front.0) why

  -- one behind the end
  pub end_refused : (f : Frame) → HasHeard b ExpectsEnd told → IsNoFront b (told ++ f ∷ [])
  end_refused f heard = λ other ok rest e. none_heads _ _ (heard.follows other ok (f ∷ rest) (e ∙ append_assoc told (f ∷ []) rest))

  module _ (c : ℕ) (heard : HasHeard b (ExpectsChannel c) told) where
    amid : (other : BookValue) → IsOfReplica b other → (f : Frame) (rest : List Frame) → known_frames other ≡ (told ++ f ∷ []) ++ rest → IsAmid b other c (f ∷ rest)
    amid other ok f rest e = heard.follows other ok (f ∷ rest) (e ∙ append_assoc told (f ∷ []) rest)

    -- one that is of no channel
    hello_amid : (h : HelloFields) → IsNoFront b (told ++ Hello h ∷ [])
    hello_amid h = λ other ok rest e. no_hello b other c h rest (amid other ok (Hello h) rest e)

    have_amid : (h : HaveFields) → IsNoFront b (told ++ Have h ∷ [])
    have_amid h = λ other ok rest e. no_have b other c h rest (amid other ok (Have h) rest e)

    bye_amid : IsNoFront b (told ++ Bye ∷ [])
    bye_amid = λ other ok rest e. no_bye b other c rest (amid other ok Bye rest e)

    pub other_amid : (f : Frame) → ((h : HelloFields) × (f ≡ Hello h)) ⊎ (((h : HaveFields) × (f ≡ Have h)) ⊎ (f ≡ Bye)) → IsNoFront b (told ++ f ∷ [])
    other_amid f (inl (h, is)) = subst (λ g. IsNoFront b (told ++ g ∷ [])) (sym is) (hello_amid h)
    other_amid f (inr (inl (h, is))) = subst (λ g. IsNoFront b (told ++ g ∷ [])) (sym is) (have_amid h)
    other_amid f (inr (inr is)) = subst (λ g. IsNoFront b (told ++ g ∷ [])) (sym is) bye_amid

    -- a message that cannot be the next, or that is not taken
    pub data_refused : (d : DataFields) → (is_incoming b c ≡ true → d.channel ≡ c → d.number ≡ length (channel_known b c).list → IsAccepted (data_taken b.knows d.channel d.number d.time d.packet).answer → ⊥)
        → IsNoFront b (told ++ Data d ∷ [])
    data_refused d why = λ other ok rest e.
        let at = amid other ok (Data d) rest e in
        let one = data_next b other c d rest at in
        why at.comes one.own one.next
        (subst (λ k. IsAccepted (data_taken b.knows k d.number d.time d.packet).answer) (sym one.own)
        (next_accepted (channel_known b c) (channel_known other c) (d.time, d.packet) one.more at.under (know_there b other ok c heard.front.1 at.comes) one.list d.number one.next))

    pub data_out_of_turn : (d : DataFields) → (is_incoming b c && (d.channel == c) && (d.number == length (channel_known b c).list)) ≡ false → IsNoFront b (told ++ Data d ∷ [])
    data_out_of_turn d unlike = data_refused d (λ comes own next taken. true≢false (sym (all_three _ _ _ comes (grind (arith, nat_tests, own)) (grind (arith, nat_tests, next))) ∙ unlike))

    pub data_not_taken : (d : DataFields) (e : Fault KnownCause) → Refuses b (DataMessage d) e → Explains b (told ++ Data d ∷ []) e
    data_not_taken d Memory why = tt
    data_not_taken d (Refused Form) why = data_refused d (λ comes own next taken. why (subst (λ k. is_incoming b k ≡ true) (sym own) comes) taken)
    data_not_taken d (Refused Failed) why = absurd why
    data_not_taken d (Refused Topology) why = absurd why

    -- and a null message
    pub null_refused : (n : NullFields) → (is_incoming b c ≡ true → n.channel ≡ c → n.count ≡ length (channel_known b c).list → (channel_known b c).clock ≤ n.clock → ⊥) → IsNoFront b (told ++ Null n ∷ [])
    null_refused n why = λ other ok rest e.
        let at = amid other ok (Null n) rest e in
        let one = null_next b other c n rest at in
        why at.comes one.own one.all (let low = at.under.clock in let same = one.clock in omega (arith, low, same))

    pub null_out_of_turn : (n : NullFields) → (is_incoming b c && (n.channel == c) && (n.count == length (channel_known b c).list)) ≡ false → IsNoFront b (told ++ Null n ∷ [])
    null_out_of_turn n unlike = null_refused n (λ comes own all low. true≢false (sym (all_three _ _ _ comes (grind (arith, nat_tests, own)) (grind (arith, nat_tests, all))) ∙ unlike))

    null_would : (n : NullFields) → n.channel ≡ c → n.count ≡ length (channel_known b c).list → IsAccepted (null_taken b.knows n.channel n.count n.clock).answer
    null_would n own all = subst (λ k. IsAccepted (null_taken b.knows k n.count n.clock).answer) (sym own) (null_taken_so (channel_known b c) n.count n.clock all).0

    pub null_not_taken : (n : NullFields) (e : Fault KnownCause) → Refuses b (NullMessage n) e → Explains b (told ++ Null n ∷ []) e
    null_not_taken n Memory why = tt
    null_not_taken n (Refused Form) why = null_refused n (λ comes own all low. why (subst (λ k. is_incoming b k ≡ true) (sym own) comes) (null_would n own all))
    null_not_taken n (Refused Failed) why = absurd why
    null_not_taken n (Refused Topology) why = absurd why

    -- or one after which the channel has another clock
    pub clock_refused : (n : NullFields) (later : BookValue) → later ≡ record b { knows = later.knows } → Learned b later (NullMessage n)
        → (is_incoming later c && ((channel_known later c).clock == n.clock)) ≡ false → IsNoFront b (told ++ Null n ∷ [])
    clock_refused n later same learned unlike = null_refused n (λ comes own all low.
        true≢false (sym (both _ _ (ap (λ (z : BookValue). is_incoming z c) same ∙ comes) (let is = clock_now own all low in grind (arith, nat_tests, is))) ∙ unlike))
      where
        both : (x y : Bool) → x ≡ true → y ≡ true → (x && y) ≡ true
        both true true p q = refl
        both true false p q = absurd (true≢false (sym q))
        both false y p q = absurd (true≢false (sym p))

        there : c < length b.knows
        there = let low = heard.front.1 in let count = heard.count in omega (arith, low, count)

        clock_now : n.channel ≡ c → n.count ≡ length (channel_known b c).list → (channel_known b c).clock ≤ n.clock → (channel_known later c).clock ≡ n.clock
        clock_now own all low =
            ap (λ l. (slice_index_or l c nothing_known).clock) (learned.after ∙ ap (λ k. slice_set b.knows k (null_taken b.knows k n.count n.clock).after) own)
            ∙ ap (λ (k : Know (List ℕ)). k.clock) (set_here b.knows c (null_taken b.knows c n.count n.clock).after there)
            ∙ (null_taken_so (channel_known b c) n.count n.clock all).1 low
