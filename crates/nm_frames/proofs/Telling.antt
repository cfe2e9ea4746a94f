-- What a session has told its peer when it owes nothing, and before it says Bye.
use Rattle.std.proofs.Common.{◌≡◌, inl, inr, ℕ, ◌<◌, Bool, true, false, not, ◌==◌, ◌&&◌, ◌||◌, cond, nat_lt, List, [], ◌∷◌, length, map, Option, Some, None, Ok, Err, refl, sym, subst, ap, ap₂, ◌∙◌, arith, true≢false}
use Rattle.std.proofs.lemmas.Bool.{and_parts}
use Rattle.std.proofs.lemmas.Bool.Decides.{nat_tests}
use Rattle.std.specs.List.{AllByRecursion, list_all}
use Rattle.std.specs.Option.{option_map}
use Rattle.nm_model.specs.Certificate.{is_done}
use Rattle.nm_model.specs.Join.{or_else}
use Rattle.nm_model.specs.Lists.{nth}
use Rattle.nm_model.specs.Promise.{Promising}
use Rattle.nm_model.proofs.ListLemmas.{nth_below, number_is, number_tied}
use Rattle.nm_sim.specs.Network.{net_of}
use Rattle.nm_book.specs.Book.{BookValue, data_from, is_incoming, is_outgoing, null_on, replica_of, sent_over}
use Rattle.nm_book.specs.declared.message.Null.{Null as NullMessage}
use Rattle.nm_frames.specs.declared.frame.Frame.{Frame}
use Rattle.nm_frames.specs.declared.frame.Frame.TheVariants.{Have, Data, Null, Bye}
use Rattle.nm_frames.specs.declared.frame.Have.{Have as HaveValue}
use Rattle.nm_frames.specs.declared.session_fault.SessionFault.TheVariants.{Order, Channel}
use Rattle.nm_frames.specs.declared.side.ChannelIn.{ChannelIn}
use Rattle.nm_frames.specs.declared.side.ChannelOut.{ChannelOut}
use Rattle.nm_frames.specs.Frame.{have_frame}
use Rattle.nm_frames.specs.Owed.{bye_owed, have_owed, held_on, hello_of, is_cursor, is_last, is_told, message_owed, null_owed, owed, owed_at, promising_of}
use Rattle.nm_frames.specs.Session.{SessionValue, broken, goes_to_peer, is_there, new_incoming, new_outgoing, restarted, taken, with_channel}
use Rattle.nm_frames.specs.Told.{HasAsked, HasSaid, HasTold, HasToldFrom, IsOwedFrom, IsAllTold, IsSilent, IsUnasked, IsUntold, MayLeave}

none_left : {A : Type 0} (o p : Option A) → or_else o p ≡ None → o ≡ None
none_left None p e = refl
none_left (Some x) p e = absurd (cc)

none_right : {A : Type 0} (o p : Option A) → or_else o p ≡ None → p ≡ None
none_right None p e = e
none_right (Some x) p e = absurd (cc)

-- a null message that is not owed was the last
last_said : (last : Option NullMessage) (null : NullMessage) → is_last last null ≡ true → HasSaid last null
last_said None null e = absurd (cc)
last_said (Some said) null e =
    let h = and_parts (said.count == null.count) (said.clock == null.clock) e in
    (said, refl, number_is said.count null.count h.0, number_is said.clock null.clock h.1)

said_last : (last : Option NullMessage) (null : NullMessage) → HasSaid last null → is_last last null ≡ true
said_last last null h =
    let count : (h.0.count == null.count) ≡ true = ap (λ z. z == null.count) h.2 ∙ number_tied null.count in
    let clock : (h.0.clock == null.clock) ≡ true = ap (λ z. z == null.clock) h.3 ∙ number_tied null.clock in
    subst (λ z. is_last z null ≡ true) (sym h.1) (ap₂ (λ a b. a && b) count clock)

not_owed : (last : Option NullMessage) (null : NullMessage) → null_owed last null ≡ None → HasSaid last null
not_owed last null e = go (is_last last null) refl e
  where
    go : (z : Bool) → is_last last null ≡ z → cond z None (Some (Null null)) ≡ None → HasSaid last null
    go true h g = last_said last null h
    go false h g = absurd (cc)

module _ (b : BookValue) where
  -- a session that owes no Have has given all
  asked : (is : List ChannelIn) → have_owed b is ≡ None → AllByRecursion (HasAsked b) is
  asked [] e = tt
  asked (i ∷ is) e = go i.have_given (is_incoming b i.channel) refl refl e (λ h. asked is h)
    where
      go : (g c : Bool) → i.have_given ≡ g → is_incoming b i.channel ≡ c
          → cond (g || not c) (have_owed b is) (Some (have_frame i.channel (held_on b i.channel))) ≡ None
          → (have_owed b is ≡ None → AllByRecursion (HasAsked b) is) → AllByRecursion (HasAsked b) (i ∷ is)
      go true c given comes h more = ((λ _. given), more h)
      go false false given comes h more = ((λ q. absurd (true≢false (sym q ∙ comes))), more h)
      go false true given comes h more = absurd (cc)

  have_no_bye : (is : List ChannelIn) → have_owed b is ≡ Some Bye → ⊥
  have_no_bye [] e = cc
  have_no_bye (i ∷ is) e = go (i.have_given || not (is_incoming b i.channel)) e (λ h. have_no_bye is h)
    where
      go : (z : Bool) → cond z (have_owed b is) (Some (have_frame i.channel (held_on b i.channel))) ≡ Some Bye → (have_owed b is ≡ Some Bye → ⊥) → ⊥
      go true h more = more h
      go false h more = cc

  module _ (kind : Promising) where
    -- at a cursor where nothing is owed
    at_end : (o : ChannelOut) (n : ℕ) → owed_at b kind o (Some n) ≡ None → HasToldFrom b kind o n
    at_end o n e = go (nat_lt n (length (sent_over b o.channel))) (n == length (sent_over b o.channel)) refl refl e
      where
        go : (x y : Bool) → nat_lt n (length (sent_over b o.channel)) ≡ x → (n == length (sent_over b o.channel)) ≡ y
            → cond x (option_map Data (data_from o.channel n (nth (sent_over b o.channel) n)))
            (cond y (null_owed o.last_null (null_on kind b o.channel)) None) ≡ None
            → HasToldFrom b kind o n
        go true y p q h =
            let low : n < length (sent_over b o.channel) = grind (arith, nat_tests, p) in
            let m = nth_below (sent_over b o.channel) n low in
            let some : option_map Data (data_from o.channel n (Some m.0)) ≡ None = subst (λ z. option_map Data (data_from o.channel n z) ≡ None) m.1 h in
            absurd (cc)
        go false true p q h = inr (number_is n (length (sent_over b o.channel)) q, not_owed o.last_null (null_on kind b o.channel) h)
        go false false p q h = inl (grind (arith, nat_tests, p, q))

    told_one : (o : ChannelOut) → cond (is_outgoing b o.channel) (owed_at b kind o o.cursor) None ≡ None → HasTold b kind o
    told_one o e goes n at =
        at_end o n (subst (λ z. owed_at b kind o z ≡ None) at (subst (λ z. cond z (owed_at b kind o o.cursor) None ≡ None) goes e))

    told : (os : List ChannelOut) → message_owed b kind os ≡ None → AllByRecursion (HasTold b kind) os
    told [] e = tt
    told (o ∷ os) e = (told_one o (none_left _ _ e), told os (none_right _ _ e))

    null_no_bye : (last : Option NullMessage) (null : NullMessage) → null_owed last null ≡ Some Bye → ⊥
    null_no_bye last null e = go (is_last last null) e
      where
        go : (z : Bool) → cond z None (Some (Null null)) ≡ Some Bye → ⊥
        go true h = cc
        go false h = cc

    at_no_bye : (o : ChannelOut) (at : Option ℕ) → owed_at b kind o at ≡ Some Bye → ⊥
    at_no_bye o None e = cc
    at_no_bye o (Some n) e = go (nat_lt n (length (sent_over b o.channel))) (n == length (sent_over b o.channel)) e
      where
        message : (m : Option (ℕ × List ℕ)) → option_map Data (data_from o.channel n m) ≡ Some Bye → ⊥
        message None h = cc
        message (Some m) h = cc

        go : (x y : Bool) → cond x (option_map Data (data_from o.channel n (nth (sent_over b o.channel) n)))
            (cond y (null_owed o.last_null (null_on kind b o.channel)) None) ≡ Some Bye → ⊥
        go true y h = message (nth (sent_over b o.channel) n) h
        go false true h = null_no_bye o.last_null (null_on kind b o.channel) h
        go false false h = cc

    message_no_bye : (os : List ChannelOut) → message_owed b kind os ≡ Some Bye → ⊥
    message_no_bye [] e = cc
    message_no_bye (o ∷ os) e = go (cond (is_outgoing b o.channel) (owed_at b kind o o.cursor) None) refl e (λ h. message_no_bye os h)
      where
        here : (z : Bool) → cond z (owed_at b kind o o.cursor) None ≡ Some Bye → ⊥
        here true h = at_no_bye o o.cursor h
        here false h = cc

        go : (p : Option Frame) → cond (is_outgoing b o.channel) (owed_at b kind o o.cursor) None ≡ p → or_else p (message_owed b kind os) ≡ Some Bye
            → (message_owed b kind os ≡ Some Bye → ⊥) → ⊥
        go None is h more = more h
        go (Some f) is h more = here (is_outgoing b o.channel) (is ∙ h)

    -- the two ways of saying that a channel was told
    told_is : (o : ChannelOut) → is_told b kind o ≡ true → IsAllTold b kind o
    told_is o e =
        let one = and_parts (is_outgoing b o.channel && is_cursor o.cursor (length (sent_over b o.channel))) (is_last o.last_null (null_on kind b o.channel)) e in
        let two = and_parts (is_outgoing b o.channel) (is_cursor o.cursor (length (sent_over b o.channel))) one.0 in
        record { goes_out = two.0; all = at o.cursor two.1; promise = last_said o.last_null (null_on kind b o.channel) one.1 }
      where
        at : (c : Option ℕ) → is_cursor c (length (sent_over b o.channel)) ≡ true → c ≡ Some (length (sent_over b o.channel))
        at None h = absurd (cc)
        at (Some n) h = ap Some (number_is n (length (sent_over b o.channel)) h)

    is_told_so : (o : ChannelOut) → IsAllTold b kind o → is_told b kind o ≡ true
    is_told_so o h =
        let at : is_cursor o.cursor (length (sent_over b o.channel)) ≡ true
        = ap (λ z. is_cursor z (length (sent_over b o.channel))) h.all ∙ number_tied (length (sent_over b o.channel)) in
        let said = said_last o.last_null (null_on kind b o.channel) h.promise in
        ap₂ (λ x y. x && y) (ap₂ (λ x y. x && y) h.goes_out at) said

    all_told : (os : List ChannelOut) → list_all (λ o. is_told b kind o) os ≡ true → AllByRecursion (IsAllTold b kind) os
    all_told [] e = tt
    all_told (o ∷ os) e = let h = and_parts _ _ e in (told_is o h.0, all_told os h.1)

    all_told_so : (os : List ChannelOut) → AllByRecursion (IsAllTold b kind) os → list_all (λ o. is_told b kind o) os ≡ true
    all_told_so [] h = refl
    all_told_so (o ∷ os) h = ap₂ (λ x y. x && y) (is_told_so o h.0) (all_told_so os h.1)

    no_bye : (os : List ChannelOut) → bye_owed b kind os ≡ None → is_done (net_of b.topology) b.partition (replica_of b) ≡ true → AllByRecursion (IsAllTold b kind) os → ⊥
    no_bye os e done all =
        let due = ap₂ (λ x y. x && y) done (all_told_so os all) in
        let some : Some Bye ≡ None = sym (ap (λ z. cond z (Some Bye) None) due) ∙ e in
        cc

    bye_is : (os : List ChannelOut) → bye_owed b kind os ≡ Some Bye
        → (is_done (net_of b.topology) b.partition (replica_of b) ≡ true) × AllByRecursion (IsAllTold b kind) os
    bye_is os e = go (is_done (net_of b.topology) b.partition (replica_of b) && list_all (λ o. is_told b kind o) os) refl e
      where
        go : (z : Bool) → (is_done (net_of b.topology) b.partition (replica_of b) && list_all (λ o. is_told b kind o) os) ≡ z → cond z (Some Bye) None ≡ Some Bye
            → (is_done (net_of b.topology) b.partition (replica_of b) ≡ true) × AllByRecursion (IsAllTold b kind) os
        go true h g = let t = and_parts _ _ h in (t.0, all_told os t.1)
        go false h g = absurd (cc)

-- what was said where nothing is owed
module _ (s : SessionValue) (b : BookValue) where
  abbrev rest : Option Frame
  rest = or_else (have_owed b s.incoming) (or_else (message_owed b (promising_of s) s.outgoing) (bye_owed b (promising_of s) s.outgoing))

  pub quiet : owed s b ≡ None → s.bye_given ≡ false → IsSilent s b
  quiet e unsaid =
      greeting (is_there s.hello_given) refl (subst (λ z. cond z None (cond (not (is_there s.hello_given)) (Some (hello_of s)) rest) ≡ None) unsaid e)
    where
      greeting : (h : Bool) → is_there s.hello_given ≡ h → cond (not h) (Some (hello_of s)) rest ≡ None → IsSilent s b
      greeting false is g = absurd (cc)
      greeting true is g =
          let more = none_right (have_owed b s.incoming) _ g in
          record {
            greeted = is;
            asked = asked b s.incoming (none_left (have_owed b s.incoming) _ g);
            told = told b (promising_of s) s.outgoing (none_left (message_owed b (promising_of s) s.outgoing) _ more);
            goes_on = no_bye b (promising_of s) s.outgoing (none_right (message_owed b (promising_of s) s.outgoing) _ more);
          }

  pub leaves : owed s b ≡ Some Bye → MayLeave s b
  leaves e = unsaid s.bye_given refl e
    where
      told_all : (p : Option Frame) → message_owed b (promising_of s) s.outgoing ≡ p → or_else p (bye_owed b (promising_of s) s.outgoing) ≡ Some Bye
          → bye_owed b (promising_of s) s.outgoing ≡ Some Bye
      told_all None is g = g
      told_all (Some f) is g = absurd (message_no_bye b (promising_of s) s.outgoing (is ∙ g))

      asked_all : (p : Option Frame) → have_owed b s.incoming ≡ p
          → or_else p (or_else (message_owed b (promising_of s) s.outgoing) (bye_owed b (promising_of s) s.outgoing)) ≡ Some Bye
          → (have_owed b s.incoming ≡ None) × (bye_owed b (promising_of s) s.outgoing ≡ Some Bye)
      asked_all None is g = (is, told_all (message_owed b (promising_of s) s.outgoing) refl g)
      asked_all (Some f) is g = absurd (have_no_bye b s.incoming (is ∙ g))

      greeting : (h : Bool) → cond (not h) (Some (hello_of s)) rest ≡ Some Bye → rest ≡ Some Bye
      greeting false g = absurd (cc)
      greeting true g = g

      unsaid : (z : Bool) → s.bye_given ≡ z → cond z None (cond (not (is_there s.hello_given)) (Some (hello_of s)) rest) ≡ Some Bye → MayLeave s b
      unsaid true is g = absurd (cc)
      unsaid false is g =
          let all = asked_all (have_owed b s.incoming) refl (greeting (is_there s.hello_given) g) in
          let bye = bye_is b (promising_of s) s.outgoing all.1 in
          record { first = is; done = bye.0; asked = asked b s.incoming all.0; told = bye.1 }

-- after a Have
owed_from : (c n : ℕ) (os : List ChannelOut) → AllByRecursion (IsOwedFrom c n) (map (with_channel c (restarted n)) os)
owed_from c n [] = tt
owed_from c n (o ∷ os) = (go (o.channel == c) refl, owed_from c n os)
  where
    go : (z : Bool) → (o.channel == c) ≡ z → IsOwedFrom c n (cond z (restarted n o) o)
    go true e = λ _. (refl, refl)
    go false e = λ same. absurd (let tied : (o.channel == c) ≡ true = ap (λ z. z == c) same ∙ number_tied c in cc)

pub asked_for : (s t : SessionValue) (h : HaveValue) → taken s (Have h) ≡ Ok t → AllByRecursion (IsOwedFrom h.channel h.count) t.outgoing
asked_for s t h e = go s.bye_taken (is_there s.hello_taken) (goes_to_peer s h.channel) e
  where
    go : (x y z : Bool)
        → cond x (Err Order) (cond y (cond z (Ok (record s { outgoing = map (with_channel h.channel (restarted h.count)) s.outgoing })) (Err Channel)) (Err Order)) ≡ Ok t
        → AllByRecursion (IsOwedFrom h.channel h.count) t.outgoing
    go true y z g = absurd (cc)
    go false false z g = absurd (cc)
    go false true false g = absurd (cc)
    go false true true g =
        let same : (record s { outgoing = map (with_channel h.channel (restarted h.count)) s.outgoing }) ≡ t = cc in
        subst (λ z. AllByRecursion (IsOwedFrom h.channel h.count) z.outgoing) same (owed_from h.channel h.count s.outgoing)

-- after a break
unasked : (is : List ChannelIn) → AllByRecursion IsUnasked (map (λ i. new_incoming i.channel) is)
unasked [] = tt
unasked (i ∷ is) = (refl, unasked is)

untold : (os : List ChannelOut) → AllByRecursion IsUntold (map (λ o. new_outgoing o.channel) os)
untold [] = tt
untold (o ∷ os) = ((refl, refl), untold os)

pub anew : (s : SessionValue) → AllByRecursion IsUnasked (broken s).incoming × AllByRecursion IsUntold (broken s).outgoing
    × (is_there (broken s).hello_given ≡ false) × ((broken s).bye_given ≡ false)
anew s = (unasked s.incoming, untold s.outgoing, refl, refl)
