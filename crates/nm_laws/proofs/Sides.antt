-- What holds of both sessions, turn by turn.
use Rattle.std.proofs.Common.{◌≡◌, ℕ, ◌+◌, ◌<◌, ◌≤◌, Bool, true, false, ◌==◌, cond, List, [], ◌∷◌, length, map, Some, Ok, refl, sym, subst, ap, ◌∙◌, arith, true≢false}
use Rattle.std.specs.List.{AllByRecursion}
use Rattle.nm_model.proofs.ListLemmas.{number_is}
use Rattle.nm_book.specs.Book.{BookValue, is_incoming, is_outgoing, sent_over}
use Rattle.nm_book.specs.declared.message.Null.{Null as NullValue}
use Rattle.nm_frames.specs.declared.frame.Frame.{Frame}
use Rattle.nm_frames.specs.declared.frame.Frame.TheVariants.{Hello, Have, Data, Null, Bye}
use Rattle.nm_frames.specs.declared.side.ChannelIn.{ChannelIn}
use Rattle.nm_frames.specs.declared.side.ChannelOut.{ChannelOut}
use Rattle.nm_frames.specs.Owed.{after_giving, held_on, marked, moved_to, owed, with_null}
use Rattle.nm_frames.specs.Session.{SessionValue, restarted, taken, with_channel}
use Rattle.nm_frames.specs.Told.{HasAsked}
use Rattle.nm_frames.proofs.Telling.{leaves}
use Rattle.nm_laws.specs.Sessions.{HoldsSent}
use Rattle.nm_laws.proofs.Giving.{data_was_sent, have_holds, not_left}
use Rattle.nm_laws.proofs.Taking.{Keeps, took_bye, took_data, took_have, took_hello, took_null}

-- A channel from a to b: where b has asked for it, a has a cursor, and a's cursor is within what was sent.
pub record Pair (a b : BookValue) (i : ChannelIn) (o : ChannelOut) : Type 0 where
  pub same : i.channel ≡ o.channel
  pub goes : is_outgoing a o.channel ≡ true
  pub comes : is_incoming b o.channel ≡ true
  pub known : i.have_given ≡ true → (n : ℕ) × (o.cursor ≡ Some n)
  pub within : (n : ℕ) → o.cursor ≡ Some n → n ≤ length (sent_over a o.channel)

abbrev pub Pairs : BookValue → BookValue → List ChannelIn → List ChannelOut → Type 0
Pairs a b [] [] = Unit {0}
Pairs a b [] (o ∷ os) = ⊥
Pairs a b (i ∷ is) [] = ⊥
Pairs a b (i ∷ is) (o ∷ os) = Pair a b i o × Pairs a b is os

-- the way from session s of a to session t of b
pub record Way (a b : BookValue) (s t : SessionValue) : Type 0 where
  pub bye : t.bye_taken ≡ s.bye_given
  pub pairs : Pairs a b t.incoming s.outgoing
  pub asked : s.bye_given ≡ true → AllByRecursion (HasAsked a) s.incoming

-- what goes out changes, but not its channel, and its cursor stays within what was sent
record Moves (a : BookValue) (o moved : ChannelOut) : Type 0 where
  pub channel : moved.channel ≡ o.channel
  pub known : (n : ℕ) → o.cursor ≡ Some n → (m : ℕ) × (moved.cursor ≡ Some m)
  pub within : ((n : ℕ) → o.cursor ≡ Some n → n ≤ length (sent_over a o.channel)) → (n : ℕ) → moved.cursor ≡ Some n → n ≤ length (sent_over a o.channel)

moved_pair : (a b : BookValue) (i : ChannelIn) (o moved : ChannelOut) → Moves a o moved → Pair a b i o → Pair a b i moved
moved_pair a b i o moved m p = record {
  same = p.same ∙ sym m.channel;
  goes = subst (λ c. is_outgoing a c ≡ true) (sym m.channel) p.goes;
  comes = subst (λ c. is_incoming b c ≡ true) (sym m.channel) p.comes;
  known = λ given. let k = p.known given in m.known k.0 k.1;
  within = λ n at. subst (λ c. n ≤ length (sent_over a c)) (sym m.channel) (m.within p.within n at);
}

moved_pairs : (a b : BookValue) (f : ChannelOut → ChannelOut) → ((o : ChannelOut) → Moves a o (f o)) → (is : List ChannelIn) (os : List ChannelOut) → Pairs a b is os → Pairs a b is (map f os)
moved_pairs a b f m [] [] p = tt
moved_pairs a b f m [] (o ∷ os) p = absurd p
moved_pairs a b f m (i ∷ is) [] p = absurd p
moved_pairs a b f m (i ∷ is) (o ∷ os) p = (moved_pair a b i o (f o) (m o) p.0, moved_pairs a b f m is os p.1)

-- a message that was sent is given
data_moves : (a : BookValue) (c n : ℕ) → n < length (sent_over a c) → (o : ChannelOut) → Moves a o (with_channel c (moved_to (n + 1)) o)
data_moves a c n low o = go (o.channel == c) refl
  where
    go : (z : Bool) → (o.channel == c) ≡ z → Moves a o (cond z (moved_to (n + 1) o) o)
    go false e = record { channel = refl; known = λ m at. (m, at); within = λ h. h }
    go true e = record {
      channel = refl;
      known = λ m at. (n + 1, refl);
      within = λ h m at.
          let is : n + 1 ≡ m = cc in
          let same : o.channel ≡ c = number_is o.channel c e in
          let most : n + 1 ≤ length (sent_over a c) = omega (arith, low) in
          subst (λ k. k ≤ length (sent_over a o.channel)) is (subst (λ k. n + 1 ≤ length (sent_over a k)) (sym same) most);
    }

-- a null message is given
null_moves : (a : BookValue) (c : ℕ) (null : NullValue) (o : ChannelOut) → Moves a o (with_channel c (with_null null) o)
null_moves a c null o = go (o.channel == c)
  where
    go : (z : Bool) → Moves a o (cond z (with_null null o) o)
    go false = record { channel = refl; known = λ m at. (m, at); within = λ h. h }
    go true = record { channel = refl; known = λ m at. (m, at); within = λ h. h }

-- a Have is given, and taken
asked_pair : (a b : BookValue) (c n : ℕ) → (is_outgoing a c ≡ true → is_incoming b c ≡ true → n ≤ length (sent_over a c)) → (i : ChannelIn) (o : ChannelOut) → Pair a b i o
    → Pair a b (marked c i) (with_channel c (restarted n) o)
asked_pair a b c n most i o p = go (i.channel == c) (o.channel == c) refl refl (ap (λ z. z == c) p.same)
  where
    go : (x y : Bool) → (i.channel == c) ≡ x → (o.channel == c) ≡ y → (i.channel == c) ≡ (o.channel == c)
        → Pair a b (cond x (record { channel = i.channel; have_given = true }) i) (cond y (restarted n o) o)
    go false false e f same = p
    go true false e f same = absurd (true≢false (sym e ∙ same ∙ f))
    go false true e f same = absurd (true≢false (sym f ∙ sym same ∙ e))
    go true true e f same =
        let at : o.channel ≡ c = number_is o.channel c f in
        record {
          same = p.same;
          goes = p.goes;
          comes = p.comes;
          known = λ given. (n, refl);
          within = λ m g.
              let is : n ≡ m = cc in
              subst (λ k. k ≤ length (sent_over a o.channel)) is
              (subst (λ k. n ≤ length (sent_over a k)) (sym at)
              (most (subst (λ k. is_outgoing a k ≡ true) at p.goes) (subst (λ k. is_incoming b k ≡ true) at p.comes)));
        }

asked_pairs : (a b : BookValue) (c n : ℕ) → (is_outgoing a c ≡ true → is_incoming b c ≡ true → n ≤ length (sent_over a c)) → (is : List ChannelIn) (os : List ChannelOut) → Pairs a b is os
    → Pairs a b (map (marked c) is) (map (with_channel c (restarted n)) os)
asked_pairs a b c n most [] [] p = tt
asked_pairs a b c n most [] (o ∷ os) p = absurd p
asked_pairs a b c n most (i ∷ is) [] p = absurd p
asked_pairs a b c n most (i ∷ is) (o ∷ os) p = (asked_pair a b c n most i o p.0, asked_pairs a b c n most is os p.1)

-- the way on which a session gives, and the one on which it then takes
along : (a b : BookValue) (s t r u : SessionValue) → u.bye_taken ≡ r.bye_given → Pairs a b u.incoming r.outgoing → r.bye_given ≡ s.bye_given → r.incoming ≡ s.incoming → Way a b s t → Way a b r u
along a b s t r u bye pairs given incoming w = record {
  bye = bye;
  pairs = pairs;
  asked = λ left. subst (AllByRecursion (HasAsked a)) (sym incoming) (w.asked (sym given ∙ left));
}

module _ (a b : BookValue) (holds : HoldsSent b a) (s t u : SessionValue) where
  -- the session that takes keeps its own way, but for what the frame changes
  back : (r : SessionValue) (outgoing : List ChannelOut) (bye : Bool) → Keeps t u outgoing bye → r.bye_taken ≡ s.bye_taken → Pairs b a r.incoming outgoing → Way b a t s → Way b a u r
  back r outgoing bye k same pairs w =
      along b a t s u r (same ∙ w.bye ∙ sym k.given) (subst (Pairs b a r.incoming) (sym k.outgoing_is) pairs) k.given k.incoming w

  gives : (f : Frame) → owed s a ≡ Some f → taken t f ≡ Ok u → Way a b s t → Way b a t s → Way a b (after_giving s f) u × Way b a u (after_giving s f)
  gives (Hello h) e g w v =
      let k = took_hello t u h g in (
        along a b s t (after_giving s (Hello h)) u (k.bye_is ∙ w.bye) (subst (λ z. Pairs a b z s.outgoing) (sym k.incoming) w.pairs) refl refl w,
        back (after_giving s (Hello h)) t.outgoing t.bye_taken k refl v.pairs v,
      )
  gives (Have h) e g w v =
      let k = took_have t u h g in
      let count : h.count ≡ held_on a h.channel = have_holds s a h e in
      let most : is_outgoing b h.channel ≡ true → is_incoming a h.channel ≡ true → h.count ≤ length (sent_over b h.channel)
      = λ goes comes. subst (λ n. n ≤ length (sent_over b h.channel)) (sym count) (holds h.channel goes comes) in (
        record {
          bye = k.bye_is ∙ w.bye;
          pairs = subst (λ z. Pairs a b z s.outgoing) (sym k.incoming) w.pairs;
          asked = λ left. absurd (true≢false (sym left ∙ not_left s a (Have h) e));
        },
        back (after_giving s (Have h)) (map (with_channel h.channel (restarted h.count)) t.outgoing) t.bye_taken k refl
            (asked_pairs b a h.channel h.count most s.incoming t.outgoing v.pairs) v,
      )
  gives (Data d) e g w v =
      let k = took_data t u d g in (
        along a b s t (after_giving s (Data d)) u (k.bye_is ∙ w.bye)
            (moved_pairs a b (with_channel d.channel (moved_to (d.number + 1))) (data_moves a d.channel d.number (data_was_sent s a d e)) u.incoming s.outgoing
            (subst (λ z. Pairs a b z s.outgoing) (sym k.incoming) w.pairs)) refl refl w,
        back (after_giving s (Data d)) t.outgoing t.bye_taken k refl v.pairs v,
      )
  gives (Null n) e g w v =
      let k = took_null t u n g in (
        along a b s t (after_giving s (Null n)) u (k.bye_is ∙ w.bye)
            (moved_pairs a b (with_channel n.channel (with_null n)) (null_moves a n.channel n) u.incoming s.outgoing
            (subst (λ z. Pairs a b z s.outgoing) (sym k.incoming) w.pairs)) refl refl w,
        back (after_giving s (Null n)) t.outgoing t.bye_taken k refl v.pairs v,
      )
  gives Bye e g w v =
      let k = took_bye t u g in (
        record {
          bye = k.bye_is;
          pairs = subst (λ z. Pairs a b z s.outgoing) (sym k.incoming) w.pairs;
          asked = λ left. (leaves s a e).asked;
        },
        back (after_giving s Bye) t.outgoing true k refl v.pairs v,
      )

pub both_go_on : (a b : BookValue) → HoldsSent b a → (s t u : SessionValue) (f : Frame) → owed s a ≡ Some f → taken t f ≡ Ok u → Way a b s t → Way b a t s
    → Way a b (after_giving s f) u × Way b a u (after_giving s f)
both_go_on a b holds s t u f e g w v = gives a b holds s t u f e g w v
