-- What it says of a session that it owes a frame.
use Rattle.std.proofs.Common.{◌≡◌, ◌⊎◌, inl, inr, ℕ, ◌<◌, Bool, true, false, not, ◌==◌, ◌&&◌, ◌||◌, cond, nat_lt, List, [], ◌∷◌, length, Option, Some, None, refl, sym, subst, ap, ◌∙◌, arith}
use Rattle.std.proofs.lemmas.Bool.Decides.{nat_tests}
use Rattle.std.specs.List.{list_all}
use Rattle.std.specs.Option.{option_map}
use Rattle.nm_model.specs.Certificate.{is_done}
use Rattle.nm_model.specs.Join.{or_else}
use Rattle.nm_model.specs.Lists.{nth}
use Rattle.nm_model.specs.Promise.{Promising}
use Rattle.nm_sim.specs.Network.{net_of}
use Rattle.nm_book.specs.Book.{BookValue, data_from, is_incoming, is_outgoing, null_on, replica_of, sent_over}
use Rattle.nm_book.specs.declared.message.Data.{Data as DataValue}
use Rattle.nm_book.specs.declared.message.Null.{Null as NullValue}
use Rattle.nm_frames.specs.declared.frame.Frame.{Frame}
use Rattle.nm_frames.specs.declared.frame.Frame.TheVariants.{Hello, Have, Data, Null, Bye}
use Rattle.nm_frames.specs.declared.frame.Have.{Have as HaveValue}
use Rattle.nm_frames.specs.declared.side.ChannelIn.{ChannelIn}
use Rattle.nm_frames.specs.declared.side.ChannelOut.{ChannelOut}
use Rattle.nm_frames.specs.Frame.{have_frame}
use Rattle.nm_frames.specs.Owed.{bye_owed, have_owed, held_on, hello_of, is_last, is_told, message_owed, null_owed, owed, owed_at, promising_of}
use Rattle.nm_frames.specs.Session.{SessionValue, is_there}

either : (o p : Option Frame) (f : Frame) → or_else o p ≡ Some f → (o ≡ Some f) ⊎ (p ≡ Some f)
either None p f e = inr e
either (Some g) p f e = inl e

-- nothing is owed once Bye was given
pub not_left : (s : SessionValue) (b : BookValue) (f : Frame) → owed s b ≡ Some f → s.bye_given ≡ false
not_left s b f e = go s.bye_given refl e
  where
    go : (z : Bool) → s.bye_given ≡ z
        → cond z None (cond (not (is_there s.hello_given)) (Some (hello_of s))
        (or_else (have_owed b s.incoming) (or_else (message_owed b (promising_of s) s.outgoing) (bye_owed b (promising_of s) s.outgoing)))) ≡ Some f
        → s.bye_given ≡ false
    go true is g = absurd (let h : None ≡ Some f = g in cc)
    go false is g = is

-- which of the rules gives it
by_rule : (s : SessionValue) (b : BookValue) (f : Frame) → owed s b ≡ Some f
    → (Some (hello_of s) ≡ Some f) ⊎ ((have_owed b s.incoming ≡ Some f) ⊎ ((message_owed b (promising_of s) s.outgoing ≡ Some f) ⊎ (bye_owed b (promising_of s) s.outgoing ≡ Some f)))
by_rule s b f e = go s.bye_given (is_there s.hello_given) e
  where
    rest : Option Frame
    rest = or_else (have_owed b s.incoming) (or_else (message_owed b (promising_of s) s.outgoing) (bye_owed b (promising_of s) s.outgoing))

    last : (o : (message_owed b (promising_of s) s.outgoing ≡ Some f) ⊎ (bye_owed b (promising_of s) s.outgoing ≡ Some f))
        → (Some (hello_of s) ≡ Some f) ⊎ ((have_owed b s.incoming ≡ Some f) ⊎ ((message_owed b (promising_of s) s.outgoing ≡ Some f) ⊎ (bye_owed b (promising_of s) s.outgoing ≡ Some f)))
    last o = inr (inr o)

    more : (o : (have_owed b s.incoming ≡ Some f) ⊎ (or_else (message_owed b (promising_of s) s.outgoing) (bye_owed b (promising_of s) s.outgoing) ≡ Some f))
        → (Some (hello_of s) ≡ Some f) ⊎ ((have_owed b s.incoming ≡ Some f) ⊎ ((message_owed b (promising_of s) s.outgoing ≡ Some f) ⊎ (bye_owed b (promising_of s) s.outgoing ≡ Some f)))
    more (inl h) = inr (inl h)
    more (inr h) = last (either (message_owed b (promising_of s) s.outgoing) (bye_owed b (promising_of s) s.outgoing) f h)

    go : (x y : Bool) → cond x None (cond (not y) (Some (hello_of s)) rest) ≡ Some f
        → (Some (hello_of s) ≡ Some f) ⊎ ((have_owed b s.incoming ≡ Some f) ⊎ ((message_owed b (promising_of s) s.outgoing ≡ Some f) ⊎ (bye_owed b (promising_of s) s.outgoing ≡ Some f)))
    go true y g = absurd (let h : None ≡ Some f = g in cc)
    go false false g = inl g
    go false true g = more (either (have_owed b s.incoming) (or_else (message_owed b (promising_of s) s.outgoing) (bye_owed b (promising_of s) s.outgoing)) f g)

bye_is_bye : (b : BookValue) (kind : Promising) (os : List ChannelOut) (f : Frame) → bye_owed b kind os ≡ Some f → Bye ≡ f
bye_is_bye b kind os f e = go (is_done (net_of b.topology) b.partition (replica_of b) && list_all (λ o. is_told b kind o) os) e
  where
    go : (z : Bool) → cond z (Some Bye) None ≡ Some f → Bye ≡ f
    go true g = cc
    go false g = absurd (let h : None ≡ Some f = g in cc)

-- a Have says how many are held
have_is : (b : BookValue) (is : List ChannelIn) (f : Frame) → have_owed b is ≡ Some f → (c : ℕ) × (f ≡ have_frame c (held_on b c))
have_is b [] f e = absurd (let h : None ≡ Some f = e in cc)
have_is b (i ∷ is) f e = go (i.have_given || not (is_incoming b i.channel)) e (λ h. have_is b is f h)
  where
    go : (z : Bool) → cond z (have_owed b is) (Some (have_frame i.channel (held_on b i.channel))) ≡ Some f
        → (have_owed b is ≡ Some f → (c : ℕ) × (f ≡ have_frame c (held_on b c))) → (c : ℕ) × (f ≡ have_frame c (held_on b c))
    go true g more = more g
    go false g more = (i.channel, cc)

-- what is given of a channel: a message that was sent, or a null message
abbrev IsOfChannel : BookValue → Frame → Type 0
IsOfChannel b (Hello h) = ⊥
IsOfChannel b (Have h) = ⊥
IsOfChannel b (Data d) = d.number < length (sent_over b d.channel)
IsOfChannel b (Null n) = Unit {0}
IsOfChannel b Bye = ⊥

null_is : (b : BookValue) (last : Option NullValue) (null : NullValue) (f : Frame) → null_owed last null ≡ Some f → IsOfChannel b f
null_is b last null f e = go (is_last last null) e
  where
    go : (z : Bool) → cond z None (Some (Null null)) ≡ Some f → IsOfChannel b f
    go true g = absurd (let h : None ≡ Some f = g in cc)
    go false g = let h : Null null ≡ f = cc in subst (IsOfChannel b) h tt

at_is : (b : BookValue) (kind : Promising) (o : ChannelOut) (at : Option ℕ) (f : Frame) → owed_at b kind o at ≡ Some f → IsOfChannel b f
at_is b kind o None f e = absurd (let h : None ≡ Some f = e in cc)
at_is b kind o (Some n) f e = go (nat_lt n (length (sent_over b o.channel))) (n == length (sent_over b o.channel)) refl e
  where
    message : (m : Option (ℕ × List ℕ)) → n < length (sent_over b o.channel) → option_map Data (data_from o.channel n m) ≡ Some f → IsOfChannel b f
    message None low g = absurd (let h : None ≡ Some f = g in cc)
    message (Some m) low g =
        let h : Data (record { channel = o.channel; number = n; time = m.0; packet = m.1 }) ≡ f = cc in subst (IsOfChannel b) h low

    go : (x y : Bool) → nat_lt n (length (sent_over b o.channel)) ≡ x
        → cond x (option_map Data (data_from o.channel n (nth (sent_over b o.channel) n))) (cond y (null_owed o.last_null (null_on kind b o.channel)) None) ≡ Some f
        → IsOfChannel b f
    go true y p g = message (nth (sent_over b o.channel) n) (grind (arith, nat_tests, p)) g
    go false true p g = null_is b o.last_null (null_on kind b o.channel) f g
    go false false p g = absurd (let h : None ≡ Some f = g in cc)

message_is : (b : BookValue) (kind : Promising) (os : List ChannelOut) (f : Frame) → message_owed b kind os ≡ Some f → IsOfChannel b f
message_is b kind [] f e = absurd (let h : None ≡ Some f = e in cc)
message_is b kind (o ∷ os) f e = go (either (cond (is_outgoing b o.channel) (owed_at b kind o o.cursor) None) (message_owed b kind os) f e) (λ h. message_is b kind os f h)
  where
    here : (z : Bool) → cond z (owed_at b kind o o.cursor) None ≡ Some f → IsOfChannel b f
    here true g = at_is b kind o o.cursor f g
    here false g = absurd (let h : None ≡ Some f = g in cc)

    go : (cond (is_outgoing b o.channel) (owed_at b kind o o.cursor) None ≡ Some f) ⊎ (message_owed b kind os ≡ Some f)
        → (message_owed b kind os ≡ Some f → IsOfChannel b f) → IsOfChannel b f
    go (inl g) more = here (is_outgoing b o.channel) g
    go (inr g) more = more g

pub have_holds : (s : SessionValue) (b : BookValue) (h : HaveValue) → owed s b ≡ Some (Have h) → h.count ≡ held_on b h.channel
have_holds s b h e = go (by_rule s b (Have h) e)
  where
    go : (Some (hello_of s) ≡ Some (Have h)) ⊎ ((have_owed b s.incoming ≡ Some (Have h))
        ⊎ ((message_owed b (promising_of s) s.outgoing ≡ Some (Have h)) ⊎ (bye_owed b (promising_of s) s.outgoing ≡ Some (Have h)))) → h.count ≡ held_on b h.channel
    go (inl g) = absurd cc
    go (inr (inl g)) =
        let is = have_is b s.incoming (Have h) g in
        let same : h ≡ record { channel = is.0; count = held_on b is.0 } = let k = is.1 in cc in
        ap (λ z. z.count) same ∙ ap (λ z. held_on b z.channel) (sym same)
    go (inr (inr (inl g))) = absurd (message_is b (promising_of s) s.outgoing (Have h) g)
    go (inr (inr (inr g))) = absurd (let k = bye_is_bye b (promising_of s) s.outgoing (Have h) g in cc)

pub data_was_sent : (s : SessionValue) (b : BookValue) (d : DataValue) → owed s b ≡ Some (Data d) → d.number < length (sent_over b d.channel)
data_was_sent s b d e = go (by_rule s b (Data d) e)
  where
    go : (Some (hello_of s) ≡ Some (Data d)) ⊎ ((have_owed b s.incoming ≡ Some (Data d))
        ⊎ ((message_owed b (promising_of s) s.outgoing ≡ Some (Data d)) ⊎ (bye_owed b (promising_of s) s.outgoing ≡ Some (Data d)))) → d.number < length (sent_over b d.channel)
    go (inl g) = absurd cc
    go (inr (inl g)) = absurd (let k = (have_is b s.incoming (Data d) g).1 in cc)
    go (inr (inr (inl g))) = message_is b (promising_of s) s.outgoing (Data d) g
    go (inr (inr (inr g))) = absurd (let k = bye_is_bye b (promising_of s) s.outgoing (Data d) g in cc)
