-- What was sent to a peer, in the words of the book and not of the rules by which a session goes.
use Rattle.std.specs.Prelude.{◌≡◌, ◌⊎◌, ℕ, ◌<◌, true, false, length, Option, Some, None}
use Rattle.std.specs.List.{AllByRecursion}
use Rattle.nm_model.specs.Certificate.{is_done}
use Rattle.nm_model.specs.Promise.{Promising}
use Rattle.nm_sim.specs.Network.{net_of}
use Rattle.nm_book.specs.Book.{BookValue, is_incoming, is_outgoing, null_on, replica_of, sent_over}
use Rattle.nm_book.specs.declared.message.Null.{Null as NullMessage}
use Rattle.nm_frames.specs.declared.side.ChannelIn.{ChannelIn}
use Rattle.nm_frames.specs.declared.side.ChannelOut.{ChannelOut}
use Rattle.nm_frames.specs.Owed.{promising_of}
use Rattle.nm_frames.specs.Session.{SessionValue, is_there}

-- the peer was asked for what is not held of this channel, if it comes in
abbrev pub HasAsked : BookValue → ChannelIn → Type 0
HasAsked b i = is_incoming b i.channel ≡ true → i.have_given ≡ true

-- the last null message had the same fields
abbrev pub HasSaid : Option NullMessage → NullMessage → Type 0
HasSaid last null =
    (said : NullMessage) × (last ≡ Some said) × (said.count ≡ null.count)
    × (said.clock ≡ null.clock)

-- All messages of this channel were given, and the promise of the moment, to a peer that held n of
-- them; a peer whose count is greater waits.
abbrev pub HasToldFrom : BookValue → Promising → ChannelOut → ℕ → Type 0
HasToldFrom b kind o n =
    (length (sent_over b o.channel) < n)
    ⊎ ((n ≡ length (sent_over b o.channel)) × HasSaid o.last_null (null_on kind b o.channel))

-- the same once the peer's count has come
abbrev pub HasTold : BookValue → Promising → ChannelOut → Type 0
HasTold b kind o =
    is_outgoing b o.channel ≡ true → (n : ℕ) → o.cursor ≡ Some n → HasToldFrom b kind o n

-- the peer's count has come, and all was sent
pub record IsAllTold (b : BookValue) (kind : Promising) (o : ChannelOut) : Type 0 where
  pub goes_out : is_outgoing b o.channel ≡ true
  pub all : o.cursor ≡ Some (length (sent_over b o.channel))
  pub promise : HasSaid o.last_null (null_on kind b o.channel)

-- all that a session is to send of a book
module _ (s : SessionValue) (b : BookValue) where
  -- what there is to send is sent
  pub record IsSilent : Type 0 where
    -- it has sent Hello
    pub greeted : is_there s.hello_given ≡ true
    -- has asked for each channel that comes in
    pub asked : AllByRecursion (HasAsked b) s.incoming
    -- and has sent all of each channel for which the peer has asked, its last promise too
    pub told : AllByRecursion (HasTold b (promising_of s)) s.outgoing
    -- the book has something left to do, or the peer has not asked for some channel
    pub goes_on : is_done (net_of b.topology) b.partition (replica_of b) ≡ true
        → AllByRecursion (IsAllTold b (promising_of s)) s.outgoing → ⊥

  -- nothing is left, and it may leave
  pub record MayLeave : Type 0 where
    -- it has not left before
    pub first : s.bye_given ≡ false
    -- the book has nothing left to do
    pub done : is_done (net_of b.topology) b.partition (replica_of b) ≡ true
    -- each channel was asked for
    pub asked : AllByRecursion (HasAsked b) s.incoming
    -- and sent, its last promise too
    pub told : AllByRecursion (IsAllTold b (promising_of s)) s.outgoing

-- the peer holds n messages of this channel, and no null message: all from there on is owed
abbrev pub IsOwedFrom : ℕ → ℕ → ChannelOut → Type 0
IsOwedFrom c n o = o.channel ≡ c → (o.cursor ≡ Some n) × (o.last_null ≡ None)

-- nothing of this channel was sent yet
abbrev pub IsUnasked : ChannelIn → Type 0
IsUnasked i = i.have_given ≡ false

abbrev pub IsUntold : ChannelOut → Type 0
IsUntold o = (o.cursor ≡ None) × (o.last_null ≡ None)
