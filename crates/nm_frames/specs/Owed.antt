-- What a session gives next: a rule each, the first that gives something.
use Rattle.std.specs.Prelude.{ℕ, ◌+◌, ◌<◌, ◌^◌, Bool, true, false, not, ◌==◌, ◌&&◌, ◌||◌, nat_lt, List, [], ◌∷◌, length, map, slice_index_or, Option, Some, None, if◌then◌else◌}
use Rattle.std.specs.List.{list_all}
use Rattle.std.specs.Option.{option_map}
use Rattle.nm_model.specs.Certificate.{is_done}
use Rattle.nm_model.specs.Join.{or_else}
use Rattle.nm_model.specs.Knowledge.{nothing_known}
use Rattle.nm_model.specs.Lists.{nth}
use Rattle.nm_model.specs.Promise.{Promising}
use Rattle.nm_sim.specs.Network.{net_of}
use Rattle.nm_book.specs.Book.{BookValue, data_from, is_incoming, is_outgoing, null_on, replica_of, sent_over}
use Rattle.nm_book.specs.declared.message.Null.{Null as NullMessage}
use Rattle.nm_frames.specs.declared.frame.Frame.{Frame}
use Rattle.nm_frames.specs.declared.frame.Frame.TheVariants.{Hello, Have, Data, Null, Bye}
use Rattle.nm_frames.specs.declared.side.ChannelIn.{ChannelIn}
use Rattle.nm_frames.specs.declared.side.ChannelOut.{ChannelOut}
use Rattle.nm_frames.specs.declared.version.Version.TheVariants.{Two}
use Rattle.nm_frames.specs.Frame.{hello_frame, have_frame}
use Rattle.nm_frames.specs.Session.{SessionValue, with_channel, is_there, next_version, session_version}
use Rattle.nm_frames.specs.Version.{promising, version_number}

-- Hello
abbrev pub hello_of : SessionValue → Frame
hello_of s =
    hello_frame (version_number (next_version s.hello_taken s.offered)) s.me s.replica s.digest

-- how many messages of an incoming channel a book holds
abbrev pub held_on : BookValue → ℕ → ℕ
held_on b c = length (slice_index_or b.knows c nothing_known).list

-- Have for the first channel for which it was not given
abbrev pub have_owed : BookValue → List ChannelIn → Option Frame
have_owed b [] = None
have_owed b (i ∷ is) =
    if i.have_given || not (is_incoming b i.channel) then have_owed b is
    else Some (have_frame i.channel (held_on b i.channel))

-- whether the last null message had these fields
abbrev pub is_last : Option NullMessage → NullMessage → Bool
is_last None null = false
is_last (Some last) null = (last.count == null.count) && (last.clock == null.clock)

abbrev pub null_owed : Option NullMessage → NullMessage → Option Frame
null_owed last null = if is_last last null then None else Some (Null null)

-- of a channel the message at the cursor; once all were given, the null message, if it is not the
-- last one; a cursor past them waits
abbrev pub owed_at : BookValue → Promising → ChannelOut → Option ℕ → Option Frame
owed_at b kind o None = None
owed_at b kind o (Some n) =
    if nat_lt n (length (sent_over b o.channel))
    then option_map Data (data_from o.channel n (nth (sent_over b o.channel) n))
    else if n == length (sent_over b o.channel)
    then null_owed o.last_null (null_on kind b o.channel)
    else None

-- of the first channel that owes something
abbrev pub message_owed : BookValue → Promising → List ChannelOut → Option Frame
message_owed b kind [] = None
message_owed b kind (o ∷ os) =
    or_else (if is_outgoing b o.channel then owed_at b kind o o.cursor else None)
    (message_owed b kind os)

abbrev pub is_cursor : Option ℕ → ℕ → Bool
is_cursor None n = false
is_cursor (Some k) n = k == n

-- all messages of the channel were given, and its null message last
abbrev pub is_told : BookValue → Promising → ChannelOut → Bool
is_told b kind o =
    is_outgoing b o.channel && is_cursor o.cursor (length (sent_over b o.channel))
    && is_last o.last_null (null_on kind b o.channel)

-- Bye, once the book is done and all was sent
abbrev pub bye_owed : BookValue → Promising → List ChannelOut → Option Frame
bye_owed b kind os =
    if is_done (net_of b.topology) b.partition (replica_of b) && list_all (λ o. is_told b kind o) os
    then Some Bye else None

-- which promise its null messages carry
abbrev pub promising_of : SessionValue → Promising
promising_of s = promising (session_version s.hello_given s.hello_taken)

-- what is owed: nothing after Bye
abbrev pub owed : SessionValue → BookValue → Option Frame
owed s b =
    if s.bye_given then None
    else if not (is_there s.hello_given) then Some (hello_of s)
    else or_else (have_owed b s.incoming)
    (or_else (message_owed b (promising_of s) s.outgoing)
    (bye_owed b (promising_of s) s.outgoing))

-- ---- what counts as given

abbrev pub marked : ℕ → ChannelIn → ChannelIn
marked c i = if i.channel == c then record { channel = i.channel; have_given = true } else i

abbrev pub moved_to : ℕ → ChannelOut → ChannelOut
moved_to n o = record { channel = o.channel; cursor = Some n; last_null = o.last_null }

abbrev pub with_null : NullMessage → ChannelOut → ChannelOut
with_null null o = record { channel = o.channel; cursor = o.cursor; last_null = Some null }

-- a message whose number is not the last of 64 bits
abbrev pub HasNext : Frame → Type 0
HasNext (Hello h) = Unit {0}
HasNext (Have h) = Unit {0}
HasNext (Data d) = d.number + 1 < 2 ^ 64
HasNext (Null n) = Unit {0}
HasNext Bye = Unit {0}

abbrev pub MayHaveNext : Option Frame → Type 0
MayHaveNext None = Unit {0}
MayHaveNext (Some f) = HasNext f

-- the session after a frame is given
abbrev pub after_giving : SessionValue → Frame → SessionValue
after_giving s (Hello h) =
    record s { hello_given = Some (next_version s.hello_taken s.offered); offered = Two }
after_giving s (Have h) = record s { incoming = map (marked h.channel) s.incoming }
after_giving s (Data d) =
    record s { outgoing = map (with_channel d.channel (moved_to (d.number + 1))) s.outgoing }
after_giving s (Null n) =
    record s { outgoing = map (with_channel n.channel (with_null n)) s.outgoing }
after_giving s Bye = record s { bye_given = true }

abbrev pub given_maybe : SessionValue → Option Frame → SessionValue
given_maybe s None = s
given_maybe s (Some f) = after_giving s f
