-- What is given on a channel has the number that is due.
use Rattle.std.proofs.Common.{◌≡◌, ℕ, ◌+◌, Bool, true, false, not, ◌==◌, ◌&&◌, ◌||◌, nat_lt, nat_eq, List, [], ◌∷◌, length, map, Option, Some, None, Result, Ok, Err, if◌then◌else◌, refl, sym, subst, ◌∙◌, arith}
use Rattle.std.proofs.lemmas.Bool.Decides.{nat_tests}
use Rattle.std.specs.List.{AllByRecursion, list_all}
use Rattle.std.specs.Option.{option_map}
use Rattle.std.specs.Cmp.Lexicographic.{pointwise}
use Rattle.nm_model.specs.Certificate.{is_done}
use Rattle.nm_model.specs.Join.{or_else}
use Rattle.nm_model.specs.Lists.{nth}
use Rattle.nm_model.specs.Promise.{Promising}
use Rattle.nm_sim.specs.Network.{net_of}
use Rattle.nm_topology.specs.TopologyValue.{TopologyValue}
use Rattle.nm_book.specs.Book.{BookValue, data_from, is_incoming, is_outgoing, null_on, replica_of, sent_over}
use Rattle.nm_book.specs.declared.message.Null.{Null as NullMessage}
use Rattle.nm_frames.specs.declared.frame.Frame.{Frame}
use Rattle.nm_frames.specs.declared.frame.Frame.TheVariants.{Hello, Have, Data, Null, Bye}
use Rattle.nm_frames.specs.declared.session_fault.SessionFault.{SessionFault}
use Rattle.nm_frames.specs.declared.session_fault.SessionFault.TheVariants.{Order, Topology, Peer, Channel}
use Rattle.nm_frames.specs.declared.side.ChannelIn.{ChannelIn}
use Rattle.nm_frames.specs.declared.side.ChannelOut.{ChannelOut}
use Rattle.nm_frames.specs.declared.version.Version.{Version}
use Rattle.nm_frames.specs.Channels.{channels_between}
use Rattle.nm_frames.specs.Frame.{have_frame}
use Rattle.nm_frames.specs.Owed.{bye_owed, after_giving, have_owed, held_on, hello_of, is_last, is_told, message_owed, moved_to, null_owed, owed, owed_at, promising_of, with_null}
use Rattle.nm_frames.specs.Session.{SessionValue, with_channel, broken, comes_from_peer, goes_to_peer, greeted, is_there, new_outgoing, new_session, restarted, taken, taken_first, taken_later}
use Rattle.nm_frames.specs.Version.{version_of}
use Rattle.nm_frames.specs.Lives.{SessionStep, Took, Gave, Broke, Lives, due_taken, due_given, IsDue, AreConsecutive, HasCursor, due_after}

-- the cursor of the channel is what is due
abbrev pub At : ℕ → Option ℕ → ChannelOut → Type 0
At c due o = o.channel ≡ c → o.cursor ≡ due

abbrev pub AllAt : ℕ → Option ℕ → List ChannelOut → Type 0
AllAt c due os = AllByRecursion (At c due) os

-- each changed as a whole
changed : (c : ℕ) (due new : Option ℕ) (f : ChannelOut → ChannelOut) → ((o : ChannelOut) → At c due o → At c new (f o)) → (os : List ChannelOut) → AllAt c due os → AllAt c new (map f os)
changed c due new f step [] all = tt
changed c due new f step (o ∷ os) all = (step o all.0, changed c due new f step os all.1)

same_channel : (d c : ℕ) → (d == c) ≡ true → d ≡ c
same_channel d c e = grind (arith, nat_tests, e)

other_channel : (d c : ℕ) → (d == c) ≡ false → d ≡ c → ⊥
other_channel d c e h = grind (arith, nat_tests, e, h)

-- a cursor is set on channel d: what is then due on channel c
set_at : (c d n : ℕ) (due : Option ℕ) (change : ChannelOut → ChannelOut) → ((o : ChannelOut) → (change o).channel ≡ o.channel) → ((o : ChannelOut) → (change o).cursor ≡ Some n) → (o : ChannelOut) → At c due o → At c (if d == c then Some n else due) (with_channel d change o)
set_at c d n due change channel cursor o at = by_tests (o.channel == d) refl (d == c) refl
  where
    by_tests : (a : Bool) → (o.channel == d) ≡ a → (b : Bool) → (d == c) ≡ b → At c (if d == c then Some n else due) (with_channel d change o)
    by_tests true ea true eb = rw (ea, eb) (λ h. cursor o)
    by_tests true ea false eb = rw (ea, eb) (λ h. absurd (other_channel d c eb (sym (same_channel o.channel d ea) ∙ sym (channel o) ∙ h)))
    by_tests false ea true eb = rw (ea, eb) (λ h. absurd (other_channel o.channel d ea (h ∙ sym (same_channel d c eb))))
    by_tests false ea false eb = rw (ea, eb) at

keeps_at : (c d : ℕ) (due : Option ℕ) (change : ChannelOut → ChannelOut) → ((o : ChannelOut) → (change o).channel ≡ o.channel) → ((o : ChannelOut) → (change o).cursor ≡ o.cursor) → (o : ChannelOut) → At c due o → At c due (with_channel d change o)
keeps_at c d due change channel cursor o at = by_test (o.channel == d)
  where
    by_test : (a : Bool) → At c due (if a then change o else o)
    by_test true = λ h. cursor o ∙ at (sym (channel o) ∙ h)
    by_test false = at

-- ---- what is owed
abbrev Due : ℕ → Option ℕ → Option Frame → Type 0
Due c due None = Unit {0}
Due c due (Some f) = IsDue c due f

module _ (c : ℕ) (due : Option ℕ) where
  if_due : (t : Bool) (x y : Option Frame) → Due c due x → Due c due y → Due c due (if t then x else y)
  if_due true x y dx dy = dx
  if_due false x y dx dy = dy

  or_due : (x y : Option Frame) → Due c due x → Due c due y → Due c due (or_else x y)
  or_due None y dx dy = dy
  or_due (Some f) y dx dy = dx

  data_due : (d n : ℕ) (m : Option (ℕ × List ℕ)) → (d ≡ c → due ≡ Some n) → Due c due (option_map Data (data_from d n m))
  data_due d n None at = tt
  data_due d n (Some m) at = at

  null_due : (last : Option NullMessage) (null : NullMessage) → Due c due (null_owed last null)
  null_due last null = if_due (is_last last null) None (Some (Null null)) tt tt

  at_due : (b : BookValue) (kind : Promising) (o : ChannelOut) (k : Option ℕ) → o.cursor ≡ k → At c due o → Due c due (owed_at b kind o k)
  at_due b kind o None e at = tt
  at_due b kind o (Some n) e at =
      let sent = sent_over b o.channel in
      let null = null_on kind b o.channel in
      if_due (nat_lt n (length sent)) (option_map Data (data_from o.channel n (nth sent n))) (if n == length sent then null_owed o.last_null null else None)
      (data_due o.channel n (nth sent n) (λ h. sym (at h) ∙ e))
      (if_due (n == length sent) (null_owed o.last_null null) None (null_due o.last_null null) tt)

  message_due : (b : BookValue) (kind : Promising) (os : List ChannelOut) → AllAt c due os → Due c due (message_owed b kind os)
  message_due b kind [] all = tt
  message_due b kind (o ∷ os) all =
      or_due (if is_outgoing b o.channel then owed_at b kind o o.cursor else None) (message_owed b kind os)
      (if_due (is_outgoing b o.channel) (owed_at b kind o o.cursor) None (at_due b kind o o.cursor refl all.0) tt) (message_due b kind os all.1)

  have_due : (b : BookValue) (is : List ChannelIn) → Due c due (have_owed b is)
  have_due b [] = tt
  have_due b (i ∷ is) = if_due (i.have_given || not (is_incoming b i.channel)) (have_owed b is) (Some (have_frame i.channel (held_on b i.channel))) (have_due b is) tt

  bye_due : (b : BookValue) (kind : Promising) (os : List ChannelOut) → Due c due (bye_owed b kind os)
  bye_due b kind os = if_due (is_done (net_of b.topology) b.partition (replica_of b) && list_all (λ o. is_told b kind o) os) (Some Bye) None tt tt

  owed_due : (s : SessionValue) (b : BookValue) (f : Frame) → AllAt c due s.outgoing → owed s b ≡ Some f → IsDue c due f
  owed_due s b f all h =
      let kind = promising_of s in
      let last = or_else (message_owed b kind s.outgoing) (bye_owed b kind s.outgoing) in
      let rest = or_else (have_owed b s.incoming) last in
      let told : Due c due last = or_due (message_owed b kind s.outgoing) (bye_owed b kind s.outgoing) (message_due b kind s.outgoing all) (bye_due b kind s.outgoing) in
      let more : Due c due rest = or_due (have_owed b s.incoming) last (have_due b s.incoming) told in
      let first = if_due (not (is_there s.hello_given)) (Some (hello_of s)) rest tt more in
      subst (λ (x : Option Frame). Due c due x) h (if_due s.bye_given None (if not (is_there s.hello_given) then Some (hello_of s) else rest) tt first)

given_due : (s : SessionValue) (c : ℕ) (due : Option ℕ) (f : Frame) → AllAt c due s.outgoing → AllAt c (due_given c due f) (after_giving s f).outgoing
given_due s c due (Hello h) all = all
given_due s c due (Have h) all = all
given_due s c due (Data d) all = changed c due (if d.channel == c then Some (d.number + 1) else due) (with_channel d.channel (moved_to (d.number + 1))) (set_at c d.channel (d.number + 1) due (moved_to (d.number + 1)) (λ o. refl) (λ o. refl)) s.outgoing all
given_due s c due (Null n) all = changed c due due (with_channel n.channel (with_null n)) (keeps_at c n.channel due (with_null n) (λ o. refl) (λ o. refl)) s.outgoing all
given_due s c due Bye all = all

-- ---- what is taken
abbrev Still : ℕ → Option ℕ → Result SessionValue SessionFault → Type 0
Still c due (Ok m) = AllAt c due m.outgoing
Still c due (Err e) = Unit {0}

if_still : (c : ℕ) (due : Option ℕ) (t : Bool) (x y : Result SessionValue SessionFault) → Still c due x → Still c due y → Still c due (if t then x else y)
if_still c due true x y sx sy = sx
if_still c due false x y sx sy = sy

later_still : (s : SessionValue) (c : ℕ) (due : Option ℕ) (f : Frame) → AllAt c due s.outgoing → Still c (due_taken c due f) (taken_later s f)
later_still s c due (Hello h) all = tt
later_still s c due (Have h) all = if_still c (if h.channel == c then Some h.count else due) (goes_to_peer s h.channel) (Ok (record s { outgoing = map (with_channel h.channel (restarted h.count)) s.outgoing })) (Err Channel) (changed c due (if h.channel == c then Some h.count else due) (with_channel h.channel (restarted h.count)) (set_at c h.channel h.count due (restarted h.count) (λ o. refl) (λ o. refl)) s.outgoing all) tt
later_still s c due (Data d) all = if_still c due (comes_from_peer s d.channel) (Ok s) (Err Channel) all tt
later_still s c due (Null n) all = if_still c due (comes_from_peer s n.channel) (Ok s) (Err Channel) all tt
later_still s c due Bye all = all

greeted_still : (s : SessionValue) (c : ℕ) (due : Option ℕ) (o : Option Version) (p r : ℕ) (d : List ℕ) → AllAt c due s.outgoing → Still c due (greeted s o p r d)
greeted_still s c due None p r d all = tt
greeted_still s c due (Some v) p r d all =
    let good : Result SessionValue SessionFault = Ok (record s { hello_taken = Some v; peer_replica = Some r }) in
    let peer = if_still c due (not (p == s.peer) || nat_lt 1 r) (Err Peer) good tt all in
    if_still c due (not (pointwise nat_eq d s.digest)) (Err Topology) (if not (p == s.peer) || nat_lt 1 r then Err Peer else good) tt peer

first_still : (s : SessionValue) (c : ℕ) (due : Option ℕ) (f : Frame) → AllAt c due s.outgoing → Still c (due_taken c due f) (taken_first s f)
first_still s c due (Hello h) all = greeted_still s c due (version_of h.version) h.partition h.replica h.digest all
first_still s c due (Have h) all = tt
first_still s c due (Data d) all = tt
first_still s c due (Null n) all = tt
first_still s c due Bye all = tt

taken_due : (s m : SessionValue) (c : ℕ) (due : Option ℕ) (f : Frame) → AllAt c due s.outgoing → taken s f ≡ Ok m → AllAt c (due_taken c due f) m.outgoing
taken_due s m c due f all h =
    let e = due_taken c due f in
    let rest = if_still c e (is_there s.hello_taken) (taken_later s f) (taken_first s f) (later_still s c due f all) (first_still s c due f all) in
    subst (λ (x : Result SessionValue SessionFault). Still c e x) h (if_still c e s.bye_taken (Err Order) (if is_there s.hello_taken then taken_later s f else taken_first s f) tt rest)

forgets : (c : ℕ) (os : List ChannelOut) → AllAt c None (map (λ o. new_outgoing o.channel) os)
forgets c [] = tt
forgets c (o ∷ os) = (λ e. refl, forgets c os)

none_yet : (c : ℕ) (ds : List ℕ) → AllAt c None (map new_outgoing ds)
none_yet c [] = tt
none_yet c (d ∷ ds) = (λ e. refl, none_yet c ds)

lives_due : (steps : List SessionStep) (s t : SessionValue) (c : ℕ) (due : Option ℕ) → AllAt c due s.outgoing → Lives s steps t → AreConsecutive c due steps
lives_due [] s t c due all lives = tt
lives_due (Took f ∷ r) s t c due all lives = lives_due r lives.0 t c (due_taken c due f) (taken_due s lives.0 c due f all lives.1) lives.2
lives_due (Gave f ∷ r) s t c due all lives = (owed_due c due s lives.0 f all lives.1, lives_due r (after_giving s f) t c (due_given c due f) (given_due s c due f all) lives.2)
lives_due (Broke ∷ r) s t c due all lives = lives_due r (broken s) t c None (forgets c s.outgoing) lives

lives_cursor : (steps : List SessionStep) (s t : SessionValue) (c : ℕ) (due : Option ℕ) → AllAt c due s.outgoing → Lives s steps t → AllAt c (due_after c due steps) t.outgoing
lives_cursor [] s t c due all lives = subst (λ (x : SessionValue). AllAt c due x.outgoing) (sym lives) all
lives_cursor (Took f ∷ r) s t c due all lives = lives_cursor r lives.0 t c (due_taken c due f) (taken_due s lives.0 c due f all lives.1) lives.2
lives_cursor (Gave f ∷ r) s t c due all lives = lives_cursor r (after_giving s f) t c (due_given c due f) (given_due s c due f all) lives.2
lives_cursor (Broke ∷ r) s t c due all lives = lives_cursor r (broken s) t c None (forgets c s.outgoing) lives

pub from_cursor : (s t : SessionValue) (steps : List SessionStep) (c : ℕ) (due : Option ℕ) → HasCursor c due s.outgoing → Lives s steps t → AreConsecutive c due steps × HasCursor c (due_after c due steps) t.outgoing
from_cursor s t steps c due all lives = (lives_due steps s t c due all lives, lives_cursor steps s t c due all lives)

pub consecutive : (n : TopologyValue) (me replica peer : ℕ) (steps : List SessionStep) (t : SessionValue) (c : ℕ) → Lives (new_session n me replica peer) steps t → AreConsecutive c None steps
consecutive n me replica peer steps t c lives = lives_due steps (new_session n me replica peer) t c None (none_yet c (channels_between n me peer)) lives
