-- One turn after another.
use Rattle.std.proofs.Common.{◌≡◌, ℕ, ◌+◌, ◌&&◌, nat_lt, Bool, true, false, List, [], ◌∷◌, ◌++◌, length, map, Option, Some, None, Ok, Err, if◌then◌else◌, refl, sym, ◌∙◌, ap, ◌⊎◌, inl, inr, subst, append_assoc, append-nil, true≢false}
use Rattle.std.proofs.lemmas.Grind.{flat_map-append}
use Rattle.nm_base.specs.Wire.{WireSeen}
use Rattle.nm_model.proofs.ListLemmas.{not_some}
use Rattle.nm_frames.specs.declared.frame.Frame.{Frame}
use Rattle.nm_frames.specs.declared.frame.Frame.TheVariants.{Hello, Have, Data, Null, Bye}
use Rattle.nm_frames.specs.declared.session_fault.SessionFault.TheVariants.{Peer}
use Rattle.nm_frames.specs.Channels.{channels_between}
use Rattle.nm_frames.specs.Frame.{frame_octets, stream_octets}
use Rattle.nm_frames.specs.Lives.{SessionStep, Took, Gave, Broke, AreConsecutive, HasCursor, due_after, Lives as SessionLives}
use Rattle.nm_frames.specs.Owed.{after_giving, owed}
use Rattle.nm_frames.specs.Session.{SessionValue, new_outgoing, taken}
use Rattle.nm_frames.proofs.Consecutive.{from_cursor}
use Rattle.nm_shared.specs.Counted.{PassCounts}
use Rattle.nm_engine.specs.declared.answer.Turn.{Turn}
use Rattle.nm_engine.specs.declared.answer.Turn.TheVariants.{Progress, Idle, Ended, Broken, Failed}
use Rattle.nm_engine.specs.Acceptor.{AcceptorValue, session_with, taken_at}
use Rattle.nm_engine.specs.Link.{LinkValue}
use Rattle.nm_engine.specs.Lives.{LinkLives, frames_in, frames_out}
use Rattle.nm_engine.specs.Many.{Accounts, GoesOn, HasDue}
use Rattle.nm_engine.specs.Passes.{ByPass, LinkState, Owner, anyone, at, none_counted}
use Rattle.nm_engine.specs.Turn.{Heard, Hears, Moves, Says, Turns, Went}
use Rattle.nm_engine.proofs.Passes.{uncounted}
use Rattle.nm_engine.proofs.Steps.{lives_append}

-- octets in two parts, and the frames of both
join_in : (a x y b c : List ℕ) (f g : List Frame) → a ++ x ≡ stream_octets f ++ b → b ++ y ≡ stream_octets g ++ c → a ++ (x ++ y) ≡ stream_octets (f ++ g) ++ c
join_in a x y b c f g one two =
    sym (append_assoc a x y) ∙ ap (λ l. l ++ y) one ∙ append_assoc (stream_octets f) b y ∙ ap (λ l. stream_octets f ++ l) two
    ∙ sym (append_assoc (stream_octets f) (stream_octets g) c) ∙ ap (λ l. l ++ c) (sym (flat_map-append frame_octets f g))

join_out : (x y a b c : List ℕ) (f g : List Frame) → x ++ b ≡ a ++ stream_octets f → y ++ c ≡ b ++ stream_octets g → (x ++ y) ++ c ≡ a ++ stream_octets (f ++ g)
join_out x y a b c f g one two =
    append_assoc x y c ∙ ap (λ l. x ++ l) two ∙ sym (append_assoc x b (stream_octets g)) ∙ ap (λ l. l ++ stream_octets g) one
    ∙ append_assoc a (stream_octets f) (stream_octets g) ∙ ap (λ l. a ++ l) (sym (flat_map-append frame_octets f g))

-- the frames of steps, one after another
in-append : (a b : List SessionStep) → frames_in (a ++ b) ≡ frames_in a ++ frames_in b
in-append [] b = refl
in-append (Took f ∷ a) b = ap (λ l. f ∷ l) (in-append a b)
in-append (Gave f ∷ a) b = in-append a b
in-append (Broke ∷ a) b = in-append a b

out-append : (a b : List SessionStep) → frames_out (a ++ b) ≡ frames_out a ++ frames_out b
out-append [] b = refl
out-append (Took f ∷ a) b = out-append a b
out-append (Gave f ∷ a) b = ap (λ l. f ∷ l) (out-append a b)
out-append (Broke ∷ a) b = out-append a b

in-took : (fs : List Frame) → frames_in (map Took fs) ≡ fs
in-took [] = refl
in-took (f ∷ fs) = ap (λ l. f ∷ l) (in-took fs)

in-gave : (fs : List Frame) → frames_in (map Gave fs) ≡ []
in-gave [] = refl
in-gave (f ∷ fs) = in-gave fs

out-took : (fs : List Frame) → frames_out (map Took fs) ≡ []
out-took [] = refl
out-took (f ∷ fs) = out-took fs

out-gave : (fs : List Frame) → frames_out (map Gave fs) ≡ fs
out-gave [] = refl
out-gave (f ∷ fs) = ap (λ l. f ∷ l) (out-gave fs)

some_same : (s m : SessionValue) → Some s ≡ Some m → s ≡ m
some_same s m e = cc

-- the steps of a turn
abbrev turn_steps : List Frame → List Frame → List SessionStep
turn_steps ins outs = map Took ins ++ map Gave outs

turn_in : (ins outs : List Frame) → frames_in (turn_steps ins outs) ≡ ins
turn_in ins outs = in-append (map Took ins) (map Gave outs) ∙ ap (λ l. frames_in (map Took ins) ++ l) (in-gave outs) ∙ append-nil (frames_in (map Took ins)) ∙ in-took ins

turn_out : (ins outs : List Frame) → frames_out (turn_steps ins outs) ≡ outs
turn_out ins outs = out-append (map Took ins) (map Gave outs) ∙ ap (λ l. l ++ frames_out (map Gave outs)) (out-took ins) ∙ out-gave outs

module _ {W : Type 0} (seen : W → WireSeen) where
  -- one turn's account
  of_moves : (by : ByPass) (old new : LinkValue W) (rest left : List ℕ) → Moves seen by old new rest left → (new.failed ≡ false → (rest ≡ new.rest) × (left ≡ new.out)) → Accounts seen old new
  of_moves by old new rest left m whole = record {
    steps = turn_steps m.ins m.outs;
    came = m.came;
    went = m.went;
    rest = rest;
    left = left;
    came_in = m.came_in;
    framed = m.framed ∙ ap (λ fs. stream_octets fs ++ rest) (sym (turn_in m.ins m.outs));
    lived =
        uncounted by.owner old.acceptor (at old.session by.before) (at new.session by.after) (turn_steps m.ins m.outs)
        (lives_append by.owner old.acceptor (at old.session by.before) m.mid (at new.session by.after) (map Took m.ins) (map Gave m.outs) m.took m.gave);
    went_out = m.went_out;
    sent = m.sent ∙ ap (λ fs. old.out ++ stream_octets fs) (sym (turn_out m.ins m.outs));
    acceptor = m.acceptor;
    whole = whole;
  }

  of_none : (old : LinkValue W) → Accounts seen old old
  of_none old = record {
    steps = [];
    came = [];
    went = [];
    rest = old.rest;
    left = old.out;
    came_in = sym (append-nil (seen old.wire).given);
    framed = append-nil old.rest;
    lived = refl;
    went_out = sym (append-nil (seen old.wire).taken);
    sent = sym (append-nil old.out);
    acceptor = refl;
    whole = λ e. (refl, refl);
  }

  -- a turn after which the link has not failed, and then others
  of_both : (first mid last : LinkValue W) → mid.failed ≡ false → Accounts seen first mid → Accounts seen mid last → Accounts seen first last
  of_both first mid last fine a b =
      let held = a.whole fine in
      record {
        steps = a.steps ++ b.steps;
        came = a.came ++ b.came;
        went = a.went ++ b.went;
        rest = b.rest;
        left = b.left;
        came_in = b.came_in ∙ ap (λ l. l ++ b.came) a.came_in ∙ append_assoc (seen first.wire).given a.came b.came;
        framed =
            join_in first.rest a.came b.came mid.rest b.rest (frames_in a.steps) (frames_in b.steps) (a.framed ∙ ap (λ l. stream_octets (frames_in a.steps) ++ l) held.0) b.framed
            ∙ ap (λ fs. stream_octets fs ++ b.rest) (sym (in-append a.steps b.steps));
        lived =
            lives_append anyone first.acceptor (at first.session none_counted) (at mid.session none_counted) (at last.session none_counted) a.steps b.steps a.lived
            (subst (λ (h : Option AcceptorValue). LinkLives anyone h (at mid.session none_counted) b.steps (at last.session none_counted)) a.acceptor b.lived);
        went_out = b.went_out ∙ ap (λ l. l ++ b.went) a.went_out ∙ append_assoc (seen first.wire).taken a.went b.went;
        sent =
            join_out a.went b.went first.out mid.out b.left (frames_out a.steps) (frames_out b.steps) (ap (λ l. a.went ++ l) (sym held.1) ∙ a.sent) b.sent
            ∙ ap (λ fs. first.out ++ stream_octets fs) (sym (out-append a.steps b.steps));
        acceptor = b.acceptor ∙ a.acceptor;
        whole = b.whole;
      }

  -- a turn, or half of one, that went well in some way, broke, or found that the link had failed
  module _ (by : ByPass) (old new : LinkValue W) (Well : Type 0) (moved : Well → ℕ) (moves : Well → Moves seen by old new new.rest new.out) (whole : Well → new.failed ≡ false) where
    -- a link that has failed stays as it is
    stays_by : (turn : Turn) → old.failed ≡ true → Says seen by old new Well moved turn → new ≡ old
    stays_by Progress over t = absurd (true≢false (sym over ∙ (moves t.0).was_whole))
    stays_by Idle over t = absurd (true≢false (sym over ∙ (moves t.0).was_whole))
    stays_by Ended over t = absurd (true≢false (sym over ∙ (moves t.0).was_whole))
    stays_by (Broken cause) over t = absurd (true≢false (sym over ∙ t.moves.was_whole))
    stays_by Failed over t = t.1

    of_well : Well → Accounts seen old new × ((new.failed ≡ false) ⊎ (new.failed ≡ true))
    of_well w = (of_moves by old new new.rest new.out (moves w) (λ e. (refl, refl)), inl (whole w))

    of_answer : (turn : Turn) → Says seen by old new Well moved turn → Accounts seen old new × ((new.failed ≡ false) ⊎ (new.failed ≡ true))
    of_answer Progress t = of_well t.0
    of_answer Idle t = of_well t.0
    of_answer Ended t = of_well t.0
    of_answer (Broken cause) t = (of_moves by old new t.rest t.left t.moves (λ e. absurd (true≢false (sym t.over ∙ e))), inr t.over)
    of_answer Failed t = (subst (λ (x : LinkValue W). Accounts seen old x) (sym t.1) (of_none old), inr (ap (λ (l : LinkValue W). l.failed) t.1 ∙ t.0))

  stays : (by : ByPass) (turn : Turn) (old new : LinkValue W) → old.failed ≡ true → Turns seen by old new turn ⊎ Hears seen by old new turn → new ≡ old
  stays by turn old new over (inl t) =
      stays_by by old new (Went seen by old new) (λ w. length w.moves.came + length w.moves.went) (λ w. w.moves) (λ w. w.whole) turn over t
  stays by turn old new over (inr t) = stays_by by old new (Heard seen by old new) (λ h. length h.moves.came) (λ h. h.moves) (λ h. h.whole) turn over t

  stays_failed : (path : List (Turn × LinkValue W)) (old new : LinkValue W) → old.failed ≡ true → GoesOn seen old path new → new ≡ old
  stays_failed [] old new over g = g
  stays_failed (p ∷ path) old new over g =
      let same = stays g.0 p.0 old p.1 over g.1 in
      stays_failed path p.1 new (ap (λ (l : LinkValue W). l.failed) same ∙ over) g.2 ∙ same

  of_step : (by : ByPass) (turn : Turn) (old new : LinkValue W) → Turns seen by old new turn ⊎ Hears seen by old new turn → Accounts seen old new × ((new.failed ≡ false) ⊎ (new.failed ≡ true))
  of_step by turn old new (inl t) =
      of_answer by old new (Went seen by old new) (λ w. length w.moves.came + length w.moves.went) (λ w. w.moves) (λ w. w.whole) turn t
  of_step by turn old new (inr t) = of_answer by old new (Heard seen by old new) (λ h. length h.moves.came) (λ h. h.moves) (λ h. h.whole) turn t

  go_on : (path : List (Turn × LinkValue W)) (first mid last : LinkValue W) → Accounts seen first mid × ((mid.failed ≡ false) ⊎ (mid.failed ≡ true)) → GoesOn seen mid path last → Accounts seen mid last → Accounts seen first last
  go_on path first mid last (a, inl fine) g rest = of_both first mid last fine a rest
  go_on path first mid last (a, inr over) g rest = subst (λ (x : LinkValue W). Accounts seen first x) (sym (stays_failed path mid last over g)) a

  pub accounts : (path : List (Turn × LinkValue W)) (first last : LinkValue W) → GoesOn seen first path last → Accounts seen first last
  accounts [] first last e = subst (λ (x : LinkValue W). Accounts seen first x) (sym e) (of_none first)
  accounts (p ∷ path) first last g = go_on path first p.1 last (of_step g.0 p.0 first p.1 g.1) g.2 (accounts path p.1 last g.2)

-- ---- the numbers of messages
session_lives : (o : Owner) (h : Option AcceptorValue) (steps : List SessionStep) (s : SessionValue) (k : PassCounts) (y : LinkState) → LinkLives o h (at (Some s) k) steps y → (u : SessionValue) × (y.session ≡ Some u) × SessionLives s steps u
session_lives o h [] s k y lives = (s, ap (λ (z : LinkState). z.session) lives, refl)
session_lives o h (Took f ∷ r) s k y lives = let more = session_lives o h r lives.0 lives.1 y lives.5 in (more.0, more.1, (lives.0, lives.2, more.2))
session_lives o h (Gave f ∷ r) s k y lives =
    let same : s ≡ lives.0 = some_same s lives.0 lives.2 in
    let owes : owed s lives.1 ≡ Some f = ap (λ (x : SessionValue). owed x lives.1) same ∙ lives.3 in
    let after = subst (λ (x : SessionValue). LinkLives o h (at (Some (after_giving x f)) k) r y) (sym same) lives.6 in
    let more = session_lives o h r (after_giving s f) k y after in (more.0, more.1, (lives.1, owes, more.2))
session_lives o h (Broke ∷ r) s k y lives = absurd lives

none_yet : (c : ℕ) (ds : List ℕ) → HasCursor c None (map new_outgoing ds)
none_yet c [] = tt
none_yet c (d ∷ ds) = (λ e. refl, none_yet c ds)

of_session : (o : Owner) (h : Option AcceptorValue) (s : SessionValue) (k : PassCounts) (y : LinkState) (steps : List SessionStep) (c : ℕ) (due : Option ℕ) → HasCursor c due s.outgoing → LinkLives o h (at (Some s) k) steps y
    → AreConsecutive c due steps × HasDue c (due_after c due steps) y.session
of_session o h s k y steps c due cursor lives =
    let l = session_lives o h steps s k y lives in
    let n = from_cursor s l.0 steps c due cursor l.2 in
    (n.0, subst (λ (x : Option SessionValue). HasDue c (due_after c due steps) x) (sym l.1) n.1)

-- the first frame makes the session: it is a new one that takes this frame
made_by : (b : Bool) (h : AcceptorValue) (p : ℕ) (f : Frame) (m : SessionValue) → (if b then taken (session_with h p) f else Err Peer) ≡ Ok m → taken (session_with h p) f ≡ Ok m
made_by true h p f m e = e
made_by false h p f m e = cc

first_made : (h : Option AcceptorValue) (f : Frame) (m : SessionValue) → taken_at h None f ≡ Ok m → (n : AcceptorValue) × (p : ℕ) × (taken (session_with n p) f ≡ Ok m)
first_made None f m e = cc
first_made (Some h) (Hello x) m e = (h, x.partition, made_by (nat_lt x.partition h.me && nat_lt 0 (length (channels_between h.topology x.partition h.me))) h x.partition (Hello x) m e)
first_made (Some h) (Have x) m e = cc
first_made (Some h) (Data x) m e = cc
first_made (Some h) (Null x) m e = cc
first_made (Some h) Bye m e = cc

of_state : (o : Owner) (h : Option AcceptorValue) (s : Option SessionValue) (k : PassCounts) (y : LinkState) (steps : List SessionStep) (c : ℕ) (due : Option ℕ) → HasDue c due s → LinkLives o h (at s k) steps y
    → AreConsecutive c due steps × HasDue c (due_after c due steps) y.session
of_state o h (Some s) k y steps c due cursor lives = of_session o h s k y steps c due cursor lives
of_state o h None k y [] c due none lives = (tt, subst (λ (z : LinkState). HasDue c due z.session) (sym lives) none)
of_state o h None k y (Took f ∷ r) c due none lives =
    let made = first_made h f lives.0 lives.2 in
    let more = session_lives o h r lives.0 lives.1 y lives.5 in
    let n = from_cursor (session_with made.0 made.1) more.0 (Took f ∷ r) c None (none_yet c (channels_between made.0.topology made.0.me made.1)) (lives.0, made.2, more.2) in
    subst (λ (x : Option ℕ). AreConsecutive c x (Took f ∷ r) × HasDue c (due_after c x (Took f ∷ r)) y.session) (sym none)
    (n.0, subst (λ (x : Option SessionValue). HasDue c (due_after c None (Took f ∷ r)) x) (sym more.1) n.1)
of_state o h None k y (Gave f ∷ r) c due none lives = absurd (not_some lives.0 lives.2)
of_state o h None k y (Broke ∷ r) c due none lives = absurd lives

pub numbers : (o : Owner) (h : Option AcceptorValue) (x y : LinkState) (steps : List SessionStep) (c : ℕ) (due : Option ℕ) → HasDue c due x.session → LinkLives o h x steps y → AreConsecutive c due steps × HasDue c (due_after c due steps) y.session
numbers o h x y steps c due = of_state o h x.session x.counts y steps c due
