-- A turn from its parts.
use Rattle.std.proofs.Common.{◌≡◌, ℕ, ◌+◌, ◌≤◌, Bool, true, false, nat_lt, if◌then◌else◌, List, [], ◌∷◌, ◌++◌, length, map, Option, Result, Ok, Err, ◌⊎◌, inl, inr, refl, sym, ◌∙◌, ap, subst, append_assoc, append-nil, arith}
use Rattle.std.proofs.lemmas.Bool.{false≢true}
use Rattle.std.specs.List.{AllByRecursion}
use Rattle.std.proofs.lemmas.Bool.Decides.{nat_tests}
use Rattle.std.proofs.lemmas.Grind.{flat_map-append}
use Rattle.nm_base.specs.Wire.{WireSeen}
use Rattle.nm_frames.specs.declared.frame.Frame.{Frame}
use Rattle.nm_frames.specs.Frame.{IsFrame, frame_octets, stream_octets}
use Rattle.nm_frames.specs.Lives.{Took, Gave}
use Rattle.nm_frames.specs.Session.{SessionValue}
use Rattle.nm_engine.specs.declared.answer.Cause.{Cause}
use Rattle.nm_engine.specs.declared.answer.Cause.TheVariants.{End, Fault, Frame as BadFrame, Session as BadSession, Book, Memory}
use Rattle.nm_engine.specs.declared.answer.Turn.TheVariants.{Progress, Idle}
use Rattle.nm_base.specs.declared.limits.TheConstants.{MAX_READ_OCTETS}
use Rattle.nm_engine.specs.Giving.{GivesFrames, HoldsNone}
use Rattle.nm_engine.specs.Link.{IsPart, LinkValue, bye_taken}
use Rattle.nm_engine.specs.Lives.{LinkLives}
use Rattle.nm_shared.specs.Counted.{PassCounts}
use Rattle.nm_engine.specs.Passes.{ByPass, LinkState, Owner, at}
use Rattle.nm_engine.specs.Reading.{Came, Reads}
use Rattle.nm_engine.specs.Taking.{Stops, TakesAll}
use Rattle.nm_engine.specs.Turn.{Breaks, HasEnded, Heard, IsReason, Moves, Says, TakesIn, Turns, Went, answer_of, faults_of, link_of}
use Rattle.nm_engine.specs.declared.parts.Parts.{Parts}
use Rattle.nm_engine.specs.Writing.{Writes}

-- the octets from a frame on
from_frame : (octets rest : List ℕ) (frames front back : List Frame) (f : Frame) → octets ≡ stream_octets frames ++ rest → frames ≡ front ++ f ∷ back → octets ≡ stream_octets front ++ (frame_octets f ++ (stream_octets back ++ rest))
from_frame octets rest frames front back f e split =
    e ∙ ap (λ fs. stream_octets fs ++ rest) split ∙ ap (λ l. l ++ rest) (flat_map-append frame_octets front (f ∷ back))
    ∙ append_assoc (stream_octets front) (frame_octets f ++ stream_octets back) rest ∙ ap (λ l. stream_octets front ++ l) (append_assoc (frame_octets f) (stream_octets back) rest)

not_none : (front back : List Frame) (f : Frame) → front ++ f ∷ back ≡ [] → ⊥
not_none [] back f e = cc
not_none (x ∷ front) back f e = cc

each_mid : (front back : List Frame) (f : Frame) → AllByRecursion IsFrame (front ++ f ∷ back) → IsFrame f
each_mid [] back f each = each.0
each_mid (x ∷ front) back f each = each_mid front back f each.1

-- The frames that were read were taken, and nothing else was done with the parts of a link.
module _ {W : Type 0} (seen : W → WireSeen) (by : ByPass) (old new : Parts W) (frames : List Frame) (e : Bool) (bye : e ≡ bye_taken old.party.session)
    (keeps : new.party.acceptor ≡ old.party.acceptor) (kept : (seen new.wire).taken ≡ (seen old.wire).taken) (same : new.out.items ≡ old.out.items) where
  abbrev Read : Result ℕ Cause → Type 0
  Read read = Reads (seen old.wire) (seen new.wire) e old.reader new.reader (frames, read)

  abbrev TookAll : List Frame → Type 0
  TookAll ins = LinkLives by.owner old.party.acceptor (at old.party.session by.before) (map Took ins) (at new.party.session by.after)

  -- what came, whatever the read's answer, and that the wire has not failed if there are frames
  read_came : (read : Result ℕ Cause) → Read read → (rest : List ℕ) × Came (seen old.wire) (seen new.wire) old.reader.rest frames rest × (((seen new.wire).failures ≡ (seen old.wire).failures) ⊎ (frames ≡ []))
  read_came (Ok n) c = (new.reader.rest, c.came, inl c.sound)
  read_came (Err cause) (rest, came, inl (is, ends, may_end, sound)) = (rest, came, inl sound)
  read_came (Err cause) (rest, came, inr (inl (is, none, faults))) = (rest, came, inr none)
  read_came (Err cause) (rest, came, inr (inr (inl (is, shown, sound)))) = (rest, came, inl sound)
  read_came (Err cause) (rest, came, inr (inr (inr (is, none, sound)))) = (rest, came, inl sound)

  sound_if : (front back : List Frame) (f : Frame) → frames ≡ front ++ f ∷ back → ((seen new.wire).failures ≡ (seen old.wire).failures) ⊎ (frames ≡ []) → (seen new.wire).failures ≡ (seen old.wire).failures + 0
  sound_if front back f split (inl e) = omega (arith, e)
  sound_if front back f split (inr e) = absurd (not_none front back f (sym split ∙ e))

  -- no octet went
  abbrev still : (came rest : List ℕ) (ins : List Frame) (b : Bool) → length came ≤ MAX_READ_OCTETS → (seen new.wire).given ≡ (seen old.wire).given ++ came → old.reader.rest ++ came ≡ stream_octets ins ++ rest → TookAll ins → Moves seen by (link_of old false) (link_of new b) rest new.out.items
  still came rest ins b most came_in framed took = record {
    was_whole = refl;
    came = came;
    went = [];
    ins = ins;
    outs = [];
    mid = at new.party.session by.after;
    most = most;
    came_in = came_in;
    framed = framed;
    took = took;
    gave = refl;
    went_out = kept ∙ sym (append-nil (seen old.wire).taken);
    sent = same ∙ sym (append-nil old.out.items);
    acceptor = keeps;
  }

  broke : (cause : Cause) (came rest : List ℕ) (ins : List Frame) → length came ≤ MAX_READ_OCTETS → (seen new.wire).given ≡ (seen old.wire).given ++ came → old.reader.rest ++ came ≡ stream_octets ins ++ rest → TookAll ins
      → IsReason seen by (link_of old false) (link_of new true) cause ins rest (at new.party.session by.after) → (seen new.wire).failures ≡ (seen old.wire).failures + faults_of cause
      → Breaks seen by (link_of old false) (link_of new true) cause
  broke cause came rest ins most came_in framed took reason faults = record {
    rest = rest;
    left = new.out.items;
    moves = still came rest ins true most came_in framed took;
    reason = reason;
    faults = faults;
    over = refl;
  }

  -- a frame was not taken
  stopped_by : (cause : Cause) (rest : List ℕ) (c : Came (seen old.wire) (seen new.wire) old.reader.rest frames rest) (front back : List Frame) (f : Frame) → (seen new.wire).failures ≡ (seen old.wire).failures + faults_of cause
      → (IsFrame f → IsReason seen by (link_of old false) (link_of new true) cause front (frame_octets f ++ (stream_octets back ++ rest)) (at new.party.session by.after)) → frames ≡ front ++ f ∷ back → TookAll front
      → Breaks seen by (link_of old false) (link_of new true) cause
  stopped_by cause rest c front back f sound reason split took =
      broke cause c.came (frame_octets f ++ (stream_octets back ++ rest)) front c.most c.came_in (from_frame (old.reader.rest ++ c.came) rest frames front back f c.framed.parts split) took
      (reason (each_mid front back f (subst (λ (fs : List Frame). AllByRecursion IsFrame fs) split c.framed.each))) sound

  -- the link broke for this cause
  abbrev BreaksFor : Cause → Type 0
  BreaksFor cause = Breaks seen by (link_of old false) (link_of new true) cause

  -- a frame was not taken, for any of its reasons
  stopped : (cause : Cause) (rest : List ℕ) (c : Came (seen old.wire) (seen new.wire) old.reader.rest frames rest) (front back : List Frame) (f : Frame) → (seen new.wire).failures ≡ (seen old.wire).failures + 0
      → frames ≡ front ++ f ∷ back → TookAll front → Stops by.owner old.party.acceptor cause (at new.party.session by.after) f → BreaksFor cause
  stopped cause rest c front back f sound split took (inl (is, refuses)) =
      subst BreaksFor (sym is) (stopped_by BadSession rest c front back f sound (λ fits. (f, stream_octets back ++ rest, fits, refl, refuses)) split took)
  stopped cause rest c front back f sound split took (inr (inl (is, refuses))) =
      subst BreaksFor (sym is) (stopped_by Book rest c front back f sound (λ fits. (f, stream_octets back ++ rest, fits, refl, refuses)) split took)
  stopped cause rest c front back f sound split took (inr (inr (is, short))) =
      subst BreaksFor (sym is) (stopped_by Memory rest c front back f sound (λ fits. inl (f, stream_octets back ++ rest, fits, refl, short)) split took)

  pub breaks_take : (read : Result ℕ Cause) (cause : Cause) → Read read → TakesAll by.owner old.party.acceptor (at old.party.session by.before) frames (at new.party.session by.after) (Err cause) → BreaksFor cause
  breaks_take read cause reads (front, f, back, split, took, stops) =
      let c = read_came read reads in stopped cause c.0 c.1 front back f (sound_if front back f split c.2) split took stops

  -- the read ended
  breaks_read : (cause : Cause) → Read (Err cause) → TookAll frames → BreaksFor cause
  breaks_read cause (rest, c, inl (is, ends, may_end, sound)) took =
      subst BreaksFor (sym is) (broke End c.came rest frames c.most c.came_in c.framed.parts took (ends, sym bye ∙ may_end) (omega (arith, sound)))
  breaks_read cause (rest, c, inr (inl (is, none, faults))) took =
      subst BreaksFor (sym is) (broke Fault c.came rest frames c.most c.came_in c.framed.parts took tt faults)
  breaks_read cause (rest, c, inr (inr (inl (is, shown, sound)))) took =
      subst BreaksFor (sym is) (broke BadFrame c.came rest frames c.most c.came_in c.framed.parts took shown (omega (arith, sound)))
  breaks_read cause (rest, c, inr (inr (inr (is, none, sound)))) took =
      subst BreaksFor (sym is) (broke Memory c.came rest frames c.most c.came_in c.framed.parts took (inr (inl none)) (omega (arith, sound)))

  -- all frames were taken
  pub took_in : (read : Result ℕ Cause) → Read read → TookAll frames → IsPart new.reader.rest → TakesIn seen by old new read
  took_in (Ok n) c took part = (
    record {
      moves = still c.came.came new.reader.rest frames false c.came.most c.came.came_in c.came.framed.parts took;
      none_given = refl;
      none_went = refl;
      sound = c.sound;
      no_end = λ is. c.no_end (bye ∙ is);
      part = part;
      whole = refl;
    },
    c.count,
  )
  took_in (Err cause) c took part = breaks_read cause c took

-- The answer where all went well.
module _ {W : Type 0} (seen : W → WireSeen) (by : ByPass) (old new : LinkValue W) (Well : Type 0) (moved : Well → ℕ) (well : Well) (n : ℕ) (count : moved well ≡ n) where
  by_count : (HasEnded new.session new.out → ⊥) → (b : Bool) → nat_lt 0 n ≡ b → Says seen by old new Well moved (if b then Progress else Idle)
  by_count on true is = (well, (grind (arith, nat_tests, is, count)), on)
  by_count on false is = (well, (grind (arith, nat_tests, is, count)), on)

  pub says_well : (ended : Bool) → (ended ≡ true → HasEnded new.session new.out) → (HasEnded new.session new.out → ended ≡ true) → Says seen by old new Well moved (answer_of ended n)
  says_well true over only = (well, over refl)
  says_well false over only = by_count (λ is. false≢true (only is)) (nat_lt 0 n) refl

-- What was given, once the link had heard.
module _ {W : Type 0} (seen : W → WireSeen) (o : Owner) (k l n : PassCounts) (old mid : LinkValue W) (h : Heard seen (record { owner = o; before = k; after = l }) old mid) (z : Option SessionValue) (x : W) (p : List ℕ) where
  abbrev gone : List ℕ → Bool → LinkValue W
  gone out failed = record { wire = x; acceptor = mid.acceptor; session = z; rest = mid.rest; out = out; failed = failed }

  abbrev by : ByPass
  by = record { owner = o; before = k; after = n }

  took : LinkLives o old.acceptor (at old.session k) (map Took h.moves.ins) (at mid.session l)
  took =
      let same : at mid.session l ≡ h.moves.mid = subst (λ (fs : List Frame). LinkLives o old.acceptor h.moves.mid (map Gave fs) (at mid.session l)) h.none_given h.moves.gave in
      subst (λ (m : LinkState). LinkLives o old.acceptor (at old.session k) (map Took h.moves.ins) m) (sym same) h.moves.took

  kept : (seen mid.wire).taken ≡ (seen old.wire).taken
  kept = h.moves.went_out ∙ ap (λ l. (seen old.wire).taken ++ l) h.none_went ∙ append-nil (seen old.wire).taken

  same_out : mid.out ≡ old.out
  same_out = ap (λ l. l ++ mid.out) (sym h.none_went) ∙ h.moves.sent ∙ ap (λ fs. old.out ++ stream_octets fs) h.none_given ∙ append-nil old.out

  abbrev gave_moves : (went left lost out : List ℕ) (b : Bool) → GivesFrames o old.acceptor (at mid.session l) (at z n) mid.out p lost → (seen x).given ≡ (seen mid.wire).given → (seen x).taken ≡ (seen mid.wire).taken ++ went → went ++ left ≡ p ++ lost → Moves seen by old (gone out b) mid.rest left
  gave_moves went left lost out b g same went_out sent = record {
    was_whole = h.moves.was_whole;
    came = h.moves.came;
    went = went;
    ins = h.moves.ins;
    outs = g.outs;
    mid = at mid.session l;
    most = h.moves.most;
    came_in = same ∙ h.moves.came_in;
    framed = h.moves.framed;
    took = took;
    gave = g.gave;
    went_out = went_out ∙ ap (λ l. l ++ went) kept;
    sent = sent ∙ g.put ∙ ap (λ l. l ++ stream_octets g.outs) same_out;
    acceptor = h.moves.acceptor;
  }

  -- memory for a frame was refused
  pub breaks_give : (lost : List ℕ) × GivesFrames o old.acceptor (at mid.session l) (at z n) mid.out p lost → x ≡ mid.wire → Breaks seen by old (gone p true) Memory
  breaks_give g same =
      let fine : (seen x).failures ≡ (seen mid.wire).failures = ap (λ y. (seen y).failures) same in
      let sound = h.sound in
      record {
        rest = mid.rest;
        left = p ++ g.0;
        moves = gave_moves [] (p ++ g.0) g.0 p true g.1 (ap (λ y. (seen y).given) same) (ap (λ y. (seen y).taken) same ∙ sym (append-nil (seen mid.wire).taken)) refl;
        reason = inr (inr h.part);
        faults = omega (arith, fine, sound);
        over = refl;
      }

  module _ (y : List ℕ) (gives : GivesFrames o old.acceptor (at mid.session l) (at z n) mid.out p []) (same : (seen x).given ≡ (seen mid.wire).given) where
    -- the wire failed as it took octets
    pub breaks_write : (cause : Cause) → Writes (seen mid.wire) (seen x) p y (Err cause) → Breaks seen by old (gone y true) cause
    breaks_write cause (is, wrote, faults) =
        let sound = h.sound in
        subst (λ c. Breaks seen by old (gone y true) c) (sym is) (record {
          rest = mid.rest;
          left = y;
          moves = gave_moves wrote.went y [] y true gives same wrote.went_out (wrote.front ∙ sym (append-nil p));
          reason = tt;
          faults = omega (arith, faults, sound);
          over = refl;
        })

    pub turned_well : (i j : ℕ) → length h.moves.came ≡ i → Writes (seen mid.wire) (seen x) p y (Ok j) → (seen x).ends ≡ (seen mid.wire).ends → HoldsNone o n z p → (ended : Bool) → (ended ≡ true → HasEnded z y) → (HasEnded z y → ended ≡ true)
        → Turns seen by old (gone y false) (answer_of ended (i + j))
    turned_well i j count wrote still_on all ended over only =
        let well : Went seen by old (gone y false) = record {
          moves = gave_moves wrote.0.went y [] y false gives same wrote.0.went_out (wrote.0.front ∙ sym (append-nil p));
          sound = wrote.2 ∙ h.sound;
          no_end = λ is. still_on ∙ h.no_end is;
          part = h.part;
          all = subst (λ (octets : List ℕ). HoldsNone o n z octets) (sym wrote.0.front) all;
          whole = refl;
        } in
        let went = wrote.1 in
        let sum : length h.moves.came + length wrote.0.went ≡ i + j = omega (arith, count, went) in
        says_well seen by old (gone y false) (Went seen by old (gone y false)) (λ w. length w.moves.came + length w.moves.went) well (i + j) sum ended over only
