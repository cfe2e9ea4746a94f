-- Frames cut off the front of octets, one after another.
use Rattle.std.proofs.Common.{◌≡◌, ℕ, ◌<◌, List, [], ◌∷◌, ◌++◌, length, take, Some, None, true, false, Result, Ok, Err, inl, inr, ⊎_elim, refl, sym, ap, subst, ◌∙◌, append_assoc, append-nil, length-append, arith}
use Rattle.std.proofs.lemmas.List.{take-append-le}
use Rattle.std.proofs.Math.Seq.{take-length}
use Rattle.std.proofs.lemmas.Grind.{flat_map-append}
use Rattle.std.specs.List.{AllByRecursion}
use Rattle.nm_frames.specs.declared.frame.Frame.{Frame}
use Rattle.nm_frames.specs.declared.fault.FrameFault.{FrameFault}
use Rattle.nm_frames.specs.Frame.{IsFrame, frame_octets, stream_octets}
use Rattle.nm_frames.specs.Stream.{fault_shown, IsShort}
use Rattle.nm_frames.specs.declared.fault.FrameFault.TheVariants.{BadLength, BadKind, BadBody, Failed, Memory}
use Rattle.nm_frames.specs.Reader.{ReaderValue, FindsFrame, Cuts, CutsTo, FedFault, FedWhole, Feeds, LeavesOf, shows_fault}

pub each_append : (fs gs : List Frame) → AllByRecursion IsFrame fs → AllByRecursion IsFrame gs → AllByRecursion IsFrame (fs ++ gs)
each_append [] gs one two = two
each_append (f ∷ fs) gs one two = (one.0, each_append fs gs one.1 two)

pub cuts_none : (o : List ℕ) (b : List Frame) → Cuts o o b b
cuts_none o b = record { frames = []; added = sym (append-nil b); each = tt; parts = refl }

pub cuts_one : (o r : List ℕ) (f : Frame) (b : List Frame) → IsFrame f → o ≡ frame_octets f ++ r → Cuts o r b (b ++ f ∷ [])
cuts_one o r f b is e = record { frames = f ∷ []; added = refl; each = (is, tt); parts = e ∙ ap (λ l. l ++ r) (sym (append-nil (frame_octets f))) }

pub cuts_more : (o p q : List ℕ) (a b c : List Frame) → Cuts o p a b → Cuts p q b c → Cuts o q a c
cuts_more o p q a b c one two = record {
  frames = one.frames ++ two.frames;
  added = two.added ∙ ap (λ l. l ++ two.frames) one.added ∙ append_assoc a one.frames two.frames;
  each = each_append one.frames two.frames one.each two.each;
  parts =
      one.parts ∙ ap (λ l. stream_octets one.frames ++ l) two.parts
      ∙ sym (append_assoc (stream_octets one.frames) (stream_octets two.frames) q)
      ∙ ap (λ l. l ++ q) (sym (flat_map-append frame_octets one.frames two.frames));
}

pub cuts_to : (e : FrameFault) (o p : List ℕ) (a b c : List Frame) → Cuts o p a b → CutsTo e p b c → CutsTo e o a c
cuts_to e o p a b c one (inl (is, (rest, cut, shown))) = inl (is, (rest, cuts_more o p rest a b c one cut, shown))
cuts_to e o p a b c one (inr (is, (frames, added))) = inr (is, (one.frames ++ frames, added ∙ ap (λ l. l ++ frames) one.added ∙ append_assoc a one.frames frames))

pub shorter : (o r : List ℕ) (f : Frame) → o ≡ frame_octets f ++ r → length r < length o
shorter o r f e = omega (arith, ap length e, length-append (frame_octets f) r)

pub finds_to : (e : FrameFault) (o : List ℕ) (b : List Frame) → FindsFrame o (Err e) → CutsTo e o b b
finds_to e o b (inl (is, shown)) = inl (is, (o, cuts_none o b, shown))
finds_to e o b (inr is) = inr (is, ([], sym (append-nil b)))

-- a piece that makes no frame whole
pub fed_short : (old new : ReaderValue) (piece : List ℕ) (b : List Frame) → old.failed ≡ false → new.rest ≡ old.rest ++ piece → fault_shown new.rest ≡ None → IsShort new.rest → new.failed ≡ false → FedWhole old new piece b b
fed_short old new piece b sound all none short still = record {
  sound = sound;
  cut = subst (λ (x : List ℕ). Cuts x new.rest b b) all (cuts_none new.rest b);
  none = none;
  short = short;
  still_sound = still;
}

module _ (old new : ReaderValue) (piece block left : List ℕ) (b c : List Frame) (sound : old.failed ≡ false) (all : block ≡ old.rest ++ piece) (is : new.rest ≡ left) where
  abbrev fault : (e : FrameFault) → left ≡ [] → (rest : List ℕ) × Cuts block rest b c × (fault_shown rest ≡ Some e) → new.failed ≡ true → FedFault old new piece b c e
  fault e none (rest, cut, shown) over = record {
    rest = rest;
    sound = sound;
    cut = subst (λ (x : List ℕ). Cuts x rest b c) all cut;
    shown = shown;
    over = λ i. record { rest = (is ∙ none) i; failed = over i };
  }

  -- what a block comes to is what the piece comes to
  pub feeds_left : (r : Result Unit FrameFault) → LeavesOf block (length old.rest) b c left r → new.failed ≡ shows_fault r → Feeds old new piece b c r
  feeds_left (Ok x) h over = record {
    sound = sound;
    cut = subst (λ (x : List ℕ). Cuts x new.rest b c) all (subst (λ (x : List ℕ). Cuts block x b c) (sym is) h.0);
    none = ap fault_shown is ∙ h.1;
    short = subst IsShort (sym is) h.2;
    still_sound = over;
  }
  feeds_left (Err BadLength) h over = fault BadLength h.1 h.2 over
  feeds_left (Err BadKind) h over = fault BadKind h.1 h.2 over
  feeds_left (Err BadBody) h over = fault BadBody h.1 h.2 over
  feeds_left (Err Failed) h over = absurd (⊎_elim (λ e. cc) (λ o. ⊎_elim (λ e. cc) (λ e. cc) o) h.0)
  feeds_left (Err Memory) h over =
      let kept = is ∙ h.0 ∙ ap (λ l. take (length old.rest) l) all ∙ take-append-le (length old.rest) old.rest piece (omega arith) ∙ take-length old.rest in
      record { was = sound; same = λ i. record { rest = kept i; failed = (over ∙ sym sound) i }; none = h.1 }
