-- A read from what the wire answered and what the reader made of it.
use Rattle.std.proofs.Common.{◌≡◌, ℕ, ◌+◌, ◌<◌, ◌≤◌, inl, inr, Bool, true, false, nat_lt, if◌then◌else◌, List, [], ◌++◌, length, take, Option, Some, None, Result, Ok, Err, refl, sym, ◌∙◌, ap, subst, append-nil, arith}
use Rattle.std.specs.List.{AllByRecursion}
use Rattle.std.proofs.lemmas.Bool.Decides.{nat_tests}
use Rattle.std.proofs.lemmas.Grind.{common_steps}
use Rattle.nm_base.specs.Wire.{Goes, WireSeen}
use Rattle.nm_frames.specs.declared.frame.Frame.{Frame}
use Rattle.nm_frames.specs.declared.fault.FrameFault.{FrameFault}
use Rattle.nm_frames.specs.declared.fault.FrameFault.TheVariants.{BadLength}
use Rattle.nm_frames.specs.Frame.{IsFrame, stream_octets}
use Rattle.nm_frames.specs.Reader.{FedFault, Feeds, ReaderValue}
use Rattle.nm_frames.specs.Stream.{IsShort, fault_shown, is_bad_length, stated_length}
use Rattle.nm_engine.specs.declared.answer.Cause.{Cause}
use Rattle.nm_engine.specs.declared.answer.Cause.TheVariants.{Frame as BadFrame}
use Rattle.nm_base.specs.declared.limits.TheConstants.{MAX_FRAME_OCTETS, MAX_READ_OCTETS}
use Rattle.nm_engine.specs.Link.{IsPart}
use Rattle.nm_engine.specs.Reading.{Came, FeedsReader, IsFramed, Reads}

-- no octets, no frames
none_framed : (held : List ℕ) → IsFramed (held ++ []) [] held
none_framed held = record { parts = append-nil held; each = tt }

module _ (old new : WireSeen) where
  -- nothing came
  pub came_none : (held : List ℕ) (frames : List Frame) → frames ≡ [] → new.given ≡ old.given → Came old new held frames held
  came_none held frames none same = record {
    came = [];
    most = omega arith;
    came_in = same ∙ sym (append-nil old.given);
    framed = subst (λ (fs : List Frame). IsFramed (held ++ []) fs held) (sym none) (none_framed held);
  }

  pub read_none : (e : Bool) (r : ReaderValue) (frames : List Frame) → frames ≡ [] → new.given ≡ old.given → new.failures ≡ old.failures → r.failed ≡ false → (e ≡ false → new.ends ≡ old.ends) → Reads old new e r r (frames, Ok 0)
  unfolding came_none
  read_none e r frames none same sound whole no_end = record { came = came_none r.rest frames none same; count = refl; sound = sound; no_end = no_end; whole = whole }

  taken_within : (n : ℕ) (octets : List ℕ) → length octets ≡ MAX_READ_OCTETS → length (take n octets) ≤ MAX_READ_OCTETS
  taken_within n octets e = grind (arith, common_steps, e)

  -- octets came and were fed
  pub read_some : (e : Bool) (n : ℕ) (octets : List ℕ) (r q : ReaderValue) (frames : List Frame) (result : Result ℕ Cause) → length octets ≡ MAX_READ_OCTETS → Goes (λ w. w.given) old new n octets → new.ends ≡ old.ends → FeedsReader r (take n octets) frames q result → Reads old new e r q (frames, result)
  read_some e n octets r q frames (Ok m) size goes same fed = record {
    came = record { came = take n octets; most = taken_within n octets size; came_in = goes.2; framed = fed.1 };
    count = sym fed.0;
    sound = goes.3;
    no_end = λ is. same;
    whole = fed.2;
  }
  read_some e n octets r q frames (Err cause) size goes same (inl (is, (rest, framed, shown))) =
      (rest, record { came = take n octets; most = taken_within n octets size; came_in = goes.2; framed = framed }, inr (inr (inl (is, shown, goes.3))))
  read_some e n octets r q frames (Err cause) size goes same (inr (is, none)) = (
    r.rest ++ take n octets,
    record {
      came = take n octets;
      most = taken_within n octets size;
      came_in = goes.2;
      framed = subst (λ (fs : List Frame). IsFramed (r.rest ++ take n octets) fs (r.rest ++ take n octets)) (sym none) (record { parts = refl; each = tt });
    },
    inr (inr (inr (is, none, goes.3))),
  )

-- a reader's answer to a piece, from what it cut
fed_fault : (old new : ReaderValue) (piece : List ℕ) (before after : List Frame) (e : FrameFault) → before ≡ [] → FedFault old new piece before after e → (rest : List ℕ) × IsFramed (old.rest ++ piece) after rest × ((x : FrameFault) × (fault_shown rest ≡ Some x))
fed_fault old new piece before after e none fed =
    let same : after ≡ fed.cut.frames = fed.cut.added ∙ ap (λ (l : List Frame). l ++ fed.cut.frames) none in
    (fed.rest, record { parts = fed.cut.parts ∙ ap (λ fs. stream_octets fs ++ fed.rest) (sym same); each = subst (λ (fs : List Frame). AllByRecursion IsFrame fs) (sym same) fed.cut.each }, (e, fed.shown))

-- no octets are a part of a frame
none_part : IsPart []
none_part = record { none = refl; short = omega arith; most = omega arith }

part_fault : (old new : ReaderValue) (piece : List ℕ) (before after : List Frame) (e : FrameFault) → FedFault old new piece before after e → IsPart new.rest
unfolding none_part
part_fault old new piece before after e fed = subst (λ (r : ReaderValue). IsPart r.rest) (sym fed.over) none_part

-- a reader that found the fault e in a piece
pub fed_bad : (old new : ReaderValue) (piece : List ℕ) (before after : List Frame) → before ≡ [] → (e : FrameFault) → (Feeds old new piece before after (Err e) → FedFault old new piece before after e)
    → (x : FrameFault) → x ≡ e → Feeds old new piece before after (Err x) → FeedsReader old piece after new (Err BadFrame) × IsPart new.rest
fed_bad old new piece before after none e shows x same fed =
    let fault = shows (subst (λ (y : FrameFault). Feeds old new piece before after (Err y)) same fed) in
    (inl (refl, fed_fault old new piece before after e none fault), part_fault old new piece before after e fault)

short_length : (rest : List ℕ) → IsShort rest → length rest < 4 + stated_length rest
short_length rest (inl lt) = omega (arith, lt)
short_length rest (inr lt) = lt

-- octets that show no bad length, and are fewer than their length says, are fewer than the longest frame has
most_if : (n k : ℕ) (more : Option FrameFault) (b c : Bool) → nat_lt n 4 ≡ b → is_bad_length k ≡ c → (if b then None else if c then Some BadLength else more) ≡ None → n < 4 + k → n < MAX_FRAME_OCTETS
most_if n k more true c few bad none lt = grind (arith, nat_tests, few)
most_if n k more false true few bad none lt = cc
most_if n k more false false few bad none lt = grind (arith, nat_tests, bad, lt)

pub short_part : (rest : List ℕ) → fault_shown rest ≡ None → IsShort rest → IsPart rest
short_part rest none short =
    let lt = short_length rest short in
    record { none = none; short = lt; most = most_if (length rest) (stated_length rest) _ _ _ refl refl none lt }
