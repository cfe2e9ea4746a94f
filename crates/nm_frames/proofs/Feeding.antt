-- A stream that comes in pieces is frames and a rest.
use Rattle.std.proofs.Common.{if◌then◌else◌, arith, ◌≡◌, ℕ, ◌⊎◌, inl, inr, Bool, true, false, List, [], ◌∷◌, ◌++◌, Some, None, Result, Ok, Err, refl, sym, ap, subst, ◌∙◌, append_assoc, append-nil}
use Rattle.std.proofs.lemmas.Bool.{both_ways}
use Rattle.std.specs.List.{AllByRecursion}
use Rattle.nm_model.proofs.ListLemmas.{not_some}
use Rattle.nm_frames.specs.declared.frame.Frame.{Frame}
use Rattle.nm_frames.specs.declared.fault.FrameFault.{FrameFault}
use Rattle.nm_frames.specs.declared.fault.FrameFault.TheVariants.{BadLength, BadKind, BadBody, Failed, Memory}
use Rattle.nm_frames.specs.Frame.{IsFrame, stream_octets}
use Rattle.nm_frames.specs.Stream.{fault_shown, IsShort, Splits}
use Rattle.nm_frames.specs.Reader.{ReaderValue, Cuts, Feeds, FedFault}
use Rattle.nm_frames.specs.Pieces.{new_reader, has_come, stream_of, FeedsAll, HasRead}
use Rattle.nm_frames.proofs.Cutting.{cuts_none, cuts_more}
use Rattle.nm_frames.proofs.Deciding.{stays}
use Rattle.nm_frames.proofs.Streams.{one_splitting}

-- so far: the octets that came are the frames and a rest, which the reader holds, or which shows a fault
abbrev SoFar : List ℕ → ReaderValue → List Frame → Type 0
SoFar stream h fs = ((h.failed ≡ false) × Cuts stream h.rest [] fs × (fault_shown h.rest ≡ None) × IsShort h.rest)
    ⊎ ((h ≡ record { rest = []; failed = true }) × (r : List ℕ) × (e : FrameFault) × Cuts stream r [] fs × (fault_shown r ≡ Some e))

abbrev failed_of : ReaderValue → Bool
failed_of h = h.failed

-- octets after those of a cut
wider : (s r p : List ℕ) (fs : List Frame) → Cuts s r [] fs → Cuts (s ++ p) (r ++ p) [] fs
wider s r p fs cut = record {
  frames = cut.frames;
  added = cut.added;
  each = cut.each;
  parts = ap (λ l. l ++ p) cut.parts ∙ append_assoc (stream_octets cut.frames) r p;
}

with_fault : (s p : List ℕ) (h k : ReaderValue) (fs gs : List Frame) (e : FrameFault) → SoFar s h fs → FedFault h k p fs gs e → SoFar (s ++ p) k gs
with_fault s p h k fs gs e (inl so) fed = inr (fed.over, fed.rest, e, cuts_more (s ++ p) (h.rest ++ p) fed.rest [] fs gs (wider s h.rest p fs so.1) fed.cut, fed.shown)
with_fault s p h k fs gs e (inr so) fed = absurd (both_ways h.failed fed.sound (ap failed_of so.0))

-- a reader that has failed stays so, and so does the fault
still_failed : (s p : List ℕ) (h k : ReaderValue) (fs gs : List Frame) → SoFar s h fs → h.failed ≡ true → k ≡ h → gs ≡ fs → SoFar (s ++ p) k gs
still_failed s p h k fs gs (inl so) failed same none = absurd (both_ways h.failed so.0 failed)
still_failed s p h k fs gs (inr so) failed same none = inr (same ∙ so.0, so.1 ++ p, so.2, subst (λ (x : List Frame). Cuts (s ++ p) (so.1 ++ p) [] x) (sym none) (wider s so.1 p fs so.3), stays so.1 p so.2 so.4)

step : (s p : List ℕ) (h k : ReaderValue) (fs gs : List Frame) (a : Result Unit FrameFault) → SoFar s h fs → Feeds h k p fs gs a → SoFar (if has_come a then s ++ p else s) k gs
step s p h k fs gs (Ok u) (inl so) fed = inl (fed.still_sound, cuts_more (s ++ p) (h.rest ++ p) k.rest [] fs gs (wider s h.rest p fs so.1) fed.cut, fed.none, fed.short)
step s p h k fs gs (Ok u) (inr so) fed = absurd (both_ways h.failed fed.sound (ap failed_of so.0))
step s p h k fs gs (Err BadLength) so fed = with_fault s p h k fs gs BadLength so fed
step s p h k fs gs (Err BadKind) so fed = with_fault s p h k fs gs BadKind so fed
step s p h k fs gs (Err BadBody) so fed = with_fault s p h k fs gs BadBody so fed
step s p h k fs gs (Err Failed) so fed = still_failed s p h k fs gs so fed.was fed.same fed.none
step s p h k fs gs (Err Memory) so fed = subst (λ (x : ReaderValue). SoFar s x gs) (sym fed.same) (subst (λ (x : List Frame). SoFar s h x) (sym fed.none) so)

joined : (b : Bool) (s p t : List ℕ) → (if b then s ++ p else s) ++ t ≡ s ++ (if b then p ++ t else t)
joined true s p t = append_assoc s p t
joined false s p t = refl

all : (ps : List (List ℕ × Result Unit FrameFault)) (s : List ℕ) (h k : ReaderValue) (fs gs : List Frame) → SoFar s h fs → FeedsAll h fs ps k gs → SoFar (s ++ stream_of ps) k gs
all [] s h k fs gs so fed = subst (λ (x : List ℕ). SoFar x k gs) (sym (append-nil s)) (subst (λ (x : ReaderValue). SoFar s x gs) (sym fed.0) (subst (λ (x : List Frame). SoFar s h x) (sym fed.1) so))
all (p ∷ ps) s h k fs gs so fed = subst (λ (x : List ℕ). SoFar x k gs) (joined (has_come p.1) s p.0 (stream_of ps)) (all ps (if has_come p.1 then s ++ p.0 else s) fed.0 k fed.1 gs (step s p.0 h fed.0 fs fed.1 p.1 so fed.2) fed.3)

so_far : (ps : List (List ℕ × Result Unit FrameFault)) (k : ReaderValue) (gs : List Frame) → FeedsAll new_reader [] ps k gs → SoFar (stream_of ps) k gs
so_far ps k gs fed = all ps [] new_reader k [] gs (inl (refl, cuts_none [] [], refl, inl (omega arith))) fed

splits_at : (s r : List ℕ) (fs : List Frame) → Cuts s r [] fs → (((e : FrameFault) × (fault_shown r ≡ Some e)) ⊎ ((fault_shown r ≡ None) × IsShort r)) → Splits s fs r
splits_at s r fs cut ends = record {
  whole = cut.parts ∙ ap (λ l. stream_octets l ++ r) (sym cut.added);
  each = subst (λ (l : List Frame). AllByRecursion IsFrame l) (sym cut.added) cut.each;
  ends = ends;
}

has_read : (s : List ℕ) (h : ReaderValue) (fs : List Frame) → SoFar s h fs → HasRead s h fs
has_read s h fs (inl so) = record {
  rest = h.rest;
  splits = splits_at s h.rest fs so.1 (inr (so.2, so.3));
  sound = λ e. (refl, so.2, so.3);
  over = λ e. absurd (both_ways h.failed so.0 e);
}
has_read s h fs (inr so) = record {
  rest = so.1;
  splits = splits_at s so.1 fs so.3 (inl (so.2, so.4));
  sound = λ e. absurd (both_ways h.failed e (ap failed_of so.0));
  over = λ e. (ap (λ x. x.rest) so.0, so.2, so.4);
}

pub any_pieces : (ps : List (List ℕ × Result Unit FrameFault)) (k : ReaderValue) (gs : List Frame) → FeedsAll new_reader [] ps k gs → HasRead (stream_of ps) k gs
any_pieces ps k gs fed = has_read (stream_of ps) k gs (so_far ps k gs fed)

-- two readers of one stream hold the same
same_reader : (s : List ℕ) (h k : ReaderValue) (fs gs : List Frame) → SoFar s h fs → SoFar s k gs → (fs ≡ gs) × (h ≡ k)
same_reader s h k fs gs (inl so) (inl to) =
    let one = one_splitting s fs gs h.rest k.rest (splits_at s h.rest fs so.1 (inr (so.2, so.3))) (splits_at s k.rest gs to.1 (inr (to.2, to.3))) in
    (one.0, ap (λ (x : List ℕ). record { rest = x; failed = h.failed }) one.1 ∙ ap (λ (x : Bool). record { rest = k.rest; failed = x }) (so.0 ∙ sym to.0))
same_reader s h k fs gs (inl so) (inr to) =
    let one = one_splitting s fs gs h.rest to.1 (splits_at s h.rest fs so.1 (inr (so.2, so.3))) (splits_at s to.1 gs to.3 (inl (to.2, to.4))) in
    absurd (not_some to.2 (sym so.2 ∙ ap fault_shown one.1 ∙ to.4))
same_reader s h k fs gs (inr so) (inl to) =
    let one = one_splitting s fs gs so.1 k.rest (splits_at s so.1 fs so.3 (inl (so.2, so.4))) (splits_at s k.rest gs to.1 (inr (to.2, to.3))) in
    absurd (not_some so.2 (sym to.2 ∙ sym (ap fault_shown one.1) ∙ so.4))
same_reader s h k fs gs (inr so) (inr to) =
    let one = one_splitting s fs gs so.1 to.1 (splits_at s so.1 fs so.3 (inl (so.2, so.4))) (splits_at s to.1 gs to.3 (inl (to.2, to.4))) in
    (one.0, so.0 ∙ sym to.0)

pub same_stream : (ps qs : List (List ℕ × Result Unit FrameFault)) (h k : ReaderValue) (fs gs : List Frame) → FeedsAll new_reader [] ps h fs → FeedsAll new_reader [] qs k gs → stream_of ps ≡ stream_of qs → (fs ≡ gs) × (h ≡ k)
same_stream ps qs h k fs gs one two same = same_reader (stream_of qs) h k fs gs (subst (λ (x : List ℕ). SoFar x h fs) same (so_far ps h fs one)) (so_far qs k gs two)
