-- Frames that were given, one after another.
use Rattle.std.proofs.Common.{◌≡◌, ℕ, List, [], ◌∷◌, ◌++◌, map, Option, Some, Result, Ok, refl, sym, ◌∙◌, ap, subst, append_assoc, append-nil}
use Rattle.std.specs.Prelude.{IfOk}
use Rattle.std.proofs.lemmas.Grind.{flat_map-append}
use Rattle.std.proofs.lemmas.List.{map-append}
use Rattle.nm_book.specs.Book.{BookValue}
use Rattle.nm_frames.specs.declared.frame.Frame.{Frame}
use Rattle.nm_frames.specs.Frame.{IsFrame, frame_octets, stream_octets}
use Rattle.nm_frames.specs.Lives.{SessionStep, Gave}
use Rattle.nm_frames.specs.Owed.{after_giving, given_maybe, owed}
use Rattle.nm_frames.specs.Session.{SessionValue}
use Rattle.nm_engine.specs.Giving.{GivesFrames}
use Rattle.nm_engine.specs.Acceptor.{AcceptorValue}
use Rattle.nm_engine.specs.Lives.{LinkLives}
use Rattle.nm_shared.specs.Counted.{PassCounts}
use Rattle.nm_engine.specs.Passes.{IsMet, LinkState, Owner, at}
use Rattle.nm_engine.proofs.Steps.{lives_append}

module _ (o : Owner) (h : Option AcceptorValue) where
  -- one frame was given: it stands in the buffer, or its octets are lost
  pub gives_one : {E : Type 0} (s t : SessionValue) (k l : PassCounts) (b : BookValue) (f : Frame) (r : Result (Option Frame) E) → r ≡ Ok (Some f) → IfOk r (λ x. x ≡ owed s b) → IfOk r (λ x. t ≡ given_maybe s x) → IsMet o k b → l ≡ k → IsFrame f
      → (before after lost : List ℕ) → after ++ lost ≡ before ++ frame_octets f → GivesFrames o h (at (Some s) k) (at (Some t) l) before after lost
  gives_one {E} s t k l b f r e is then met same fits before after lost put =
      let owes : Some f ≡ owed s b = subst (λ (x : Result (Option Frame) E). IfOk x (λ y. y ≡ owed s b)) e is in
      let last : t ≡ after_giving s f = subst (λ (x : Result (Option Frame) E). IfOk x (λ y. t ≡ given_maybe s y)) e then in
      record {
        outs = f ∷ [];
        gave = (s, b, refl, sym owes, met, fits, ap (λ x. at (Some x) l) last ∙ ap (λ x. at (Some (after_giving s f)) x) same);
        put = put ∙ ap (λ l. before ++ l) (sym (append-nil (frame_octets f)));
      }

  -- none was given
  pub gives_none : (s t : Option SessionValue) (k l : PassCounts) (octets : List ℕ) → t ≡ s → l ≡ k → GivesFrames o h (at s k) (at t l) octets octets []
  gives_none s t k l octets same counts = record {
    outs = [];
    gave = ap (λ x. at x l) same ∙ ap (λ x. at s x) counts;
    put = refl;
  }

  -- frames were given, and then more
  pub gives_more : (x m y : LinkState) (a b c lost : List ℕ) → GivesFrames o h x m a b [] → GivesFrames o h m y b c lost → GivesFrames o h x y a c lost
  gives_more x m y a b c lost one two = record {
    outs = one.outs ++ two.outs;
    gave = subst (λ (l : List SessionStep). LinkLives o h x l y) (sym (map-append Gave one.outs two.outs)) (lives_append o h x m y (map Gave one.outs) (map Gave two.outs) one.gave two.gave);
    put =
        two.put ∙ ap (λ l. l ++ stream_octets two.outs) (sym (append-nil b) ∙ one.put)
        ∙ append_assoc a (stream_octets one.outs) (stream_octets two.outs)
        ∙ ap (λ l. a ++ l) (sym (flat_map-append frame_octets one.outs two.outs));
  }

  -- frames were given, and then memory for one more was refused
  pub gives_then : (x m y : LinkState) (a b c : List ℕ) → GivesFrames o h x m a b [] → (lost : List ℕ) × GivesFrames o h m y b c lost → (lost : List ℕ) × GivesFrames o h x y a c lost
  gives_then x m y a b c one two = (two.0, gives_more x m y a b c two.0 one two.1)
