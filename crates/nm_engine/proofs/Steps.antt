-- Steps of a session, one after another.
use Rattle.std.proofs.Common.{◌≡◌, ℕ, zero, suc, ◌+◌, ◌<◌, arith, List, [], ◌∷◌, ◌++◌, length, map, take, drop, get_or, Option, Some, Ok, sym, ◌∙◌, ap, subst}
use Rattle.std.specs.List.{AllByRecursion}
use Rattle.std.proofs.lemmas.List.{map-append, take_more}
use Rattle.std.proofs.Math.Seq.{split_at}
use Rattle.nm_frames.specs.declared.frame.Frame.{Frame}
use Rattle.nm_frames.specs.Frame.{IsFrame}
use Rattle.nm_frames.specs.Lives.{SessionStep, Took, Gave, Broke}
use Rattle.nm_frames.specs.Session.{SessionValue, purpose}
use Rattle.nm_engine.specs.Acceptor.{AcceptorValue, taken_at}
use Rattle.nm_engine.specs.Lives.{IsServed, LinkLives}
use Rattle.nm_engine.specs.Passes.{LinkState, Owner, at}

pub lives_append : (o : Owner) (h : Option AcceptorValue) (x m y : LinkState) (r q : List SessionStep) → LinkLives o h x r m → LinkLives o h m q y → LinkLives o h x (r ++ q) y
lives_append o h x m y [] q one two = subst (λ (z : LinkState). LinkLives o h z q y) one two
lives_append o h x m y (Took f ∷ r) q one two = (one.0, one.1, one.2, one.3, one.4, lives_append o h (at (Some one.0) one.1) m y r q one.5 two)
lives_append o h x m y (Gave f ∷ r) q one two = (one.0, one.1, one.2, one.3, one.4, one.5, lives_append o h (at (Some _) x.counts) m y r q one.6 two)
lives_append o h x m y (Broke ∷ r) q one two = absurd one

-- a frame was taken, and what it was for was done
abbrev pub TakesFrame : Owner → Option AcceptorValue → LinkState → Frame → LinkState → Type 0
TakesFrame o h x f y = (m : SessionValue) × (taken_at h x.session f ≡ Ok m) × IsServed o x.counts y.counts (purpose f) × (y.session ≡ Some m)

-- one frame was taken
pub took_one : (o : Owner) (h : Option AcceptorValue) (x y : LinkState) (f : Frame) → IsFrame f → TakesFrame o h x f y → LinkLives o h x (map Took (f ∷ [])) y
took_one o h x y f fits one = (one.0, y.counts, one.1, fits, one.2, ap (λ s. at s y.counts) one.3)

-- one frame more was taken
pub took_more : (o : Owner) (h : Option AcceptorValue) (x m y : LinkState) (fs gs : List Frame) (f : Frame) → gs ≡ fs ++ f ∷ [] → LinkLives o h x (map Took fs) m → LinkLives o h m (map Took (f ∷ [])) y → LinkLives o h x (map Took gs) y
took_more o h x m y fs gs f e one two = subst (λ (l : List SessionStep). LinkLives o h x l y) (sym (map-append Took fs (f ∷ [])) ∙ ap (λ l. map Took l) (sym e)) (lives_append o h x m y (map Took fs) (map Took (f ∷ [])) one two)

-- each member of a list of frames is one
pub each_at : (fs : List Frame) (n : ℕ) (d : Frame) → n < length fs → AllByRecursion IsFrame fs → IsFrame (get_or fs n d)
each_at [] n d lt each = absurd (omega arith)
each_at (f ∷ fs) zero d lt each = each.0
each_at (f ∷ fs) (suc n) d lt each = each_at fs n d (omega arith) each.1

-- the frames before the n-th, it, and those after it
pub cut_at : (fs : List Frame) (n : ℕ) (f : Frame) → n < length fs → f ≡ get_or fs n f → fs ≡ take n fs ++ f ∷ drop (suc n) fs
cut_at fs n f lt e = split_at fs n f lt ∙ ap (λ x. take n fs ++ x ∷ drop (suc n) fs) (sym e)

-- the n-th frame was taken, after those before it
pub took_next : (o : Owner) (h : Option AcceptorValue) (x m y : LinkState) (fs : List Frame) (n : ℕ) (f : Frame) → AllByRecursion IsFrame fs → (n < length fs) × (f ≡ get_or fs n f) → LinkLives o h x (map Took (take n fs)) m → TakesFrame o h m f y → LinkLives o h x (map Took (take (n + 1) fs)) y
took_next o h x m y fs n f each at_n before one =
    let fits : IsFrame f = subst (λ (g : Frame). IsFrame g) (sym at_n.1) (each_at fs n f at_n.0 each) in
    took_more o h x m y (take n fs) (take (n + 1) fs) f (take_more fs n f at_n.0 ∙ ap (λ g. take n fs ++ g ∷ []) (sym at_n.1)) before (took_one o h m y f fits one)
