-- What a pass has counted.
use Rattle.std.proofs.Common.{◌≡◌, ℕ, ◌+◌, ◌-◌, Bool, true, false, List, [], ◌∷◌, Option, Some, refl, sym, ◌∙◌, ap, true≢false, arith}
use Rattle.nm_book.specs.Book.{BookValue}
use Rattle.nm_frames.specs.declared.taken.Taken.{Taken}
use Rattle.nm_frames.specs.declared.taken.Taken.TheVariants.{Greeted, Cursor, ForBook, Ended}
use Rattle.nm_frames.specs.Lives.{SessionStep, Took, Gave, Broke}
use Rattle.nm_frames.specs.Session.{purpose}
use Rattle.nm_shared.specs.Counted.{Meets, PassCounts, counts_of}
use Rattle.nm_shared.specs.Home.{Home}
use Rattle.nm_shared.specs.Known.{messages_known}
use Rattle.nm_engine.specs.Acceptor.{AcceptorValue}
use Rattle.nm_engine.specs.Lives.{IsServed, LinkLives}
use Rattle.nm_engine.specs.Passes.{CountsMore, IsMet, LinkState, Owner, anyone, at, counted_by, none_counted, owner_if}

abbrev both : ℕ → ℕ → PassCounts
both m e = record { messages = m; events = e }

module _ {S : Type 0} (messages events : S → ℕ) (old new : S) where
  -- nothing was counted
  pub same_counts : (exact : Bool) → (exact ≡ true → messages new ≡ messages old + 0) → (exact ≡ true → events new ≡ events old)
      → counted_by exact messages events new ≡ counted_by exact messages events old
  same_counts true m e =
      let n : messages new ≡ messages old = let is = m refl in omega (arith, is) in
      ap (λ (x : ℕ). both x (events new)) n ∙ ap (λ (x : ℕ). both (messages old) x) (e refl)
  same_counts false m e = refl

  -- so many messages were counted
  pub counts_more : (exact : Bool) (home : Home) (n : ℕ) → (exact ≡ true → messages new ≡ messages old + n) → (exact ≡ true → events new ≡ events old)
      → CountsMore (owner_if exact home) (counted_by exact messages events old) n (counted_by exact messages events new)
  counts_more true home n m e = record { messages = m; events = e }
  counts_more false home n m e = record { messages = λ is. absurd (true≢false (sym is)); events = λ is. absurd (true≢false (sym is)) }

  -- the book that an act met
  pub is_met : (exact : Bool) (home : Home) (b c : BookValue) → Meets exact home (counts_of messages events old) (counts_of messages events new) b c → IsMet (owner_if exact home) (counted_by exact messages events old) b
  is_met true home b c met = record { home = met.home; at_least = met.at_least; within = met.within.0 }
  is_met false home b c met = record { home = λ is. absurd (true≢false (sym is)); at_least = λ is. absurd (true≢false (sym is)); within = met.within.0 }

  -- an act that leaves the book as it is counts nothing
  pub looked : (exact : Bool) (home : Home) (b c : BookValue) → c ≡ b → Meets exact home (counts_of messages events old) (counts_of messages events new) b c
      → counted_by exact messages events new ≡ counted_by exact messages events old
  looked true home b c same met =
      let m : messages new ≡ messages old + (messages_known c - messages_known b) = met.messages (λ is. absurd (true≢false is)) in
      let e : events new ≡ events old + (c.events - b.events) = met.events (λ is. absurd (true≢false is)) in
      let known = ap messages_known same in
      let did = ap (λ (x : BookValue). x.events) same in
      same_counts true (λ _. omega (arith, m, known)) (λ _. omega (arith, e, did))
  looked false home b c same met = refl

-- without counts, by any book
module _ (o : Owner) where
  of_any : (k : PassCounts) (b : BookValue) → IsMet o k b → IsMet anyone none_counted b
  of_any k b met = record { home = λ is. absurd (true≢false (sym is)); at_least = λ is. absurd (true≢false (sym is)); within = met.within }

  served_any : (k l : PassCounts) (t : Taken) → IsServed o k l t → IsServed anyone none_counted none_counted t
  served_any k l Greeted is = refl
  served_any k l Cursor is = refl
  served_any k l (ForBook m) (b, c, a, met, takes, more) = (b, c, a, of_any k b met, takes, record { messages = λ is. absurd (true≢false (sym is)); events = λ is. absurd (true≢false (sym is)) })
  served_any k l Ended is = refl

  pub uncounted : (h : Option AcceptorValue) (x y : LinkState) (r : List SessionStep) → LinkLives o h x r y → LinkLives anyone h (at x.session none_counted) r (at y.session none_counted)
  uncounted h x y [] lives = ap (λ (z : LinkState). at z.session none_counted) lives
  uncounted h x y (Took f ∷ r) (m, k, takes, fits, served, more) = (m, none_counted, takes, fits, served_any x.counts k (purpose f) served, uncounted h (at (Some m) k) y r more)
  uncounted h x y (Gave f ∷ r) (m, b, is, owes, met, fits, more) = (m, b, is, owes, of_any x.counts b met, fits, uncounted h (at (Some _) x.counts) y r more)
  uncounted h x y (Broke ∷ r) lives = absurd lives
