-- The owner of the book that a link acts on, and what its pass has counted.
use Rattle.std.specs.Prelude.{◌≡◌, ℕ, ◌+◌, ◌≤◌, Bool, true, false, Option}
use Rattle.nm_book.specs.Book.{BookValue}
use Rattle.nm_frames.specs.Session.{SessionValue}
use Rattle.nm_shared.specs.Counted.{PassCounts, RanWithin, counts_of, nowhere}
use Rattle.nm_shared.specs.Home.{Home, home_of}
use Rattle.nm_shared.specs.Known.{messages_known}

-- whether counts are exact, and, if so, which replica the book is
pub record Owner : Type 0 where
  pub exact : Bool
  pub home : Home

abbrev pub owner_if : Bool → Home → Owner
owner_if exact home = record { exact = exact; home = home }

-- it may be any book
abbrev pub anyone : Owner
anyone = owner_if false nowhere

-- nothing is counted, which holds of any pass
abbrev pub none_counted : PassCounts
none_counted = record { messages = 0; events = 0 }

-- what a pass has counted by its share, if counts are exact
abbrev pub counted_by : {S : Type 0} → Bool → (messages events : S → ℕ) → S → PassCounts
counted_by true messages events share = counts_of messages events share
counted_by false messages events share = none_counted

-- Acts of a pass: the owner of the book, and what the pass has counted before and after them.
pub record ByPass : Type 0 where
  pub owner : Owner
  pub before : PassCounts
  pub after : PassCounts

abbrev pub by_pass : {S : Type 0} → Bool → Home → (messages events : S → ℕ) → (old new : S)
    → ByPass
by_pass exact home messages events old new = record {
  owner = owner_if exact home;
  before = counted_by exact messages events old;
  after = counted_by exact messages events new;
}

-- A book that an act met. If counts are exact, it is the owner's, and knows and did no less than
-- the pass has counted. Each event that it did was before its safe time.
pub record IsMet (o : Owner) (counts : PassCounts) (b : BookValue) : Type 0 where
  pub home : o.exact ≡ true → home_of b ≡ o.home
  pub at_least : o.exact ≡ true
      → (counts.messages ≤ messages_known b) × (counts.events ≤ b.events)
  pub within : RanWithin b

-- so many messages more are counted, and no event
pub record CountsMore (o : Owner) (before : PassCounts) (more : ℕ) (after : PassCounts)
    : Type 0 where
  pub messages : o.exact ≡ true → after.messages ≡ before.messages + more
  pub events : o.exact ≡ true → after.events ≡ before.events

-- the state of a link: its session, if there is one, and what the pass has counted
pub record LinkState : Type 0 where
  pub session : Option SessionValue
  pub counts : PassCounts

abbrev pub at : Option SessionValue → PassCounts → LinkState
at session counts = record { session = session; counts = counts }

-- its state with this session and this share of the pass
abbrev pub reached : {S : Type 0} → Bool → (messages events : S → ℕ) → Option SessionValue → S
    → LinkState
reached exact messages events session share =
    at session (counted_by exact messages events share)
