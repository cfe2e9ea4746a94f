-- How the amounts of a pass rise.
use Rattle.std.specs.Prelude.{◌≡◌, ℕ, ◌+◌, ◌-◌, ◌^◌, ◌<◌, ◌≤◌, Bool, true, false, []}
use Rattle.nm_model.specs.Replica.{IsWithin}
use Rattle.nm_sim.specs.Network.{net_of}
use Rattle.nm_book.specs.Book.{BookValue, knowledge}
use Rattle.nm_shared.specs.Known.{Grows, HasAllChannels, messages_known}
use Rattle.nm_shared.specs.Home.{Home, home_of}

-- n is added to a; if counts aren't exact, only while the sum fits 64 bits
abbrev pub Rises : Bool → ℕ → ℕ → ℕ → Type 0
Rises exact a n b = (exact ≡ false → a + n < 2 ^ 64) → b ≡ a + n

-- each event that a book did was before its safe time
abbrev pub RanWithin : BookValue → Type 0
RanWithin b = IsWithin (net_of b.topology) b.partition (knowledge b) b.events

-- how many messages and events a pass has counted
pub record PassCounts : Type 0 where
  pub messages : ℕ
  pub events : ℕ

-- the same, by its share
abbrev pub counts_of : {S : Type 0} → (messages events : S → ℕ) → S → PassCounts
counts_of messages events share = record { messages = messages share; events = events share }

-- One act took the book b to c, by a pass that had counted `before`, and `after` once it was done.
-- The book had no less than the pass had counted, and the pass then counts what was added.
pub record Meets (exact : Bool) (own : Home) (before after : PassCounts) (b c : BookValue)
    : Type 0 where
  pub home : exact ≡ true → home_of b ≡ own
  pub channels : HasAllChannels b
  pub within : RanWithin b × RanWithin c
  pub grows : Grows b c
  pub at_least : exact ≡ true
      → (before.messages ≤ messages_known b) × (before.events ≤ b.events)
  pub messages : Rises exact before.messages (messages_known c - messages_known b) after.messages
  pub events : Rises exact before.events (c.events - b.events) after.events

-- a blank, of this name and cut into so many parts, is that of a ledger, and is cut into 2 ^ 32
abbrev pub IsBlankOf : (own own_parts name parts : ℕ) → Type 0
IsBlankOf own own_parts name parts = (name ≡ own) × (parts ≡ own_parts) × (parts ≡ 2 ^ 32)

-- no book's
abbrev pub nowhere : Home
nowhere = record {
  topology = record {
    stop = 0;
    mtu = 0;
    nodes = [];
    ifaces = [];
    links = [];
    sources = [];
    receivers = [];
    partitions = 0;
    digest = [];
  };
  partition = 0;
  replica = 0;
}
