-- Two sessions that talk with each other over a connection which loses nothing.
use Rattle.std.specs.Prelude.{◌≡◌, ◌≢◌, ℕ, ◌≤◌, true, List, [], ◌∷◌, length, Some, Ok}
use Rattle.nm_model.specs.Certificate.{is_done}
use Rattle.nm_sim.specs.Network.{net_of}
use Rattle.nm_book.specs.Book.{BookValue, is_incoming, is_outgoing, replica_of, sent_over}
use Rattle.nm_frames.specs.declared.frame.Frame.{Frame}
use Rattle.nm_frames.specs.Owed.{after_giving, held_on, owed}
use Rattle.nm_frames.specs.Session.{SessionValue, new_session, taken}

-- which of the two gives a frame
pub data Turn : Type 0 where
  First : Turn
  Second : Turn

-- Turn by turn one session gives the frame that it owes of its book, and the other one takes it.
-- Nobody changes the books meanwhile.
abbrev pub Talks : BookValue × BookValue → List Turn → SessionValue × SessionValue
    → SessionValue × SessionValue → Type 0
Talks books [] before after = after ≡ before
Talks books (First ∷ turns) before after =
    (f : Frame) × (u : SessionValue) × (owed before.0 books.0 ≡ Some f)
    × (taken before.1 f ≡ Ok u) × Talks books turns (after_giving before.0 f, u) after
Talks books (Second ∷ turns) before after =
    (f : Frame) × (u : SessionValue) × (owed before.1 books.1 ≡ Some f)
    × (taken before.0 f ≡ Ok u) × Talks books turns (u, after_giving before.1 f) after

-- replicas of two partitions of one network, for which nothing is left to do
pub record AreNeighbours (a b : BookValue) : Type 0 where
  pub topology : b.topology ≡ a.topology
  pub apart : a.partition ≢ b.partition
  pub first_done : is_done (net_of a.topology) a.partition (replica_of a) ≡ true
  pub second_done : is_done (net_of b.topology) b.partition (replica_of b) ≡ true

-- of each channel that runs from a to b, b holds no more messages than a has sent
abbrev pub HoldsSent : BookValue → BookValue → Type 0
HoldsSent a b =
    (c : ℕ) → is_outgoing a c ≡ true → is_incoming b c ≡ true → held_on b c ≤ length (sent_over a c)

-- the session of replica a with partition b's, before any frame
abbrev pub session_of : BookValue → BookValue → SessionValue
session_of a b = new_session a.topology a.partition a.replica b.partition
