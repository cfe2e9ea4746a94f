-- The certificate: when finished books agree with one another, with no premise on how they came to
-- know it.
use Rattle.std.specs.Prelude.{◌≡◌, ◌≢◌, ◌⊎◌, ℕ, zero, suc, ◌<◌, ◌≤◌, Bool, true, false, if◌then◌else◌, not, ◌&&◌, ◌||◌, ◌==◌, ltb, length, List, [], ◌∷◌, Option, Some, None}
use Rattle.nm_model.specs.Lists.{nth, IsPrefix}
use Rattle.nm_model.specs.Network.{Net}
use Rattle.nm_model.specs.Run.{pends_before}
use Rattle.nm_model.specs.Knowledge.{Know}
use Rattle.nm_model.specs.Accept.{same_message, last_from}
use Rattle.nm_model.specs.Join.{or_else}
use Rattle.nm_model.specs.Partition.{comes_in, sender_of}
use Rattle.nm_model.specs.Replica.{safe_time, IsWithin}
use Rattle.nm_model.specs.Promise.{Promising, promise}
use Rattle.nm_model.specs.World.{Replica, state_of, outgoing}
use Rattle.nm_model.specs.Rounds.{given}

-- a replica's book, and its partition
pub record Book (P : Type 0) : Type 0 where
  pub part : ℕ
  pub replica : Replica P

pub data CertificateFault : Type 0 where
  -- this partition has no book
  MissingPart : ℕ → CertificateFault
  -- a book of this partition is not done
  UnfinishedPart : ℕ → CertificateFault
  -- on this channel the receiver's message of this number isn't the sender's
  PrefixFault : ℕ → ℕ → CertificateFault
  -- on this channel the sender's next message is before the receiver's clock
  ClockFault : ℕ → CertificateFault
  -- on this channel the receiver's clock is past both the sender's promise and its own last message
  PromiseFault : ℕ → CertificateFault

module _ {P N : Type 0} (net : Net P N) where
  abbrev pub is_done : ℕ → Replica P → Bool
  is_done p x =
      (safe_time net p x.knowledge == net.stop) && not (pends_before net.stop (state_of net p x))

  -- one finished book for each partition: the receiver's list is the beginning of what the
  -- sender put on the channel, and the sender's next message is not before the receiver's
  -- clock
  pub record AreFinished (books : ℕ → Replica P) : Type 0 where
    pub within : (p : ℕ) → IsWithin net p (books p).knowledge (books p).ran
    pub done : (p : ℕ) → is_done p (books p) ≡ true
    pub begins : (p c : ℕ) → comes_in net p c ≡ true
        → IsPrefix ((books p).knowledge c).list (given net books c)
    pub next : (p c : ℕ) (b : ℕ × P) → comes_in net p c ≡ true
        → nth (given net books c) (length ((books p).knowledge c).list) ≡ Some b
        → ((books p).knowledge c).clock ≤ b.0

  module _ (kind : Promising) where
    -- what book r knows of channel c is what book s has for it
    pub record Matches (c : ℕ) (r s : Book P) : Type 0 where
      pub begins : IsPrefix (r.replica.knowledge c).list (outgoing net s.part s.replica c)
      pub next : (b : ℕ × P)
          → nth (outgoing net s.part s.replica c) (length (r.replica.knowledge c).list) ≡ Some b
          → (r.replica.knowledge c).clock ≤ b.0
      -- a message may raise the clock past the plain promise, which stop bounds, up to its own time
      pub promised :
          ((r.replica.knowledge c).clock
          ≤ promise net kind s.part s.replica.knowledge s.replica.ran c)
          ⊎ (last_from (r.replica.knowledge c).clock (r.replica.knowledge c).list ≡ true)

    -- each partition has a book, each book is done, and on each channel each receiving book
    -- matches each sending one
    pub record IsCertified (books : List (Book P)) : Type 0 where
      pub there : (p : ℕ) → p < net.parts
          → (i : ℕ) × (b : Book P) × (nth books i ≡ Some b) × (b.part ≡ p)
      pub done : (i : ℕ) (b : Book P) → nth books i ≡ Some b → is_done b.part b.replica ≡ true
      pub matches : (i j c : ℕ) (r s : Book P) → nth books i ≡ Some r → nth books j ≡ Some s
          → comes_in net r.part c ≡ true → s.part ≡ sender_of net c → Matches c r s

-- the first fault of a list, and of the numbers below n
abbrev pub first_of : {A : Type 0} → (A → Option CertificateFault) → List A
    → Option CertificateFault
first_of f [] = None
first_of f (x ∷ l) = or_else (f x) (first_of f l)

abbrev pub first_below : (ℕ → Option CertificateFault) → ℕ → Option CertificateFault
first_below f zero = None
first_below f (suc n) = or_else (first_below f n) (f n)

abbrev pub has_part : {P : Type 0} → ℕ → List (Book P) → Bool
has_part p [] = false
has_part p (b ∷ l) = (b.part == p) || has_part p l

-- the first number at which the first list's message isn't the second's, counted from n
abbrev pub prefix_fault : {P : Type 0} → (P → P → Bool) → ℕ → ℕ → List (ℕ × P) → List (ℕ × P)
    → Option CertificateFault
prefix_fault same c n [] l = None
prefix_fault same c n (x ∷ k) [] = Some (PrefixFault c n)
prefix_fault same c n (x ∷ k) (y ∷ l) =
    if same_message same x y then prefix_fault same c (suc n) k l else Some (PrefixFault c n)

-- the clock is past a promise, and past the last message
abbrev pub promise_fault : {P : Type 0} → ℕ → Know P → ℕ → Option CertificateFault
promise_fault c a promised =
    if ltb promised a.clock && not (last_from a.clock a.list) then Some (PromiseFault c) else None

abbrev pub clock_fault : {P : Type 0} → ℕ → ℕ → Option (ℕ × P) → Option CertificateFault
clock_fault c t None = None
clock_fault c t (Some b) = if ltb b.0 t then Some (ClockFault c) else None

module _ {P N : Type 0} (net : Net P N) (same : P → P → Bool) (kind : Promising) where
  abbrev pub channel_fault : ℕ → Book P → Book P → Option CertificateFault
  channel_fault c r s =
      let a = r.replica.knowledge c in
      let out = outgoing net s.part s.replica c in
      or_else (prefix_fault same c 0 a.list out)
      (or_else (clock_fault c a.clock (nth out (length a.list)))
      (promise_fault c a (promise net kind s.part s.replica.knowledge s.replica.ran c)))

  -- by receiving book, then channel, then sending book
  abbrev pub book_fault : List (Book P) → Book P → Option CertificateFault
  book_fault books r =
      first_below
      (λ c.
      if comes_in net r.part c
      then first_of (λ s. if s.part == sender_of net c then channel_fault c r s else None) books
      else None)
      net.ifaces

  -- the certificate's first fault: a partition with no book, a book that isn't done, a channel
  -- on which two books don't match
  abbrev pub certify : List (Book P) → Option CertificateFault
  certify books =
      or_else (first_below (λ p. if has_part p books then None else Some (MissingPart p)) net.parts)
      (or_else
      (first_of
      (λ (b : Book P). if is_done net b.part b.replica then None else Some (UnfinishedPart b.part))
      books)
      (first_of (book_fault books) books))

module _ {P N : Type 0} (net : Net P N) (kind : Promising) where
  -- book r's knowledge of channel c beside book s: this is the first number at which the sender's
  -- message is another or none
  abbrev pub MissesPrefix : ℕ → Book P → Book P → ℕ → Type 0
  MissesPrefix c r s n =
      (x : ℕ × P) × (nth (r.replica.knowledge c).list n ≡ Some x)
      × (nth (outgoing net s.part s.replica c) n ≢ Some x)
      × ((m : ℕ) → m < n
      → nth (r.replica.knowledge c).list m ≡ nth (outgoing net s.part s.replica c) m)

  -- the sender's next message is before the clock
  abbrev pub MissesClock : ℕ → Book P → Book P → Type 0
  MissesClock c r s =
      IsPrefix (r.replica.knowledge c).list (outgoing net s.part s.replica c)
      × ((b : ℕ × P)
      × (nth (outgoing net s.part s.replica c) (length (r.replica.knowledge c).list) ≡ Some b)
      × (b.0 < (r.replica.knowledge c).clock))

  -- the clock, which is not past the sender's next message, is past both the promise and the last
  -- message
  abbrev pub MissesPromise : ℕ → Book P → Book P → Type 0
  MissesPromise c r s =
      IsPrefix (r.replica.knowledge c).list (outgoing net s.part s.replica c)
      × ((b : ℕ × P)
      → nth (outgoing net s.part s.replica c) (length (r.replica.knowledge c).list) ≡ Some b
      → (r.replica.knowledge c).clock ≤ b.0)
      × (promise net kind s.part s.replica.knowledge s.replica.ran c
      < (r.replica.knowledge c).clock)
      × (last_from (r.replica.knowledge c).clock (r.replica.knowledge c).list ≡ false)

  -- what a fault shows of book r's knowledge of channel c beside book s
  abbrev pub Misses : ℕ → Book P → Book P → CertificateFault → Type 0
  Misses c r s f =
      ((n : ℕ) × (f ≡ PrefixFault c n) × MissesPrefix c r s n)
      ⊎ ((f ≡ ClockFault c) × MissesClock c r s)
      ⊎ ((f ≡ PromiseFault c) × MissesPromise c r s)

  -- the first two books that do not match: by receiving book, then channel, then sending book
  pub record IsFirstMismatch (books : List (Book P)) (f : CertificateFault) : Type 0 where
    pub i : ℕ
    pub c : ℕ
    pub j : ℕ
    pub r : Book P
    pub s : Book P
    pub receives : nth books i ≡ Some r
    pub comes : comes_in net r.part c ≡ true
    pub sends : nth books j ≡ Some s
    pub from : s.part ≡ sender_of net c
    pub misses : Misses c r s f
    pub books_before : (k l d : ℕ) (q t : Book P) → k < i → nth books k ≡ Some q
        → nth books l ≡ Some t → comes_in net q.part d ≡ true → t.part ≡ sender_of net d
        → Matches net kind d q t
    pub channels_before : (d l : ℕ) (t : Book P) → d < c → comes_in net r.part d ≡ true
        → nth books l ≡ Some t → t.part ≡ sender_of net d → Matches net kind d r t
    pub senders_before : (l : ℕ) (t : Book P) → l < j → nth books l ≡ Some t
        → t.part ≡ sender_of net c → Matches net kind c r t

  -- each partition has a book
  abbrev pub AreThere : List (Book P) → ℕ → Type 0
  AreThere books n =
      (p : ℕ) → p < n → (i : ℕ) × (b : Book P) × (nth books i ≡ Some b) × (b.part ≡ p)

  -- the books below this number are done
  abbrev pub AreDone : List (Book P) → ℕ → Type 0
  AreDone books n =
      (i : ℕ) (b : Book P) → i < n → nth books i ≡ Some b → is_done net b.part b.replica ≡ true

  -- what the certificate's fault shows: the least partition that has no book; else the first
  -- book that is not done; else the first two books that do not match
  abbrev pub FaultShows : List (Book P) → CertificateFault → Type 0
  FaultShows books (MissingPart p) = (p < net.parts) × AreThere books p
      × ((i : ℕ) (b : Book P) → nth books i ≡ Some b → b.part ≢ p)
  FaultShows books (UnfinishedPart p) =
      AreThere books net.parts
      × ((i : ℕ) × (b : Book P) × (nth books i ≡ Some b) × (b.part ≡ p)
      × (is_done net b.part b.replica ≡ false) × AreDone books i)
  FaultShows books (PrefixFault c n) = AreThere books net.parts × AreDone books (length books)
      × IsFirstMismatch books (PrefixFault c n)
  FaultShows books (ClockFault c) =
      AreThere books net.parts × AreDone books (length books) × IsFirstMismatch books (ClockFault c)
  FaultShows books (PromiseFault c) = AreThere books net.parts × AreDone books (length books)
      × IsFirstMismatch books (PromiseFault c)
