-- Connections that have their turns, one key after another.
use Rattle.std.specs.Prelude.{◌≡◌, ◌≢◌, ◌⊎◌, ℕ, suc, zero, ◌+◌, ◌<◌, ◌≤◌, length, Bool, true, false, ◌||◌, Option, Some, None, IsSomeAnd, if◌then◌else◌}
use Rattle.nm_base.specs.Count.{saturated}
use Rattle.nm_base.specs.Wire.{WireSeen}
use Rattle.nm_engine.specs.Link.{LinkValue}
use Rattle.nm_engine.specs.Passes.{ByPass, Owner, owner_if}
use Rattle.nm_engine.specs.Turn.{Hears, Turns}
use Rattle.nm_engine.specs.declared.answer.Turn.{Turn}
use Rattle.nm_engine.specs.declared.answer.Turn.TheVariants as turn
use Rattle.nm_policy.specs.Contact.{does_count}
use Rattle.nm_policy.specs.Contacts.{contact_at, is_slot}
use Rattle.nm_shared.specs.Home.{Home}
use Rattle.slab.specs.Slab.{Slab, get}
use Rattle.nm_replica.specs.Breaks.{goes_after}
use Rattle.nm_replica.specs.Connections.{AreAllReady, IsNoneReady, SettlesAs, WaitsOnce, is_abandoned, is_ready, known_after, sessions_if}
use Rattle.nm_replica.specs.Moved.{CountsMovesAt}
use Rattle.nm_replica.specs.declared.connection.Connection.{Connection}
use Rattle.nm_replica.specs.declared.connections.Connections.{Connections}
use Rattle.nm_replica.specs.declared.limits.TheConstants.{MAX_TURNS}
use Rattle.nm_replica.specs.declared.turning.Does.{Does}
use Rattle.nm_replica.specs.declared.turning.Does.TheVariants.{Hear, Speak}
use Rattle.nm_replica.specs.declared.turning.Moves.{Moves}

-- whether something moved in a turn, and the link goes on
abbrev pub has_moved : Turn → Bool
has_moved turn.Progress = true
has_moved turn.Idle = false
has_moved turn.Ended = false
has_moved (turn.Broken cause) = false
has_moved turn.Failed = false

-- The links of a replica: what is seen of their wires, and the book that they act on.
pub record Links (W : Type 0) : Type 0 where
  pub seen : W → WireSeen
  pub owner : Owner

abbrev pub links : {W : Type 0} → (W → WireSeen) → Bool → Home → Links W
links seen exact home = record { seen = seen; owner = owner_if exact home }

-- The turns of one link, in each of which it only reads, or also writes.
module _ {W : Type 0} (seen : W → WireSeen) where
  -- one turn, by the pass of the replica's book
  abbrev pub TurnsAs : ByPass → Does → (old new : LinkValue W) → Turn → Type 0
  TurnsAs by Hear old new turn = Hears seen by old new turn
  TurnsAs by Speak old new turn = Turns seen by old new turn

  module _ (o : Owner) where
    -- whatever the pass had counted
    abbrev pub TurnsOnce : Does → (old new : LinkValue W) → Turn → Type 0
    TurnsOnce does old new turn =
        (by : ByPass) × (by.owner ≡ o) × TurnsAs by does old new turn

    -- so many, in each of which something moved
    abbrev pub Progresses : Does → ℕ → (old new : LinkValue W) → Type 0
    Progresses does zero old new = new ≡ old
    Progresses does (suc n) old new =
        (mid : LinkValue W) × Progresses does n old mid × TurnsOnce does mid new turn.Progress

    -- as many turns as it may have, or up to the first in which nothing moved or which was the last
    abbrev pub HasTurns : Does → (old new : LinkValue W) → Turn → Type 0
    HasTurns does old new last =
        ((n : ℕ) × (n ≡ MAX_TURNS) × Progresses does n old new × (last ≡ turn.Progress))
        ⊎ ((n : ℕ) × (mid : LinkValue W) × (n < MAX_TURNS) × Progresses does n old mid
        × TurnsOnce does mid new last × (has_moved last ≡ false))

-- the same under a key: no turn if no connection has it
abbrev pub HasTurnsAt : {W : Type 0} → Links W → Does → (old new : Option (Connection W)) → Turn
    → Type 0
HasTurnsAt l does None new last = last ≡ turn.Idle
HasTurnsAt l does (Some old) new last =
    IsSomeAnd new (λ c. HasTurns (λ w. l.seen w.wire) l.owner does old.link c.link last)

-- no other key has another connection than before
abbrev pub KeepsOthers : {W : Type 0} → ℕ → (old new : Slab (Connection W)) → Type 0
KeepsOthers key old new = (other : ℕ) → other ≢ key → get new other ≡ get old other

-- a key keeps its connection after its last turn if that is not abandoned, and loses it if the link
-- ended or broke
abbrev pub kept_after : {W : Type 0} → Turn → (abandoned : Bool) → Option (Connection W)
    → Option (Connection W)
kept_after turn.Progress abandoned connection = if abandoned then None else connection
kept_after turn.Idle abandoned connection = if abandoned then None else connection
kept_after turn.Ended abandoned connection = None
kept_after (turn.Broken cause) abandoned connection = None
kept_after turn.Failed abandoned connection = connection

module _ {W : Type 0} (key : ℕ) (old new : Connections W) where
  -- the connection with the key, if there is one, has its turns with this result, and its octets
  -- count once its greeting is over; nothing else changes
  pub record GivesTurns (l : Links W) (does : Does) (r : Moves × Turn) : Type 0 where
    pub talked : HasTurnsAt l does (get old.open key) (get new.open key) r.1
    pub moved : CountsMovesAt (is_slot does_count (contact_at old.contacts.connections key))
        (get old.open key) (get new.open key) r.0
    pub others : KeepsOthers key old.open new.open
    pub contacts : new.contacts ≡ old.contacts
    pub sessions : new.sessions ≡ old.sessions

  -- what its last turn requires is done, and nothing else; `has_heard`: octets were received in it
  pub record SettlesKey (last : Turn) (has_heard : Bool) : Type 0 where
    pub contacts : SettlesAs key last (get old.open key)
        (known_after key has_heard (get old.open key) old.contacts) new.contacts
    pub own : get new.open key ≡ kept_after last
        (is_abandoned (contact_at
        (known_after key has_heard (get old.open key) old.contacts).connections key)
        (get old.open key)) (get old.open key)
    pub others : KeepsOthers key old.open new.open
    pub sessions : new.sessions ≡ sessions_if (goes_after last (is_abandoned (contact_at
        (known_after key has_heard (get old.open key) old.contacts).connections key)
        (get old.open key))) (contact_at
        (known_after key has_heard (get old.open key) old.contacts).connections key)
        (get old.open key) old.sessions

-- nothing moved, and no connection may want more
abbrev pub HasMovedNothing : Moves → Type 0
HasMovedNothing m =
    (m.moved ≡ 0) × (m.octets ≡ 0) × (m.has_heard ≡ false) × (m.has_more ≡ false)

-- what turns came to with those of one more connection: how many octets moved with peers, and how
-- many of them count as activity; whether any were received; and whether one may want more
pub record AddsUp (before more all : Moves) : Type 0 where
  pub moved : all.moved ≡ saturated (before.moved + more.moved)
  pub octets : all.octets ≡ saturated (before.octets + more.octets)
  pub has_heard : all.has_heard ≡ (before.has_heard || more.has_heard)
  pub has_more : all.has_more ≡ (before.has_more || more.has_more)

module _ {W : Type 0} (l : Links W) where
  -- a key is served: its connection has its turns, and what the last one requires is done
  abbrev pub ServesKey : Does → ℕ → (old new : Connections W) → Moves → Type 0
  ServesKey does key old new m =
      (turned : Connections W) × (last : Turn)
      × GivesTurns key old turned l does (m, last) × (m.has_more ≡ has_moved last)
      × SettlesKey key turned new last m.has_heard

  -- so many keys are served, one after another; what all these turns came to
  abbrev pub ServesKeys : Does → ℕ → (old new : Connections W) → (all : Moves) → Type 0
  ServesKeys does zero old new all = (new ≡ old) × HasMovedNothing all
  ServesKeys does (suc n) old new all =
      (mid : Connections W) × (before : Moves) × (m : Moves)
      × ServesKeys does n old mid before × ServesKey does n mid new m × AddsUp before m all

  -- all keys are served: no connection has a greater one
  abbrev pub ServesAll : Does → (old new : Connections W) → (all : Moves) → Type 0
  ServesAll does old new all =
      (n : ℕ) × (length old.open.slots ≤ n) × ServesKeys does n old new all

  -- all keys are served twice: connections first only read, and then also write; what these second
  -- turns came to, and how many octets moved in both
  abbrev pub ServesTwice : (old new : Connections W) → (moved octets : ℕ) → (said : Moves) → Type 0
  ServesTwice old new moved octets said =
      (mid : Connections W) × (heard : Moves)
      × ServesAll Hear old mid heard × ServesAll Speak mid new said
      × (moved ≡ saturated (heard.moved + said.moved))
      × (octets ≡ saturated (heard.octets + said.octets))

  -- a wait, after which all keys are served twice; all are read if a period was over
  abbrev pub WaitsAndServes : (ran_out : Bool) → (old new : Connections W) → (moved octets : ℕ)
      → (said : Moves) → Type 0
  WaitsAndServes ran_out old new moved octets said =
      (waited : Connections W) × WaitsOnce ran_out old.contacts waited.contacts
      × (ran_out ≡ true → AreAllReady waited.open) × ServesTwice waited new moved octets said

module _ {W : Type 0} (said : Moves) (runs_on : Bool) (slab : Slab (Connection W)) where
  -- After all keys were served twice more may be done without a report of a connection exactly if
  -- octets were received in the second turns, a connection had all of these and may want more, the
  -- book runs on, or there may be something to read on a connection.
  pub record MayDoMore (has_more : Bool) : Type 0 where
    pub some : has_more ≡ true → (said.has_heard ≡ true) ⊎ (said.has_more ≡ true)
        ⊎ (runs_on ≡ true) ⊎ ((key : ℕ) × (is_ready (get slab key) ≡ true))
    pub none : has_more ≡ false → (said.has_heard ≡ false) × (said.has_more ≡ false)
        × (runs_on ≡ false) × IsNoneReady slab
