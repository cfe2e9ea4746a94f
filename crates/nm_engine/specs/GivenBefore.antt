-- What was given to which replica on connections that are gone.
use Rattle.std.specs.Prelude.{◌≡◌, ◌⊎◌, ℕ, ◌+◌, ◌==◌, ◌&&◌, Bool, List, [], ◌∷◌, ◌++◌, position, slice_get, slice_set, Option, Some, None}
use Rattle.nm_base.specs.Count.{saturated}
use Rattle.nm_frames.specs.declared.replica_name.ReplicaName.{ReplicaName}
use Rattle.nm_engine.specs.Given.{NotesAll, common_between}
use Rattle.nm_engine.specs.declared.given.Given.{Given}
use Rattle.nm_engine.specs.declared.given.GivenMessages.{GivenMessages}
use Rattle.nm_engine.specs.declared.given_before.GivenBefore.{GivenBefore}

-- it is what was given to this replica
abbrev pub is_replica_named : ReplicaName → ReplicaName × GivenMessages → Bool
is_replica_named name given =
    (given.0.partition == name.partition) && (given.0.replica == name.replica)

-- the place of a replica among those to which something was given
abbrev pub place_of_replica : ReplicaName → List (ReplicaName × GivenMessages) → Option ℕ
place_of_replica name all = position (is_replica_named name) all

-- how many of these messages had been given before, where this was
abbrev pub resent_of : GivenMessages → Option (ReplicaName × GivenMessages) → ℕ
resent_of messages None = 0
resent_of messages (Some before) =
    saturated (common_between messages.ranges.items before.1.ranges.items)

-- what was given at a place, if it is one
abbrev pub given_at : List (ReplicaName × GivenMessages) → Option ℕ
    → Option (ReplicaName × GivenMessages)
given_at all None = None
given_at all (Some n) = slice_get all n

-- how many of these messages, given to this replica, had been given to it before
abbrev pub resent_in : List (ReplicaName × GivenMessages) → ReplicaName → GivenMessages → ℕ
resent_in all name messages = resent_of messages (given_at all (place_of_replica name all))

-- these messages are noted at the replica's place, or behind all if it has none, unless memory was
-- refused
abbrev pub NotesMore : (old new : List (ReplicaName × GivenMessages)) → ReplicaName → GivenMessages
    → Option ℕ → Type 0
NotesMore old new name messages None = (new ≡ old ++ (name, messages) ∷ []) ⊎ (new ≡ old)
NotesMore old new name messages (Some n) =
    (before : ReplicaName × GivenMessages) × (after : GivenMessages)
    × (slice_get old n ≡ Some before)
    × NotesAll before.1.ranges.items after.ranges.items messages.ranges.items
    × (new ≡ slice_set old n (before.0, after))

-- a connection is gone: what was given on it counts as resent as far as it had been given before,
-- and is noted
pub record KeepsOf (name : ReplicaName) (messages : GivenMessages) (old new : GivenBefore)
    : Type 0 where
  pub resent : new.resent ≡ saturated (old.resent + resent_in old.all.items name messages)
  pub noted : NotesMore old.all.items new.all.items name messages
      (place_of_replica name old.all.items)

-- so it is if the peer was known and what was given was counted; else nothing changes
abbrev pub KeepsGiven : Option ReplicaName → Option Given → (old new : GivenBefore) → Type 0
KeepsGiven None given old new = new ≡ old
KeepsGiven (Some name) None old new = new ≡ old
KeepsGiven (Some name) (Some given) old new = KeepsOf name given.messages old new
