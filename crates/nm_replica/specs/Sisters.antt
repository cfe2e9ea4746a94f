-- What the other replica of a partition knows, merged.
use Rattle.std.specs.Prelude.{◌≡◌, ℕ, ◌==◌, ◌&&◌, Bool, true, false, nat_lt, not, Option, Some, None, IfSome, is_some}
use Rattle.nm_frames.specs.declared.replica_name.ReplicaName.{ReplicaName}
use Rattle.nm_replica.specs.declared.sisters.Merged.{Merged}

abbrev pub replica_name : (partition replica : ℕ) → ReplicaName
replica_name partition replica = record { partition = partition; replica = replica }

-- whether the second of these replicas is the sister of the first: the other one of its partition
abbrev pub is_sister_of : ReplicaName → ReplicaName → Bool
is_sister_of own other = (other.partition == own.partition) && not (other.replica == own.replica)

-- whether there is a book with this number, and a pass of it among so many
abbrev pub has_pass : Option ℕ → (passes : ℕ) → Bool
has_pass None passes = false
has_pass (Some n) passes = nat_lt n passes

-- What was merged, if the sister's book is there and has a pass: the sister's knowledge, into the
-- replica's own book.
pub record MergesSister (own : ReplicaName) (sister : Option ℕ) (passes : ℕ)
    (merged : Option Merged) : Type 0 where
  pub whether : is_some merged ≡ has_pass sister passes
  pub into : IfSome merged (λ m. m.into ≡ own)
  pub from : IfSome merged (λ m. is_sister_of own m.from ≡ true)
