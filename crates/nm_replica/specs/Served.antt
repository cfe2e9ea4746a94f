-- How the serving of a replica ends.
use Rattle.std.specs.Prelude.{◌≡◌, ◌⊎◌, ℕ, ◌+◌, ◌≤◌, ◌<◌, ◌==◌, ◌&&◌, Bool, true, false, List, length, slice_index_or, Option, Some, None, if◌then◌else◌}
use Rattle.nm_engine.specs.declared.answer.Cause.{Cause}
use Rattle.nm_engine.specs.declared.answer.Cause.TheVariants as cause
use Rattle.nm_base.specs.declared.fault.Fault.{Fault}
use Rattle.nm_base.specs.declared.fault.Fault.TheVariants as fault
use Rattle.nm_files.specs.declared.trace_files.FileFault.{FileFault}
use Rattle.nm_book.specs.Book.{BookValue, replica_of, state_of}
use Rattle.nm_model.specs.Certificate.{is_done}
use Rattle.nm_shared.specs.Home.{Home, home_of}
use Rattle.nm_sim.specs.Network.{net_of}
use Rattle.nm_transport.specs.Transport.{elapsed_after}
use Rattle.nm_replica.specs.declared.acts.Standing.{Standing}
use Rattle.nm_replica.specs.declared.served.Served.{Served}
use Rattle.nm_replica.specs.declared.polling.Polled.{Polled}
use Rattle.nm_replica.specs.declared.served.Served.TheVariants.{Ended, Net, Memory, File, Stalled}
use Rattle.nm_policy.specs.Contacts.{ContactsValue}
use Rattle.nm_policy.specs.Stays.{leaves, stayed}
use Rattle.nm_policy.specs.declared.staying.Stay.{Stay}
use Rattle.nm_replica.specs.Finished.{IsDone}
use Rattle.nm_replica.specs.Polls.{ending_of, idle_after, is_active}
use Rattle.nm_replica.specs.declared.limits.TheConstants.{MAX_POLLS}

-- how serving ends because a link broke: it does not if the wire broke, or if a stranger sent
-- nonsense
abbrev pub break_served : Cause → Bool → Option Served
break_served cause.End is_peer = None
break_served cause.Fault is_peer = None
break_served cause.Frame is_peer = if is_peer then Some Net else None
break_served cause.Session is_peer = if is_peer then Some Net else None
break_served cause.Book is_peer = Some Net
break_served cause.Memory is_peer = Some Memory

-- how serving ends if trace files could not be written
abbrev pub file_served : Fault FileFault → Served
file_served (fault.Refused f) = File f.iface f.written
file_served fault.Memory = Memory

-- nothing is left to do for the replica, and no record to hand out
abbrev pub is_handed_out : BookValue → Bool
is_handed_out b =
    is_done (net_of b.topology) b.partition (replica_of b)
    && (b.handed == length (state_of b).records)

-- this was the state of a book, which is this replica's if the counts are exact
abbrev pub WasSeen : (exact : Bool) → Home → Standing → Type 0
WasSeen exact own s =
    (b : BookValue) × (exact ≡ true → home_of b ≡ own)
    × (s.is_done ≡ is_done (net_of b.topology) b.partition (replica_of b))
    × (s.handed ≡ b.handed) × (s.records ≡ length (state_of b).records)
    × (s.events ≡ b.events)

-- a book, which is this replica's if the counts are exact, was seen to be done, and to have no
-- record left to hand out unless it keeps them
abbrev pub WasFinished : (exact : Bool) → Home → (keeps_records : Bool) → Type 0
WasFinished exact own keeps =
    (b : BookValue) × (exact ≡ true → home_of b ≡ own) × IsDone b
    × (keeps ≡ false → b.handed ≡ length (state_of b).records)

-- a book was seen to be done, and had done no fewer events than were counted, if the counts are
-- exact
abbrev pub WasDone : (exact : Bool) → (counted : ℕ) → Type 0
WasDone exact counted = (b : BookValue) × (exact ≡ true → counted ≤ b.events) × IsDone b

-- a book was seen to have something left to do
abbrev pub IsOneLeft : Type 0
IsOneLeft = (b : BookValue) × (is_done (net_of b.topology) b.partition (replica_of b) ≡ false)

-- Of each of so many replicas a book was seen to be done. It had done no fewer events than the
-- replica's pass has counted, if the counts are exact.
abbrev pub WereFinished : (exact : Bool) → (replicas : ℕ) → (counted : List ℕ) → Type 0
WereFinished exact replicas counted =
    (n : ℕ) → n < replicas → WasDone exact (slice_index_or counted n 0)

-- There are other replicas, so many with this one, and of each a book was seen to be done.
abbrev pub AllWereFinished : (replicas : ℕ) → Type 0
AllWereFinished replicas =
    (0 < replicas) × ((n : ℕ) → n < replicas → (b : BookValue) × IsDone b)

-- At a poll, at which a period was over or not, a replica's stay is updated by its contacts, and it
-- may leave.
abbrev pub HasStayed : (ran_out : Bool) → ContactsValue → (old new : Stay) → Type 0
HasStayed ran_out contacts old new =
    (new ≡ stayed ran_out contacts old) × (leaves contacts new ≡ true)

-- A replica's book was seen to have something left to do; or there is no other replica, or not a
-- pass for each.
abbrev pub IsSomeLeft : (replicas passes : ℕ) → Type 0
IsSomeLeft replicas passes = IsOneLeft ⊎ (replicas ≡ 0) ⊎ (passes < replicas)

-- Why serving ends: the replica was done, and its records were handed out; or no fewer periods than
-- the limit were over between the two counts of periods; or, by the counts of waits, as many waits
-- were made as there may be polls.
abbrev pub EndsWith : (exact : Bool) → Home → (keeps_records : Bool) → (limit : ℕ)
    → (periods waits : ℕ × ℕ) → Served → Type 0
EndsWith exact own keeps limit periods waits Ended = WasFinished exact own keeps
EndsWith exact own keeps limit periods waits Net = Unit {0}
EndsWith exact own keeps limit periods waits Memory = Unit {0}
EndsWith exact own keeps limit periods waits (File iface written) = Unit {0}
EndsWith exact own keeps limit periods waits (Stalled polls) =
    (periods.0 + limit ≤ periods.1) ⊎ (waits.0 + MAX_POLLS ≤ waits.1)

-- The result of one poll, the last of `polls`, in which `Happened` holds. It was active or not, a
-- period was over or not, and the replica was found done or not. That determines the idle periods
-- and the waits that ran out, before and after it, and whether serving ends.
abbrev pub PolledOnce : (Happened : Polled → Type 0) → (limit polls : ℕ) → (idle waits : ℕ × ℕ)
    → Option Served → Type 0
PolledOnce Happened limit polls idle waits end =
    (p : Polled) × (idle.1 ≡ idle_after idle.0 (is_active p.octets p.written p.was_run) p.ran_out)
    × (waits.1 ≡ elapsed_after waits.0 p.ran_out)
    × (end ≡ ending_of p.is_done idle.1 limit polls) × Happened p

-- no trace file failed, and no memory was refused: each file took all that was handed out
abbrev pub took_all : Served → Bool
took_all Ended = true
took_all Net = true
took_all Memory = false
took_all (File iface written) = false
took_all (Stalled polls) = true

-- how serving ends if it is interrupted: the network failed, or memory was refused
abbrev pub IsInterrupted : Served → Type 0
IsInterrupted s = (s ≡ Net) ⊎ (s ≡ Memory)

-- how serving ends if the replica was not seen to be done, and is not stalled
abbrev pub EndsEarly : Served → Type 0
EndsEarly s =
    (s ≡ Net) ⊎ (s ≡ Memory) ⊎ ((iface : ℕ) × (written : ℕ) × (s ≡ File iface written))
