-- The result of a process.
use Rattle.std.specs.Prelude.{◌≡◌, ◌⊎◌, ℕ, ◌<◌, Bool, true, false, List, map}
use Rattle.std.specs.List.{filter}
use Rattle.std.specs.Net.Socket.{socket_ip, socket_port}
use Rattle.std.specs.declared.net.socket_addr.SocketAddr.{SocketAddr}
use Rattle.nm_base.specs.declared.fault.Fault.{Fault}
use Rattle.nm_base.specs.declared.fault.Fault.TheVariants.{Memory, Refused}
use Rattle.nm_topology.specs.TopologyValue.{TopologyValue}
use Rattle.nm_book.specs.Book.{BookValue, replica_of}
use Rattle.nm_book.specs.declared.fault.BookRefusal.{BookRefusal}
use Rattle.nm_model.specs.Certificate.{is_done}
use Rattle.nm_shared.specs.Home.{Home, home_of}
use Rattle.nm_sim.specs.Network.{net_of}
use Rattle.nm_replica.specs.Finished.{IsDone}
use Rattle.nm_peers.specs.Peers.{is_called, socket_of}
use Rattle.nm_peers.specs.declared.listener.Listener.{Listener}
use Rattle.nm_process.specs.declared.fault.ProcessCause.{ProcessCause}
use Rattle.nm_process.specs.declared.fault.ProcessCause.TheVariants as cause

-- The book is replica r of partition p of this topology, it has nothing left to do, and its trace
-- is whole.
pub record IsDoneReplica (t : TopologyValue) (p r : ℕ) (b : BookValue) : Type 0 where
  pub topology : b.topology ≡ t
  pub partition : b.partition ≡ p
  pub replica : b.replica ≡ r
  pub finished : IsDone b
  pub whole : b.handed ≡ 0

-- the address at which a socket listens is the one asked for: the same port, too, unless the system
-- was to choose one
abbrev pub IsAt : (at asked : SocketAddr) → Type 0
IsAt at asked =
    (socket_ip at ≡ socket_ip asked)
    × ((socket_port asked ≡ 0) ⊎ (socket_port at ≡ socket_port asked))

-- these are the addresses of all replicas that a replica of partition p calls, in their order
abbrev pub AreCalled : TopologyValue → ℕ → List Listener → List SocketAddr → Type 0
AreCalled t p listeners addresses =
    addresses ≡ map socket_of (filter (is_called t p) listeners)

-- the fault is that a replica is stalled
abbrev pub is_stall : Fault ProcessCause → Bool
is_stall Memory = false
is_stall (Refused cause.Net) = false
is_stall (Refused cause.Stalled) = true
is_stall (Refused cause.Broken) = false

-- why a replica without a book cannot be served
abbrev pub fault_without_book : Fault BookRefusal → Fault ProcessCause
fault_without_book Memory = Memory
fault_without_book (Refused refusal) = Refused cause.Broken

-- a book of this replica has something left to do, or has handed records out
abbrev pub IsUnfinished : Home → Type 0
IsUnfinished home =
    (b : BookValue) × (home_of b ≡ home)
    × ((is_done (net_of b.topology) b.partition (replica_of b) ≡ false) ⊎ (0 < b.handed))
