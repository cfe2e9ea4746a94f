-- The text of listeners.
use Rattle.std.specs.Prelude.{◌≡◌, ℕ, ◌<◌, ◌≤◌, ◌==◌, ◌&&◌, Bool, true, List, ◌++◌, codes, decimal, Result, Ok, Err}
use Rattle.std.specs.List.{All, flat_map, list_any, IsDistinct}
use Rattle.std.specs.Net.Socket.{IsSocketAddrV4}
use Rattle.std.specs.Net.Text.{socket_v4_text}
use Rattle.std.specs.declared.vec.Vec.{Vec}
use Rattle.std.specs.declared.alloc.Global.{Global}
use Rattle.nm_peers.specs.declared.listener.Listener.{Listener}
use Rattle.nm_base.specs.declared.fault.Fault.{Fault}
use Rattle.nm_base.specs.declared.fault.Fault.TheVariants.{Refused, Memory}
use Rattle.nm_peers.specs.declared.fault.NoListeners.{NoListeners}

-- `P R A.B.C.D:PORT`
abbrev pub listener_words : Listener → List ℕ
listener_words a =
    decimal a.partition ++ codes " " ++ decimal a.replica ++ codes " " ++ socket_v4_text a.address

-- the same with its line feed
abbrev pub listener_line : Listener → List ℕ
listener_line a = listener_words a ++ codes "\n"

-- The numbers of a listener are in range: its partition and replica are the network's, each of its
-- four octets is below 256, and its port is below 2 ^ 16.
pub record Fits (partitions : ℕ) (a : Listener) : Type 0 where
  pub partition : a.partition < partitions
  pub replica : a.replica ≤ 1
  pub address : IsSocketAddrV4 a.address

-- whether a listener is that of this replica of this partition
abbrev pub is_listener_of : ℕ → ℕ → Listener → Bool
is_listener_of partition replica a = (a.partition == partition) && (a.replica == replica)

-- whether two listeners are of one replica
abbrev pub is_same : Listener → Listener → Bool
is_same a b = is_listener_of b.partition b.replica a

-- The text consists of the lines of these listeners, no two are of one replica, and this replica of
-- this partition has one.
pub record AreListeners (text : List ℕ) (partitions partition replica : ℕ)
    (listeners : List Listener) : Type 0 where
  pub whole : text ≡ flat_map listener_line listeners
  pub fit : All (Fits partitions) listeners
  pub apart : IsDistinct is_same listeners
  pub own : list_any (is_listener_of partition replica) listeners ≡ true

-- the listeners of the text; or it is no list of them; or memory was refused
abbrev pub ReadsListeners : List ℕ → ℕ → ℕ → ℕ
    → Result (Vec Listener Global) (Fault NoListeners) → Type 0
ReadsListeners text partitions partition replica (Ok listeners) =
    AreListeners text partitions partition replica listeners.items
ReadsListeners text partitions partition replica (Err (Refused none)) =
    (listeners : List Listener) → AreListeners text partitions partition replica listeners → ⊥
ReadsListeners text partitions partition replica (Err Memory) = Unit {0}
