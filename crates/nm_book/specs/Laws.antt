-- What holds of two replicas of one partition.
use Rattle.std.specs.Prelude.{◌≡◌, ℕ, ◌<◌, ◌≤◌, true, Some, length}
use Rattle.nm_topology.specs.Topology.{channel_from, receiving_iface}
use Rattle.nm_topology.specs.TopologyValue.{TopologyValue}
use Rattle.nm_model.specs.Lists.{IsPrefix}
use Rattle.nm_model.specs.Network.{IsNet}
use Rattle.nm_model.specs.Partition.{comes_in}
use Rattle.nm_model.specs.Promise.{Promising}
use Rattle.nm_model.specs.Replica.{with_new}
use Rattle.nm_sim.specs.Network.{net_of}
use Rattle.nm_book.specs.Book.{BookValue, knowledge, promise_on, safe_of}
use Rattle.nm_book.specs.Book.{sent_over, state_of}

-- The base of the laws: a topology is a network of the model, in which each channel has its own
-- interface, and what comes into a partition is a channel.
pub record IsNetOfChannels (t : TopologyValue) : Type 0 where
  pub network : IsNet (net_of t)
  pub here : (c : ℕ) → c < length t.receivers
      → channel_from 0 t.receivers (receiving_iface t c) ≡ Some c
  pub numbered : (p i : ℕ) → comes_in (net_of t) p i ≡ true
      → (c : ℕ) × (c < length t.receivers) × (receiving_iface t c ≡ i)

-- the first and the second are in equal states, and so have equal traces and sent the same, and
-- they promise the same
pub record AreAlike (a b : BookValue) : Type 0 where
  pub states : state_of b ≡ state_of a
  pub promises : (kind : Promising) (c : ℕ) → promise_on kind b c ≡ promise_on kind a c

-- the second, which knows more, changes nothing that the first has done
pub record KeepsWhatIsDone (a b : BookValue) : Type 0 where
  -- after as many events it is as the first with the new messages to come
  pub same : a.events ≡ b.events → state_of b
      ≡ with_new (net_of a.topology) a.partition (knowledge a) (knowledge b) (state_of a)
  -- after as many or more, what the first sent and recorded begins what it sent and recorded
  pub sent : a.events ≤ b.events → (c : ℕ) → IsPrefix (sent_over a c) (sent_over b c)
  pub records : a.events ≤ b.events → IsPrefix (state_of a).records (state_of b).records
  -- its safe time and its promises are no earlier
  pub safe : safe_of a ≤ safe_of b
  pub promises : a.events ≤ b.events
      → (kind : Promising) (c : ℕ) → promise_on kind a c ≤ promise_on kind b c
