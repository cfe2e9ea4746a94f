-- What a part puts on the channels that go out of it.
use Rattle.std.specs.Prelude.{◌≡◌, ℕ, zero, ◌≤◌, List, [], length, Option, Some, None}
use Rattle.nm_topology.specs.Topology.{receiving_iface}
use Rattle.nm_topology.specs.TopologyValue.{TopologyValue}
use Rattle.nm_sim.specs.Tables.{AllAt}

-- a channel's messages, each with its time of arrival, and for how many more there is memory
pub record ChannelValue : Type 0 where
  pub messages : List (ℕ × List ℕ)
  pub spare : ℕ

-- the channels by number, and the one whose memory was used since memory was last made
pub record OutgoingValue : Type 0 where
  pub channels : List ChannelValue
  pub used : Option ℕ

-- how many channels there are: within the whole network none goes out
abbrev pub channel_count : TopologyValue → Option ℕ → ℕ
channel_count t None = zero
channel_count t (Some p) = length t.receivers

-- they have what was put on the channels' receiving interfaces
pub record OutgoingRepresents (t : TopologyValue) (part : Option ℕ) (o : OutgoingValue)
    (sent : ℕ → List (ℕ × List ℕ)) : Type 0 where
  pub count : length o.channels ≡ channel_count t part
  pub messages : AllAt (λ c v. v.messages ≡ sent (receiving_iface t c)) o.channels

-- the messages of a channel; none if there is no such channel
abbrev pub messages_in : Option ChannelValue → List (ℕ × List ℕ)
messages_in None = []
messages_in (Some v) = v.messages

-- each channel has memory for one more message
abbrev pub HaveSpare : OutgoingValue → Type 0
HaveSpare o = AllAt (λ c v. 1 ≤ v.spare) o.channels
