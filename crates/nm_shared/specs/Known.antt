-- How much a book knows and did: its passes count that.
use Rattle.std.specs.Prelude.{◌≡◌, ℕ, zero, suc, ◌+◌, ◌≤◌, if◌then◌else◌, List, length, slice_index_or, Option, Some, None, Result, Ok, Err}
use Rattle.nm_topology.specs.Topology.{receiving_iface}
use Rattle.nm_topology.specs.TopologyValue.{TopologyValue}
use Rattle.nm_model.specs.Knowledge.{Know, nothing_known}
use Rattle.nm_model.specs.Partition.{comes_in}
use Rattle.nm_knowledge.specs.declared.answer.Accepted.{Accepted}
use Rattle.nm_knowledge.specs.declared.answer.Accepted.TheVariants.{New, Known, Raised}
use Rattle.nm_sim.specs.Network.{net_of}
use Rattle.nm_book.specs.Book.{BookValue}
use Rattle.nm_shared.specs.Home.{home_of}
use Rattle.nm_book.specs.declared.fault.AcceptFault.{AcceptFault}
use Rattle.nm_book.specs.declared.running.Ran.{Ran}
use Rattle.nm_book.specs.declared.running.Ran.TheVariants.{All, Limit, Memory}

module _ (t : TopologyValue) (p : ℕ) (knows : List (Know (List ℕ))) where
  -- how many messages are known of channel c, if it comes into the partition
  abbrev pub messages_of : ℕ → ℕ
  messages_of c =
      if comes_in (net_of t) p (receiving_iface t c)
      then length (slice_index_or knows c nothing_known).list
      else 0

  -- and of all channels below number n
  abbrev pub messages_below : ℕ → ℕ
  messages_below zero = 0
  messages_below (suc c) = messages_below c + messages_of c

-- how many messages a book knows
abbrev pub messages_known : BookValue → ℕ
messages_known b = messages_below b.topology b.partition b.knows (length b.topology.receivers)

-- the book has a place for each channel
abbrev pub HasAllChannels : BookValue → Type 0
HasAllChannels b = length b.knows ≡ length b.topology.receivers

-- a book goes on: it is the same replica, and neither its messages nor its events fall
pub record Grows (b c : BookValue) : Type 0 where
  pub home : home_of c ≡ home_of b
  pub channels : length c.knows ≡ length b.knows
  pub messages : messages_known b ≤ messages_known c
  pub events : b.events ≤ c.events

-- a book with a place for each channel learned as many messages as its answer has, if it has that
abbrev pub TellsNews : BookValue → Option ℕ → BookValue → Type 0
TellsNews b None c = Unit {0}
TellsNews b (Some n) c = HasAllChannels b → messages_known c ≡ messages_known b + n

-- how many messages were new, by an answer
abbrev pub news : Result Accepted AcceptFault → ℕ
news (Ok New) = 1
news (Ok Known) = 0
news (Ok Raised) = 0
news (Err f) = 0

-- how many events a run did, by its answer
abbrev pub ran : Ran → ℕ
ran (All n) = n
ran (Limit n) = n
ran (Memory n) = n
