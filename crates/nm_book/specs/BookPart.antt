-- The part of the simulation that a book keeps.
use Rattle.std.specs.Prelude.{◌≡◌, ℕ, false, List, length, slice_index_or, Some}
use Rattle.std.specs.FinMap.{FinMap}
use Rattle.nm_base.specs.declared.event.Event.{Event}
use Rattle.nm_base.specs.declared.wanted.Wanted.TheVariants.{All}
use Rattle.nm_base.specs.Key.{key_cmp}
use Rattle.nm_topology.specs.Topology.{receiving_iface}
use Rattle.nm_topology.specs.TopologyValue.{TopologyValue}
use Rattle.nm_model.specs.Knowledge.{Know, nothing_known}
use Rattle.nm_model.specs.Partition.{comes_in}
use Rattle.nm_model.specs.Replica.{IsWithin, from_scratch}
use Rattle.nm_events.specs.Held.{Held, pending_of}
use Rattle.nm_sim.specs.Network.{net_of}
use Rattle.nm_sim.specs.Part.{PartValue, Represents}
use Rattle.nm_book.specs.Book.{knowledge_of}

-- the pending events of the part's list
abbrev pub pending_in : Held → FinMap key_cmp (Event (List ℕ))
pending_in s = pending_of s

-- for how many more events it has room
abbrev pub room_in : Held → ℕ
room_in s = s.room

-- the part is that of a replica from scratch that knows this much, and did events before its
-- safe time alone. It keeps the records of all interfaces.
pub record IsBook (t : TopologyValue) (p : ℕ) (knows : List (Know (List ℕ)))
    (part : PartValue Held) : Type 0 where
  pub count : length knows ≡ length t.receivers
  pub represents : Represents pending_in t (Some p) part
      (from_scratch (net_of t) p (knowledge_of t knows) part.steps)
  pub within : IsWithin (net_of t) p (knowledge_of t knows) part.steps
  pub all : part.records.keeping.wanted ≡ All

-- nothing is known of channels that do not come in
abbrev pub KnowsIncoming : TopologyValue → ℕ → List (Know (List ℕ)) → Type 0
KnowsIncoming t p knows = (c : ℕ) → comes_in (net_of t) p (receiving_iface t c) ≡ false
    → slice_index_or knows c nothing_known ≡ nothing_known
