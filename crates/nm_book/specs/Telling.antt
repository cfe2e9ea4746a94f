-- Messages that a replica takes in, one after another.
use Rattle.std.specs.Prelude.{◌≡◌, ℕ, ◌<◌, ◌≤◌, true, List, [], ◌∷◌, ◌++◌, length, slice_index_or, slice_set}
use Rattle.nm_topology.specs.Topology.{receiving_iface}
use Rattle.nm_topology.specs.TopologyValue.{TopologyValue}
use Rattle.nm_model.specs.Knowledge.{Know, nothing_known}
use Rattle.nm_model.specs.Partition.{comes_in}
use Rattle.nm_sim.specs.Network.{net_of}
use Rattle.nm_book.specs.declared.message.Data.{Data}

-- a message more is known of a channel
abbrev pub with_message : Know (List ℕ) → ℕ → List ℕ → Know (List ℕ)
with_message a time x = record { list = a.list ++ (time, x) ∷ []; clock = time }

-- what is known of a channel by its number
abbrev pub known_of : List (Know (List ℕ)) → ℕ → Know (List ℕ)
known_of knows c = slice_index_or knows c nothing_known

abbrev pub told_one : List (Know (List ℕ)) → Data → List (Know (List ℕ))
told_one knows m =
    slice_set knows m.channel (with_message (known_of knows m.channel) m.time m.packet)

-- what is known once these messages are
abbrev pub told_each : List (Know (List ℕ)) → List Data → List (Know (List ℕ))
told_each knows [] = knows
told_each knows (m ∷ ms) = told_each (told_one knows m) ms

-- it is the next message of a channel that comes in, and is not before its clock
pub record IsNext (t : TopologyValue) (p : ℕ) (knows : List (Know (List ℕ)))
    (m : Data) : Type 0 where
  pub there : m.channel < length knows
  pub incoming : comes_in (net_of t) p (receiving_iface t m.channel) ≡ true
  pub number : m.number ≡ length (known_of knows m.channel).list
  pub later : (known_of knows m.channel).clock ≤ m.time

-- each of these in its turn
abbrev pub Follow : TopologyValue → ℕ → List (Know (List ℕ)) → List Data → Type 0
Follow t p knows [] = Unit {0}
Follow t p knows (m ∷ ms) = IsNext t p knows m × Follow t p (told_one knows m) ms
