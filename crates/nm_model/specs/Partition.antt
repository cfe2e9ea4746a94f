-- Partitions of the network's nodes, and the channels between them.
use Rattle.std.specs.Prelude.{ℕ, Bool, false, not, ◌&&◌, ◌==◌}
use Rattle.nm_base.specs.declared.key.Place.{Place}
use Rattle.nm_base.specs.declared.key.Place.TheVariants.{Arrive, Complete, Fire}
use Rattle.nm_base.specs.declared.record.Record.{Record}
use Rattle.nm_model.specs.Network.{Net, node_of}

module _ {P N : Type 0} (net : Net P N) (p : ℕ) where
  -- the node of the place is in partition p
  abbrev pub in_part : Place → Bool
  in_part q = net.part (node_of net q) == p

  -- a channel is a link's direction with ends in different partitions; it is named by its receiving
  -- interface

  -- a channel into the partition
  abbrev pub comes_in : ℕ → Bool
  comes_in c = in_part (Arrive c) && not (in_part (Arrive (net.far_end c)))

  -- a channel out of the partition
  abbrev pub goes_out : ℕ → Bool
  goes_out c = in_part (Arrive (net.far_end c)) && not (in_part (Arrive c))

  -- arrivals by a channel
  abbrev pub is_inbox : Place → Bool
  is_inbox (Arrive c) = comes_in c
  is_inbox (Complete i) = false
  is_inbox (Fire j) = false

  abbrev pub is_own_record : Record P → Bool
  is_own_record r = in_part (Arrive r.iface)

-- the partitions at both ends of a channel
abbrev pub sender_of : {P N : Type 0} → Net P N → ℕ → ℕ
sender_of net c = net.part (net.owner (net.far_end c))

abbrev pub receiver_of : {P N : Type 0} → Net P N → ℕ → ℕ
receiver_of net c = net.part (net.owner c)
