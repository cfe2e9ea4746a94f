-- Which replica a book is.
use Rattle.std.specs.Prelude.{ℕ}
use Rattle.nm_topology.specs.TopologyValue.{TopologyValue}
use Rattle.nm_book.specs.Book.{BookValue}

-- its topology, its partition, and its number in that
pub record Home : Type 0 where
  pub topology : TopologyValue
  pub partition : ℕ
  pub replica : ℕ

-- the replica with this number of a partition
abbrev pub home_at : TopologyValue → (partition replica : ℕ) → Home
home_at t partition replica = record { topology = t; partition = partition; replica = replica }

abbrev pub home_of : BookValue → Home
home_of b = record { topology = b.topology; partition = b.partition; replica = b.replica }
