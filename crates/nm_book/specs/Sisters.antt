-- Two replicas of one partition.
use Rattle.std.specs.Prelude.{◌≡◌, ℕ, true, slice_index_or}
use Rattle.nm_model.specs.Knowledge.{IsUnder, nothing_known}
use Rattle.nm_book.specs.Book.{BookValue, is_incoming}

-- they are replicas of one partition
pub record AreSisters (a b : BookValue) : Type 0 where
  pub topology : a.topology ≡ b.topology
  pub partition : a.partition ≡ b.partition

-- and know the same of each channel that comes in
pub record KnowTheSame (a b : BookValue) : Type 0 where
  pub sisters : AreSisters a b
  pub same : (c : ℕ) → is_incoming a c ≡ true
      → slice_index_or a.knows c nothing_known ≡ slice_index_or b.knows c nothing_known

-- and what the first knows of each is under what the second knows
pub record IsUnderOf (a b : BookValue) : Type 0 where
  pub sisters : AreSisters a b
  pub under : (c : ℕ) → is_incoming a c ≡ true
      → IsUnder (slice_index_or a.knows c nothing_known) (slice_index_or b.knows c nothing_known)
