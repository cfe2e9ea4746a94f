-- How the delays of what was delivered of each source are spread.
use Rattle.std.specs.Prelude.{◌≡◌, ℕ, zero, suc, Bool, List, [], ◌∷◌, ◌++◌, codes, decimal}
use Rattle.nm_topology.specs.TopologyValue.{TopologyValue}
use Rattle.nm_measure.specs.Counted.{delays_of}
use Rattle.nm_measure.specs.Spread.{AreSpreadRows, bucket_of}
use Rattle.nm_measure.specs.Ways.{ends_in}
use Rattle.nm_measure.specs.declared.spread.Bucket.{Bucket}
use Rattle.nm_measure.specs.declared.spread.Row.{Row}
use Rattle.nm_series.specs.Rows.{cell}

-- the names of the columns
abbrev pub bucket_head : List ℕ
bucket_head = codes "source,from_nanoseconds,to_nanoseconds,packets" ++ codes "\n"

-- a row: the least and the greatest delay of it, and how many there were
abbrev pub bucket_row : (j : ℕ) → Bucket → List ℕ
bucket_row j b = decimal j ++ cell b.least ++ cell b.greatest ++ cell b.times ++ codes "\n"

abbrev pub bucket_rows : (j : ℕ) → (is_rounded : Bool) → List Row → List ℕ
bucket_rows j is_rounded [] = []
bucket_rows j is_rounded (r ∷ rs) =
    bucket_row j (bucket_of is_rounded r) ++ bucket_rows j is_rounded rs

-- how often each delay of what was delivered of source j occurs, by rising delays: each by itself,
-- or rounded down, if more than 1,024 different ones came
pub record AreBuckets (t : TopologyValue) (n j : ℕ) (text : List ℕ) : Type 0 where
  pub is_rounded : Bool
  pub rows : List Row
  pub are : AreSpreadRows (delays_of j (ends_in t n)) is_rounded rows
  pub is : text ≡ bucket_rows j is_rounded rows

-- the names of the columns, and the rows of the first k sources, one behind another
abbrev pub AreDelayRows : TopologyValue → (n k : ℕ) → List ℕ → Type 0
AreDelayRows t n zero text = text ≡ bucket_head
AreDelayRows t n (suc k) text =
    (front : List ℕ) × (last : List ℕ) × AreDelayRows t n k front × AreBuckets t n k last
    × (text ≡ front ++ last)
