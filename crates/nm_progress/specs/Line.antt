-- The line that shows how far a run is.
use Rattle.std.specs.Prelude.{ℕ, ◌-◌, ◌*◌, ◌/◌, ◌<◌, ◌==◌, nat_lt, List, [], ◌++◌, Option, Some, None, if◌then◌else◌, codes, decimal}
use Rattle.nm_base.specs.Count.{saturated}
use Rattle.nm_progress.specs.declared.progress.Seen.{Seen}

-- a share of a whole, times a factor, rounded down: 0 if there is no whole; it stops at the
-- greatest of 64 bits
abbrev pub scaled : (count factor whole : ℕ) → ℕ
scaled count factor whole = if whole == 0 then 0 else saturated (count * factor / whole)

-- the seconds that are left at this pace, once some time is done
abbrev pub left_text : Seen → (milliseconds : ℕ) → List ℕ
left_text seen milliseconds = if nat_lt 0 seen.time then codes ", "
    ++ decimal (scaled (seen.stop - seen.time) milliseconds seen.time / 1000)
    ++ codes " s left" else []

-- the partition that is furthest behind, if the run notes partitions
abbrev pub last_text : Option ℕ → List ℕ
last_text None = []
last_text (Some partition) = codes ", partition " ++ decimal partition ++ codes " last"

-- the share of the simulated time that is done, in percent
abbrev pub share_text : Seen → List ℕ
share_text seen = decimal (scaled seen.time 100 seen.stop) ++ codes "% simulated, "

-- packets over links a second; each makes two records
abbrev pub pace_text : Seen → (milliseconds : ℕ) → List ℕ
pace_text seen milliseconds =
    decimal (scaled (seen.records / 2) 1000 milliseconds) ++ codes " packet-hops/s"

-- how far a run is that began so many milliseconds ago
abbrev pub progress_line : Seen → (milliseconds : ℕ) → List ℕ
progress_line seen milliseconds = share_text seen ++ pace_text seen milliseconds
    ++ left_text seen milliseconds ++ last_text seen.last
