-- Records that a replica hands out, and the trace files to which they go.
use Rattle.std.specs.Prelude.{◌≡◌, ◌⊎◌, ℕ, ◌+◌, ◌≤◌, Bool, true, All, List, ◌++◌, drop, flat_map, length, take, Option}
use Rattle.nm_base.specs.Count.{saturated}
use Rattle.nm_base.specs.Sink.{SinkSeen}
use Rattle.nm_base.specs.declared.limits.TheConstants.{MAX_TIME}
use Rattle.nm_base.specs.declared.record.Record.{Record}
use Rattle.nm_pcap.specs.Writer.{Writer}
use Rattle.nm_files.specs.Files.{FailedAt, FilesTook}
use Rattle.nm_files.specs.declared.trace_files.FileFault.{FileFault}
use Rattle.nm_book.specs.Book.{BookValue, state_of}
use Rattle.nm_shared.specs.Home.{Home, home_of}
use Rattle.nm_replica.specs.declared.limits.TheConstants.{MAX_HANDED}

-- a book has no record left to hand out
abbrev pub IsEmptied : BookValue → Type 0
IsEmptied b = length (state_of b).records ≤ b.handed

-- book b hands out the first n of the records that it keeps, which go behind those of a list, and
-- is c then
abbrev pub TakesOut : BookValue → List (Record (List ℕ)) → BookValue → List (Record (List ℕ))
    → Type 0
TakesOut b before c after =
    (n : ℕ) × (c ≡ record b { handed = b.handed + n })
    × (after ≡ before ++ take n (drop b.handed (state_of b).records))

-- it has none left then, or the list has no more room, or as many as may be handed out
abbrev pub AreAllOut : (room : ℕ) → BookValue → List (Record (List ℕ)) → Type 0
AreAllOut room c after = IsEmptied c ⊎ (room ≤ length after) ⊎ (MAX_HANDED ≤ length after)

-- the same, and a trace file can hold the times of the records
pub record HandsOut (b : BookValue) (before : List (Record (List ℕ))) (room : ℕ) (c : BookValue)
    (after : List (Record (List ℕ))) : Type 0 where
  pub takes : TakesOut b before c after
  pub all : AreAllOut room c after
  pub times : All (λ r. r.time ≤ MAX_TIME) (state_of b).records

-- a book of this replica, if the counts are exact, was seen to have no record left to hand out
abbrev pub WasEmptied : (exact : Bool) → Home → Type 0
WasEmptied exact own = (b : BookValue) × (exact ≡ true → home_of b ≡ own) × IsEmptied b

-- a hand-out of a book: its next n records
abbrev pub out_of : BookValue × ℕ → List (Record (List ℕ))
out_of out = take out.1 (drop out.0.handed (state_of out.0).records)

-- the records handed out of books, one hand-out behind another; the books are this replica's, if
-- the counts are exact
abbrev pub AreHandedOut : (exact : Bool) → Home → List (Record (List ℕ)) → Type 0
AreHandedOut exact own records =
    (outs : List (BookValue × ℕ)) × All (λ out. exact ≡ true → home_of out.0 ≡ own) outs
    × (records ≡ flat_map out_of outs)

-- of so many records that were handed out each file took those at its own interface
pub record Wrote {S : Type 0} (seen : S → SinkSeen) (exact : Bool) (own : Home) (written : ℕ)
    (old new : List (Option (Writer S))) : Type 0 where
  pub records : List (Record (List ℕ))
  pub count : length records ≡ written
  pub handed : AreHandedOut exact own records
  pub took : FilesTook seen records old new

-- the same for any number of records
abbrev pub Streams : {S : Type 0} → (S → SinkSeen) → Bool → Home
    → List (Option (Writer S)) → List (Option (Writer S)) → Type 0
Streams seen exact own old new = (n : ℕ) × Wrote seen exact own n old new

-- the same for a count that stops at the greatest `u64`
abbrev pub WroteAsCounted : {S : Type 0} → (S → SinkSeen) → Bool → Home → (written : ℕ)
    → List (Option (Writer S)) → List (Option (Writer S)) → Type 0
WroteAsCounted seen exact own written old new =
    (n : ℕ) × (written ≡ saturated n) × Wrote seen exact own n old new

-- a file failed at a record that was handed out, after those before it were taken
abbrev pub FailedStream : {S : Type 0} → (S → SinkSeen) → Bool → Home
    → List (Option (Writer S)) → List (Option (Writer S)) → Type 0
FailedStream seen exact own old new =
    (records : List (Record (List ℕ))) × (fault : FileFault) × AreHandedOut exact own records
    × FailedAt seen records old new fault

-- However serving ended, of the records handed out each file took those at its own interface, or
-- those before a record at which one of them failed.
abbrev pub Streamed : {S : Type 0} → (S → SinkSeen) → Bool → Home
    → List (Option (Writer S)) → List (Option (Writer S)) → Type 0
Streamed {S} seen exact own old new =
    (mid : List (Option (Writer S))) × Streams seen exact own old mid
    × ((new ≡ mid) ⊎ FailedStream seen exact own mid new)
