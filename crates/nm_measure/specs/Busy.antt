-- How long the interfaces of a network transmit.
use Rattle.std.specs.Prelude.{ℕ, zero, suc, ◌-◌, ◌*◌, ◌/◌, min, ltb, if◌then◌else◌, List, [], ◌∷◌, sum_by, Option, Some, None}
use Rattle.nm_base.specs.declared.record.Dir.TheVariants.{Out}
use Rattle.nm_base.specs.declared.record.Record.{Record}
use Rattle.nm_model.specs.Network.{Net}
use Rattle.nm_model.specs.Trace.{passed}

-- a part of a whole in thousandths, rounded down, and at most all of it; 0 of nothing
abbrev pub thousandths_of : (part whole : ℕ) → ℕ
thousandths_of part zero = 0
thousandths_of part (suc n) = min (part * 1000 / suc n) 1000

-- the last of a list
abbrev pub last_of : {A : Type 0} → A → List A → A
last_of x [] = x
last_of x (y ∷ ys) = last_of y ys

module _ {P N : Type 0} (net : Net P N) (i : ℕ) where
  -- how much of a transmission of interface i is before a time; it has a start and a packet
  abbrev pub part_before : ℕ → ℕ × P → ℕ
  part_before time start = min (net.tx i start.1) (time - start.0)

  -- for how many nanoseconds before a time interface i transmits, by these records
  abbrev pub busy_before : ℕ → List (Record P) → ℕ
  busy_before time records = sum_by (part_before time) (passed Out i records)

  -- the share of the time from the start of the first packet to that of the last in which it
  -- transmits; there is none if no time is between
  abbrev pub share_of : List (ℕ × P) → Option ℕ
  share_of [] = None
  share_of (first ∷ starts) =
      let last : ℕ = (last_of first starts).0 in
      if ltb first.0 last
      then Some (thousandths_of (sum_by (part_before last) (first ∷ starts)) (last - first.0))
      else None

  abbrev pub busy_share : List (Record P) → Option ℕ
  busy_share records = share_of (passed Out i records)
