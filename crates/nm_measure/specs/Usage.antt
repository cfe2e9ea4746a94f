-- How an interface transmits, counted start by start.
use Rattle.std.specs.Prelude.{◌≡◌, ◌⊎◌, ℕ, ◌+◌, ◌-◌, ◌≤◌, ltb, if◌then◌else◌, List, [], ◌∷◌, ◌++◌, sum_by, Option, Some, None}
use Rattle.nm_base.specs.Count.{saturated}
use Rattle.nm_model.specs.Network.{Net}
use Rattle.nm_measure.specs.Busy.{part_before, thousandths_of}

-- the starts of the first packet and of the last, with one start more
abbrev pub span_after : Option (ℕ × ℕ) → ℕ → Option (ℕ × ℕ)
span_after None now = Some (now, now)
span_after (Some s) now = Some (s.0, now)

-- the busy time before `time`: without the part of the last transmission that is after it
abbrev pub part_from : Option (ℕ × ℕ) → (busy last_busy time : ℕ) → ℕ
part_from None busy last_busy time = busy
part_from (Some s) busy last_busy time = busy - (saturated (s.1 + last_busy) - time)

-- the share of the time from the first start to the last
abbrev pub share_at : Option (ℕ × ℕ) → (busy last_busy : ℕ) → Option ℕ
share_at None busy last_busy = None
share_at (Some s) busy last_busy =
    if ltb s.0 s.1 then Some (thousandths_of (busy - last_busy) (s.1 - s.0)) else None

-- the start of the first of these
abbrev pub first_start : {P : Type 0} → List (ℕ × P) → ℕ × P → ℕ
first_start [] last = last.0
first_start (s ∷ l) last = s.0

module _ {P N : Type 0} (net : Net P N) (i : ℕ) where
  -- how long these transmissions of interface i take
  abbrev pub all_take : List (ℕ × P) → ℕ
  all_take l = sum_by (λ s. net.tx i s.1) l

  -- they are complete by a time
  abbrev pub AreDone : ℕ → List (ℕ × P) → Type 0
  AreDone time [] = Unit {0}
  AreDone time (s ∷ l) = (s.0 + net.tx i s.1 ≤ time) × AreDone time l

  module _ (stop now : ℕ) where
    -- The counts of these transmissions, the last of which started by now: `busy` is the time that
    -- all but the last take, with what of the last is before `stop`; `last_busy` the latter alone;
    -- `span` the starts of the first and of the last.
    pub record AreCounted (front : List (ℕ × P)) (last : ℕ × P) (busy last_busy : ℕ)
        (span : Option (ℕ × ℕ)) : Type 0 where
      pub all : busy ≡ all_take front + part_before net i stop last
      pub ends : last_busy ≡ part_before net i stop last
      pub spans : span ≡ Some (first_start front last, last.0)
      pub within : all_take front ≤ last.0
      pub done : AreDone last.0 front
      pub past : last.0 ≤ now

    -- the counts of all that started, or of none
    abbrev pub IsUsed : List (ℕ × P) → (busy last_busy : ℕ) → Option (ℕ × ℕ) → Type 0
    IsUsed starts busy last_busy span =
        ((starts ≡ []) × (busy ≡ 0) × (span ≡ None))
        ⊎ ((front : List (ℕ × P)) × (last : ℕ × P) × (starts ≡ front ++ last ∷ [])
        × AreCounted front last busy last_busy span)
