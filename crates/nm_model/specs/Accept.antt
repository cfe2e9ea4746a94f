-- How knowledge of a channel takes a message or a null message (Misra, section 3). A refusal
-- changes nothing.
use Rattle.std.specs.Prelude.{◌≡◌, ℕ, Bool, true, false, if◌then◌else◌, ◌&&◌, ◌==◌, ltb, leb, length, List, [], ◌∷◌, ◌++◌, Option, Some, None}
use Rattle.nm_model.specs.Lists.{nth}
use Rattle.nm_model.specs.Knowledge.{Know}

pub data Answer : Type 0 where
  -- a message, or a greater clock, that was taken; or what was known already
  New : Answer
  Raised : Answer
  Known : Answer
  -- past what is known, which has so many messages
  Gap : ℕ → Answer
  -- another message of this number is known
  Differs : ℕ → Answer
  -- before this clock
  Late : ℕ → Answer
  -- not after the last message
  NotRising : Answer
  -- the message of this number is before the known clock
  Contrary : ℕ → Answer

pub record Accepted (P : Type 0) : Type 0 where
  pub answer : Answer
  pub after : Know P

-- the last message's time is at or after t
abbrev pub last_from : {P : Type 0} → ℕ → List (ℕ × P) → Bool
last_from t [] = false
last_from t (x ∷ []) = leb t x.0
last_from t (x ∷ y ∷ l) = last_from t (y ∷ l)

-- packets are compared by a test, which answers true at equal ones
abbrev pub IsReflexive : {P : Type 0} → (P → P → Bool) → Type 0
IsReflexive {P} same = (x : P) → same x x ≡ true

-- and at no others
abbrev pub TellsApart : {P : Type 0} → (P → P → Bool) → Type 0
TellsApart {P} same = (x y : P) → same x y ≡ true → x ≡ y

abbrev pub same_message : {P : Type 0} → (P → P → Bool) → ℕ × P → ℕ × P → Bool
same_message same a b = (a.0 == b.0) && same a.1 b.1

abbrev pub data_at : {P : Type 0} → (P → P → Bool) → Option (ℕ × P) → Know P → ℕ → ℕ × P
    → Accepted P
data_at same (Some m) a n b = record {
  answer = if same_message same m b then Known else Differs n;
  after = a;
}
data_at same None a n b =
    if n == length a.list then
    (if ltb b.0 a.clock then record { answer = Late a.clock; after = a }
    else if last_from b.0 a.list then record { answer = NotRising; after = a }
    else record { answer = New; after = record { list = a.list ++ b ∷ []; clock = b.0 } })
    else record { answer = Gap (length a.list); after = a }

-- message n of the channel is b
abbrev pub accept_data : {P : Type 0} → (P → P → Bool) → Know P → ℕ → ℕ × P → Accepted P
accept_data same a n b = data_at same (nth a.list n) a n b

abbrev pub null_at : {P : Type 0} → Option (ℕ × P) → Know P → ℕ → ℕ → Accepted P
null_at (Some m) a count t = record {
  answer = if ltb m.0 t then Contrary count else Known;
  after = a;
}
null_at None a count t =
    if count == length a.list then
    (if ltb a.clock t then record { answer = Raised; after = record a { clock = t } }
    else record { answer = Known; after = a })
    else record { answer = Gap (length a.list); after = a }

-- a null message: all messages of the channel from number count on have times from t on
abbrev pub accept_null : {P : Type 0} → Know P → ℕ → ℕ → Accepted P
accept_null a count t = null_at (nth a.list count) a count t
