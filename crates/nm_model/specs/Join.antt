-- How two replicas' knowledge of one channel is joined, and when it cannot be.
use Rattle.std.specs.Prelude.{◌≡◌, ◌≢◌, ◌⊎◌, ℕ, zero, suc, ◌<◌, max, Bool, if◌then◌else◌, ltb, leb, length, List, [], ◌∷◌, Option, Some, None}
use Rattle.nm_model.specs.Lists.{nth}
use Rattle.nm_model.specs.Knowledge.{Knowledge, Know}
use Rattle.nm_model.specs.Accept.{Answer, Differs, Late, same_message}

-- the longer list and the greater clock
abbrev pub join : {P : Type 0} → Know P → Know P → Know P
join a b = record {
  list = if leb (length a.list) (length b.list) then b.list else a.list;
  clock = max a.clock b.clock;
}

abbrev pub join_all : {P : Type 0} → Knowledge P → Knowledge P → Knowledge P
join_all K J c = join (K c) (J c)

-- the first number at which both have a message and these differ, counted from n
abbrev pub first_differs : {P : Type 0} → (P → P → Bool) → ℕ → List (ℕ × P) → List (ℕ × P)
    → Option ℕ
first_differs same n [] l = None
first_differs same n (x ∷ k) [] = None
first_differs same n (x ∷ k) (y ∷ l) =
    if same_message same x y then first_differs same (suc n) k l else Some n

abbrev pub or_else : {A : Type 0} → Option A → Option A → Option A
or_else None p = p
or_else (Some x) p = Some x

abbrev pub differs_at : Option ℕ → Option Answer
differs_at None = None
differs_at (Some n) = Some (Differs n)

abbrev pub late_past : {P : Type 0} → ℕ → Option (ℕ × P) → Option Answer
late_past t None = None
late_past t (Some m) = if ltb m.0 t then Some (Late t) else None

-- why two can't be joined: messages of one number differ, or the first that one has past the
-- other's end is before the other's clock
abbrev pub join_fault : {P : Type 0} → (P → P → Bool) → Know P → Know P → Option Answer
join_fault same a b =
    or_else (differs_at (first_differs same 0 a.list b.list))
    (or_else (late_past a.clock (nth b.list (length a.list)))
    (late_past b.clock (nth a.list (length b.list))))

-- the messages of this number are two, and those of all lower numbers the same
abbrev pub DifferFirstAt : {P : Type 0} → Know P → Know P → ℕ → Type 0
DifferFirstAt {P} a b n =
    (x : ℕ × P) × (y : ℕ × P) × (nth a.list n ≡ Some x) × (nth b.list n ≡ Some y) × (x ≢ y)
    × ((m : ℕ) → m < n → nth a.list m ≡ nth b.list m)

-- the first message that b has past a's end is before a's clock, which is t
abbrev pub IsLateFor : {P : Type 0} → Know P → Know P → ℕ → Type 0
IsLateFor {P} a b t =
    (x : ℕ × P) × (t ≡ a.clock) × (nth b.list (length a.list) ≡ Some x) × (x.0 < t)

-- what a fault of a and b shows: other messages of this number, the first such; or one of the
-- two clocks and the message before it
abbrev pub Shows : {P : Type 0} → Know P → Know P → Answer → Type 0
Shows a b f =
    ((n : ℕ) × (f ≡ Differs n) × DifferFirstAt a b n)
    ⊎ ((t : ℕ) × (f ≡ Late t) × (IsLateFor a b t ⊎ IsLateFor b a t))

abbrev pub at_channel : ℕ → Option Answer → Option (ℕ × Answer)
at_channel c None = None
at_channel c (Some f) = Some (c, f)

-- the first fault of the channels below a number, with its channel
abbrev pub join_faults : {P : Type 0} → (P → P → Bool) → Knowledge P → Knowledge P → ℕ
    → Option (ℕ × Answer)
join_faults same K J zero = None
join_faults same K J (suc c) =
    or_else (join_faults same K J c) (at_channel c (join_fault same (K c) (J c)))
