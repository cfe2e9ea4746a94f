-- Messages and null messages as they are accepted one after another.
use Rattle.std.specs.Prelude.{ℕ, Bool, List, [], ◌∷◌}
use Rattle.nm_model.specs.Knowledge.{Know}
use Rattle.nm_model.specs.Accept.{Answer, New, Raised, Known, Gap, Differs, Late, NotRising, Contrary, Accepted, accept_data, accept_null}

pub data Tidings (P : Type 0) : Type 0 where
  -- message n is b
  Data : ℕ → ℕ × P → Tidings P
  -- all messages from number n on have times from t on
  Null : ℕ → ℕ → Tidings P

abbrev pub accept : {P : Type 0} → (P → P → Bool) → Know P → Tidings P → Accepted P
accept same a (Data n b) = accept_data same a n b
accept same a (Null n t) = accept_null a n t

-- it was taken, or known already
abbrev pub IsAccepted : Answer → Type 0
IsAccepted New = Unit {0}
IsAccepted Raised = Unit {0}
IsAccepted Known = Unit {0}
IsAccepted (Gap n) = ⊥
IsAccepted (Differs n) = ⊥
IsAccepted (Late n) = ⊥
IsAccepted NotRising = ⊥
IsAccepted (Contrary n) = ⊥

-- each is accepted in its turn
abbrev pub AreAccepted : {P : Type 0} → (P → P → Bool) → Know P → List (Tidings P) → Type 0
AreAccepted same a [] = Unit {0}
AreAccepted same a (x ∷ l) =
    IsAccepted (accept same a x).answer × AreAccepted same (accept same a x).after l

abbrev pub accept_all : {P : Type 0} → (P → P → Bool) → Know P → List (Tidings P) → Know P
accept_all same a [] = a
accept_all same a (x ∷ l) = accept_all same (accept same a x).after l
