-- What is known of a channel: the messages that came, and the channel clock (Misra, section 2).
use Rattle.std.specs.Prelude.{◌≡◌, ℕ, ◌≤◌, length, List, [], Some}
use Rattle.nm_model.specs.Lists.{nth, IsPrefix, IsRising}

-- the first messages of a channel, each with its time of arrival, and that all later ones have
-- times from the clock on
pub record Know (P : Type 0) : Type 0 where
  pub list : List (ℕ × P)
  pub clock : ℕ

abbrev pub nothing_known : {P : Type 0} → Know P
nothing_known = record { list = []; clock = 0 }

-- knowledge that was come by: the times of its messages strictly rise, up to the clock
pub record IsKnow {P : Type 0} (a : Know P) : Type 0 where
  pub rising : IsRising a.list
  pub last : (n : ℕ) (b : ℕ × P) → nth a.list n ≡ Some b → b.0 ≤ a.clock

-- what is known of each channel, by the number of its receiving interface
abbrev pub Knowledge : Type 0 → Type 0
Knowledge P = ℕ → Know P

abbrev pub no_knowledge : {P : Type 0} → Knowledge P
no_knowledge c = nothing_known

-- H, all that ever comes by the channel, begins with the list and goes on at or after the clock
pub record IsValid {P : Type 0} (a : Know P) (H : List (ℕ × P)) : Type 0 where
  pub begins : IsPrefix a.list H
  pub later : (n : ℕ) (b : ℕ × P) → length a.list ≤ n → nth H n ≡ Some b → a.clock ≤ b.0

-- what b adds to a comes no earlier than a's clock says
pub record IsUnder {P : Type 0} (a b : Know P) : Type 0 where
  pub begins : IsPrefix a.list b.list
  pub later : (n : ℕ) (x : ℕ × P) → length a.list ≤ n → nth b.list n ≡ Some x → a.clock ≤ x.0
  pub clock : a.clock ≤ b.clock

-- some history has both
pub record IsCompatible {P : Type 0} (a b : Know P) : Type 0 where
  pub history : List (ℕ × P)
  pub rising : IsRising history
  pub left : IsValid a history
  pub right : IsValid b history
