-- What holds of knowledge of a channel: taking messages and null messages, and joining.
use Rattle.std.specs.Prelude.{◌≡◌, ℕ, ◌<◌, ◌≤◌, Bool, List, Some, None}
use Rattle.nm_model.specs.Lists.{nth, IsRising}
use Rattle.nm_model.specs.Knowledge.{Knowledge, Know, IsKnow, nothing_known, IsValid, IsUnder, IsCompatible}
use Rattle.nm_model.specs.Accept.{Answer, IsReflexive, TellsApart, accept_data, accept_null}
use Rattle.nm_model.specs.Join.{join, join_fault, join_faults, Shows}
use Rattle.nm_model.specs.World.{IsFine}

-- what taking messages and null messages does
pub record AcceptLaws (P : Type 0) : Type 0 where
  pub data_adds : (same : P → P → Bool) (a : Know P) (n : ℕ) (b : ℕ × P)
      → IsUnder a (accept_data same a n b).after
  pub null_adds : (a : Know P) (n t : ℕ) → IsUnder a (accept_null a n t).after
  pub opens : IsKnow (nothing_known {P = P})
  pub data_keeps : (same : P → P → Bool) (a : Know P) (n : ℕ) (b : ℕ × P) → IsKnow a
      → IsKnow (accept_data same a n b).after
  pub null_keeps : (a : Know P) (n t : ℕ) → IsKnow a → IsKnow (accept_null a n t).after
  pub true_data : (same : P → P → Bool) → IsReflexive same → (a : Know P) (H : List (ℕ × P))
      → IsRising H → IsValid a H → (n : ℕ) (b : ℕ × P) → nth H n ≡ Some b
      → IsFine (accept_data same a n b).answer × IsValid (accept_data same a n b).after H
  pub true_null : (a : Know P) (H : List (ℕ × P)) → IsValid a H → (n t : ℕ)
      → ((i : ℕ) (x : ℕ × P) → n ≤ i → nth H i ≡ Some x → t ≤ x.0)
      → IsFine (accept_null a n t).answer × IsValid (accept_null a n t).after H

-- being under is an order
pub record UnderLaws (P : Type 0) : Type 0 where
  pub reflexive : (a : Know P) → IsUnder a a
  pub transitive : (a b d : Know P) → IsUnder a b → IsUnder b d → IsUnder a d

-- the join is the least that both are under
pub record JoinLaws (P : Type 0) : Type 0 where
  pub idempotent : (a : Know P) → join a a ≡ a
  pub commutative : (H : List (ℕ × P)) (a b : Know P) → IsValid a H → IsValid b H
      → join a b ≡ join b a
  pub associative : (H : List (ℕ × P)) (a b d : Know P) → IsValid a H → IsValid b H → IsValid d H
      → join (join a b) d ≡ join a (join b d)
  pub left : (H : List (ℕ × P)) (a b : Know P) → IsValid a H → IsValid b H → IsUnder a (join a b)
  pub right : (H : List (ℕ × P)) (a b : Know P) → IsValid a H → IsValid b H → IsUnder b (join a b)
  pub least : (a b d : Know P) → IsUnder a d → IsUnder b d → IsUnder (join a b) d
  pub valid : (H : List (ℕ × P)) (a b : Know P) → IsValid a H → IsValid b H → IsValid (join a b) H
  pub no_fault : (same : P → P → Bool) → IsReflexive same → (H : List (ℕ × P)) (a b : Know P)
      → IsValid a H → IsValid b H → join_fault same a b ≡ None
  pub keeps : (a b : Know P) → IsKnow a → IsKnow b → IsKnow (join a b)

-- what has a join, and what the fault shows if there is none
pub record JoinFaultsAreRight (P : Type 0) : Type 0 where
  pub none : (same : P → P → Bool) → IsReflexive same → (a b : Know P) → IsCompatible a b
      → join_fault same a b ≡ None
  pub only : (same : P → P → Bool) → IsReflexive same → TellsApart same → (a b : Know P) → IsKnow a
      → IsKnow b → join_fault same a b ≡ None → IsCompatible a b
  pub shown : (same : P → P → Bool) → IsReflexive same → TellsApart same
      → (a b : Know P) (f : Answer) → join_fault same a b ≡ Some f → Shows a b f
  pub above : (a b d : Know P) → IsUnder a d → IsUnder b d → IsRising d.list → IsCompatible a b
  pub joined : (a b : Know P) → IsCompatible a b
      → IsUnder a (join a b) × IsUnder b (join a b) × (join a b ≡ join b a)
  pub first : (same : P → P → Bool) (K J : Knowledge P) (n c : ℕ) (f : Answer)
      → join_faults same K J n ≡ Some (c, f)
      → (c < n) × (join_fault same (K c) (J c) ≡ Some f)
      × ((d : ℕ) → d < c → join_fault same (K d) (J d) ≡ None)
  pub faultless : (same : P → P → Bool) (K J : Knowledge P) (n : ℕ) → join_faults same K J n ≡ None
      → (c : ℕ) → c < n → join_fault same (K c) (J c) ≡ None
