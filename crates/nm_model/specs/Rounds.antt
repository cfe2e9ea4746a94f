-- Rounds: all partitions run what is safe, and then each gets all that the others have for it.
use Rattle.std.specs.Prelude.{◌≡◌, ℕ, suc, ◌+◌, ◌-◌, ◌/◌, Bool, if◌then◌else◌, length, drop, List, [], ◌∷◌}
use Rattle.nm_model.specs.Network.{Net}
use Rattle.nm_model.specs.Knowledge.{Know}
use Rattle.nm_model.specs.Accept.{accept_data, accept_null}
use Rattle.nm_model.specs.Partition.{comes_in, sender_of}
use Rattle.nm_model.specs.Replica.{from_scratch}
use Rattle.nm_model.specs.Promise.{Promising, promise}
use Rattle.nm_model.specs.Before.{IsCount}
use Rattle.nm_model.specs.World.{Replica, fresh}

-- messages from number n on, one after another
abbrev pub hear_list : {P : Type 0} → (P → P → Bool) → Know P → ℕ → List (ℕ × P) → Know P
hear_list same a n [] = a
hear_list same a n (b ∷ l) = hear_list same (accept_data same a n b).after (suc n) l

-- all new messages, and then the null message
abbrev pub hear : {P : Type 0} → (P → P → Bool) → Know P → List (ℕ × P) → ℕ → Know P
hear same a out t =
    (accept_null (hear_list same a (length a.list) (drop (length a.list) out)) (length out) t).after

-- stop divided by the least lookahead, rounded up
abbrev pub round_count : ℕ → ℕ → ℕ
round_count stop lead = (stop + (lead - 1)) / lead

module _ {P N : Type 0} (net : Net P N) (books : ℕ → Replica P) where
  -- what the book of the channel's sender put on it
  abbrev pub given : ℕ → List (ℕ × P)
  given c =
      let q = sender_of net c in
      (from_scratch net q (books q).knowledge (books q).ran).sent c

  -- what it promises of the channel
  abbrev pub promised : Promising → ℕ → ℕ
  promised kind c =
      let q = sender_of net c in
      promise net kind q (books q).knowledge (books q).ran c

module _ {P N : Type 0} (net : Net P N) (same : P → P → Bool) (kind : Promising) where
  abbrev pub heard_on : (ℕ → Replica P) → ℕ → ℕ → Know P
  heard_on books p c =
      if comes_in net p c
      then hear same ((books p).knowledge c) (given net books c) (promised net books kind c)
      else (books p).knowledge c

  -- the books, by partition, after each round
  pub record IsRounds (b : ℕ → ℕ → Replica P) : Type 0 where
    pub opens : (p : ℕ) → b 0 p ≡ fresh
    pub runs : (j p : ℕ) → IsCount net p (b j p).knowledge (b (suc j) p).ran
    pub hears : (j p : ℕ) → (b (suc j) p).knowledge ≡ heard_on (λ q. record {
      knowledge = (b j q).knowledge;
      ran = (b (suc j) q).ran;
    }) p
