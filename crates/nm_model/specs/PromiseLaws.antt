-- What holds of what partitions send and promise.
use Rattle.std.specs.Prelude.{◌≡◌, ◌⊎◌, ℕ, ◌+◌, ◌≤◌, true, length, Some}
use Rattle.nm_base.specs.declared.key.Place.TheVariants.{Arrive}
use Rattle.nm_model.specs.Lists.{nth, IsPrefix}
use Rattle.nm_model.specs.Network.{Net}
use Rattle.nm_model.specs.Knowledge.{Knowledge}
use Rattle.nm_model.specs.Partition.{in_part}
use Rattle.nm_model.specs.Replica.{from_scratch, safe_time, IsWithin}
use Rattle.nm_model.specs.Promise.{Promising, Plain, Tight, next_cause, promise}
use Rattle.nm_model.specs.EventList.{least}
use Rattle.nm_model.specs.Port.{busy_until}
use Rattle.nm_base.specs.declared.key.Key.{Key}
use Rattle.nm_base.specs.declared.event.Event.{Event}
use Rattle.nm_model.specs.Before.{IsBefore, history}

module _ {P N : Type 0} (net : Net P N) where
  -- what partition p, over this knowledge, put on a channel begins what the network sends by
  -- it, and what the network sends past it keeps the promise
  pub record KeepsPromises (p : ℕ) (K : Knowledge P) : Type 0 where
    pub prefix : (k last c : ℕ) → IsWithin net p K k → IsBefore net net.stop last
        → in_part net p (Arrive (net.far_end c)) ≡ true
        → IsPrefix ((from_scratch net p K k).sent c) (history net last c)
    pub later : (k last c : ℕ) → IsWithin net p K k → IsBefore net net.stop last
        → in_part net p (Arrive (net.far_end c)) ≡ true → (i : ℕ) (b : ℕ × P)
        → length ((from_scratch net p K k).sent c) ≤ i → nth (history net last c) i ≡ Some b
        → (kind : Promising) → promise net kind p K k c ≤ b.0

  -- more is known: the safe time and the promises of partition p do not fall
  pub record NeverFalls (p : ℕ) (K J : Knowledge P) : Type 0 where
    pub safe : safe_time net p K ≤ safe_time net p J
    pub promised : (k m : ℕ) → k ≤ m → IsWithin net p K k → IsWithin net p J m
        → (kind : Promising) (c : ℕ) → promise net kind p K k c ≤ promise net kind p J m c

  -- what the promises of partition p after k events are at least, and what may cause its next
  -- message
  pub record PromisesAtLeast (p : ℕ) (K : Knowledge P) (k : ℕ) : Type 0 where
    pub plain : (c : ℕ) → promise net Plain p K k c ≡ next_cause net p K k + net.delay (net.far_end c)
    pub caused : (c : ℕ)
        → next_cause net p K k + net.least_tx (net.far_end c) + net.delay (net.far_end c)
        ≤ promise net Tight p K k c
    pub under_way : (c : ℕ)
        → busy_until ((from_scratch net p K k).port (net.far_end c)).busy
        + net.least_tx (net.far_end c) + net.delay (net.far_end c) ≤ promise net Tight p K k c
    pub cause : (next_cause net p K k ≡ net.stop) ⊎ (next_cause net p K k ≡ safe_time net p K)
        ⊎ ((e : Key × Event P) × (least (from_scratch net p K k).pending ≡ Some e)
        × (next_cause net p K k ≡ e.0.time))
