-- What a partition may promise of its channels: the lookahead of null messages (Misra, section 3).
use Rattle.std.specs.Prelude.{ℕ, ◌+◌, min, max}
use Rattle.nm_model.specs.EventList.{least, next_time}
use Rattle.nm_model.specs.Network.{Net}
use Rattle.nm_model.specs.Port.{busy_until}
use Rattle.nm_model.specs.Knowledge.{Knowledge}
use Rattle.nm_model.specs.Replica.{from_scratch, safe_time}

-- The plain promise counts the link's delay. The tight one also counts the transmission under
-- way, and the least time that one takes.
pub data Promising : Type 0 where
  Plain : Promising
  Tight : Promising

module _ {P N : Type 0} (net : Net P N) where
  -- how long after its cause a message comes by channel c
  abbrev pub lookahead : Promising → ℕ → ℕ
  lookahead Plain c = net.delay (net.far_end c)
  lookahead Tight c = net.least_tx (net.far_end c) + net.delay (net.far_end c)

  -- no further event of the part is before it
  abbrev pub next_cause : ℕ → Knowledge P → ℕ → ℕ
  next_cause p K k =
      next_time (min net.stop (safe_time net p K)) (least (from_scratch net p K k).pending)

  -- no further transmission to channel c starts before it
  abbrev pub next_start : Promising → ℕ → Knowledge P → ℕ → ℕ → ℕ
  next_start Plain p K k c = next_cause p K k
  next_start Tight p K k c =
      max (next_cause p K k) (busy_until ((from_scratch net p K k).port (net.far_end c)).busy)

  -- no further message comes by channel c before it
  abbrev pub promise : Promising → ℕ → Knowledge P → ℕ → ℕ → ℕ
  promise kind p K k c = next_start kind p K k c + lookahead kind c
