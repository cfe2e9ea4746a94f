-- What holds of ports.
use Rattle.std.specs.Prelude.{◌≡◌, ℕ, ◌+◌, Bool, List, ◌++◌}
use Rattle.nm_model.specs.Port.{Port, PortEvent, idle_port, waiting_of, port_after, transmitted_by, taken_by, dropped_by}

-- what was offered and not dropped has started, in that order, or waits; each drop is counted
pub record StartInTurn (P : Type 0) : Type 0 where
  pub from_idle : (room : List P → P → Bool) (tx : P → ℕ) (events : List (PortEvent P))
      → taken_by room tx events idle_port
      ≡ transmitted_by room tx events idle_port
      ++ waiting_of (port_after room tx events idle_port).busy
  pub from_any : (room : List P → P → Bool) (tx : P → ℕ) (events : List (PortEvent P)) (w : Port P)
      → waiting_of w.busy ++ taken_by room tx events w
      ≡ transmitted_by room tx events w ++ waiting_of (port_after room tx events w).busy
  pub dropped : (room : List P → P → Bool) (tx : P → ℕ) (events : List (PortEvent P)) (w : Port P)
      → (port_after room tx events w).dropped ≡ w.dropped + dropped_by room tx events w
