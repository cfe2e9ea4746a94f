-- The sums over the steps of a series.
use Rattle.std.specs.Prelude.{◌≡◌, ℕ, suc, ◌-◌}
use Rattle.std.specs.Int.{sum_through}
use Rattle.nm_model.specs.Before.{IsBefore}
use Rattle.nm_model.specs.Run.{one_list}
use Rattle.nm_topology.specs.TopologyValue.{TopologyValue}
use Rattle.nm_sim.specs.Network.{net_of}
use Rattle.nm_series.specs.Rows.{Had, had}
use Rattle.nm_series.specs.Steps.{step_time}

-- what was added in a row
abbrev pub packets_in : Had → ℕ
packets_in h = h.traffic.came.packets

abbrev pub octets_in : Had → ℕ
octets_in h = h.traffic.came.octets

abbrev pub packets_out : Had → ℕ
packets_out h = h.traffic.went.packets

abbrev pub octets_out : Had → ℕ
octets_out h = h.traffic.went.octets

abbrev pub drops : Had → ℕ
drops h = h.dropped

module _ (t : TopologyValue) (events : ℕ → ℕ) where
  -- so many events of the one event list are before the begin of each step
  abbrev pub BeginAt : (step : ℕ) → Type 0
  BeginAt step = (k : ℕ) → IsBefore (net_of t) (step_time step t.stop k) (events k)

  -- what an interface has of this when step k begins
  abbrev pub had_at : (Had → ℕ) → (i k : ℕ) → ℕ
  had_at amount i k = amount (had i (one_list (net_of t) (events k)))

  -- what it has more in each of the steps 0 to `last` is all together what it has at the end
  -- of the last
  abbrev pub AddUp : (Had → ℕ) → (i last : ℕ) → Type 0
  AddUp amount i last = sum_through (λ k. had_at amount i (suc k) - had_at amount i k) last
      ≡ had_at amount i (suc last)

  -- for each interface and each last step
  abbrev pub AllAddUp : (Had → ℕ) → Type 0
  AllAddUp amount = (i last : ℕ) → AddUp amount i last

  -- so do the packets and the octets that came to an interface and went from it, and the packets
  -- that it dropped
  pub record HadAddsUp : Type 0 where
    pub came : AllAddUp packets_in
    pub octets_came : AllAddUp octets_in
    pub went : AllAddUp packets_out
    pub octets_went : AllAddUp octets_out
    pub dropped : AllAddUp drops
