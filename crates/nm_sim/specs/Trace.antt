-- The trace of a network's run.
use Rattle.std.specs.Prelude.{◌≡◌, ℕ, min, List}
use Rattle.nm_base.specs.declared.record.Record.{Record}
use Rattle.nm_topology.specs.TopologyValue.{TopologyValue}
use Rattle.nm_model.specs.Before.{IsBefore}
use Rattle.nm_model.specs.Run.{one_list}
use Rattle.nm_sim.specs.Network.{net_of}

-- all records before a time, and before stop
abbrev pub IsTraceBefore : TopologyValue → ℕ → List (Record (List ℕ)) → Type 0
IsTraceBefore t until records =
    (n : ℕ) × IsBefore (net_of t) (min until t.stop) n × (records ≡ (one_list (net_of t) n).records)
