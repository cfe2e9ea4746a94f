-- The measures of a run as comma-separated values, in one table.
use Rattle.std.specs.Prelude.{◌≡◌, ℕ, List, ◌++◌, length}
use Rattle.nm_topology.specs.TopologyValue.{TopologyValue}
use Rattle.nm_report.specs.Sources.{AreSourceLines}
use Rattle.nm_report.specs.Values.{all_counts, all_values, head}

-- the names of the columns, and the lines of all nodes, of all interfaces and of all sources, in the
-- order of the topology's text, after so many events of the one event list
pub record HaveValues (t : TopologyValue) (events : ℕ) (text : List ℕ) : Type 0 where
  pub sources : List ℕ
  pub are : AreSourceLines t events (length t.sources) sources
  pub is : text ≡ head ++ all_counts t events 0 t.nodes ++ all_values t events 0 t.ifaces ++ sources
