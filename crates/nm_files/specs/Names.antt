-- The names of trace files.
use Rattle.std.specs.Prelude.{ℕ, List, ◌++◌, codes}
use Rattle.nm_topology.specs.PartValues.{IfaceValue}

-- the name of the trace file of an interface in a folder
abbrev pub file_name : List ℕ → IfaceValue → List ℕ
file_name folder iface = folder ++ codes "/" ++ iface.name ++ codes ".pcap"
