use Rattle.std.proofs.Common.{◌≤◌, map, string_bytes}
use Rattle.std.specs.Io.Buffered.{reader_remaining}
use Rattle.nm_offline.specs.Finding.{AllFound}
use Rattle.nm_offline.specs.Input.{inputs_seen}
use Rattle.nm_offline.proofs.finding.find_all.Given as goal

abbrev pub invariant-loop-partition : goal.invariant-loop-partition
invariant-loop-partition g l = record {
  within : l.partition ≤ l.topology.partitions;
  found : AllFound (reader_remaining g.I.File.Read.remaining) (inputs_seen g.I.Inputs.seen l.inputs) (map (λ f. string_bytes f) l.folders) l.partition l.all.items;
}
