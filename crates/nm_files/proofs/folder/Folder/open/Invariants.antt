use Rattle.std.proofs.Common.{◌≡◌, ◌≤◌, length}
use Rattle.nm_pcap.specs.Format.{file_header}
use Rattle.nm_files.specs.Files.{HoldsFiles}
use Rattle.nm_files.proofs.folder.Folder.open.Given as goal

abbrev pub invariant-loop-number : goal.invariant-loop-number
invariant-loop-number g l = record {
  within : l.number ≤ length l.self.topology.now.ifaces;
  count : length l.files.files.items ≡ l.number;
  held : HoldsFiles g.F.File.Sink.seen (g.F.Outputs.made l.fn.outputs) (g.C.Choice.chooses l.self.choice l.self.topology.now) l.self.topology.now.ifaces (λ n. file_header) l.files.files.items;
  same : g.F.Outputs.made l.outputs ≡ g.F.Outputs.made l.fn.outputs;
}
