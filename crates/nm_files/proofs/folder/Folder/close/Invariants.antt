use Rattle.std.proofs.Common.{◌≡◌, ◌≤◌, ℕ, List, None, get_or, length, map, take}
use Rattle.std.specs.List.{enumerate_from, flat_map}
use Rattle.nm_files.specs.Files.{HoldsFiles}
use Rattle.nm_files.specs.Folder.{chosen_file}
use Rattle.nm_files.specs.Outputs.{AreWhole}
use Rattle.nm_files.proofs.folder.Folder.close.Given as goal

abbrev pub invariant-loop-number : goal.invariant-loop-number
invariant-loop-number g l = record {
  within : l.number ≤ length l.self.topology.now.ifaces;
  left : (n : ℕ) → l.number ≤ n → get_or l.files.files.items n None ≡ get_or l.fn.files.files.items n None;
  whole : (octets : ℕ → List ℕ)
      → HoldsFiles g.F.File.Sink.seen (g.F.Outputs.made l.fn.outputs) (g.C.Choice.chooses l.self.choice l.self.topology.now) l.self.topology.now.ifaces octets l.fn.files.files.items
      → AreWhole (g.F.Outputs.made l.fn.outputs) (map (λ c. g.F.Outputs.closed c.file) l.all.files.items)
      (flat_map (chosen_file (g.C.Choice.chooses l.self.choice l.self.topology.now) l.self.name.now octets) (enumerate_from 0 (take l.number l.self.topology.now.ifaces)));
  same : g.F.Outputs.made l.outputs ≡ g.F.Outputs.made l.fn.outputs;
}
