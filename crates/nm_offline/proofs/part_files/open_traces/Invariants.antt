use Rattle.std.proofs.Common.{◌≡◌, ◌<◌, ◌≤◌, ℕ, List, [], Option, length, true}
use Rattle.std.specs.Io.Buffered.{reader_remaining}
use Rattle.nm_files.specs.Checked.{HaveRead, is_looked_at}
use Rattle.nm_model.specs.Partition.{receiver_of}
use Rattle.nm_sim.specs.Network.{net_of}
use Rattle.nm_offline.specs.Finding.{AreOwnTexts}
use Rattle.nm_offline.specs.Input.{inputs_seen}
use Rattle.nm_offline.proofs.part_files.open_traces.Given as goal

abbrev pub invariant-loop-number : goal.invariant-loop-number
invariant-loop-number g l = record {
  within : l.number ≤ length l.folder.topology.now.ifaces;
  count : length l.files.files.items ≡ l.number;
  looked : (n : ℕ) → n < l.number → receiver_of (net_of l.folder.topology.now) n ≡ l.folder.choice.partition → is_looked_at l.files.files.items n ≡ true;
  read : (texts : ℕ → Option (List ℕ)) → AreOwnTexts (inputs_seen g.I.Inputs.seen l.inputs) l.folder.name.now l.folder.topology.now l.folder.choice.partition texts
      → HaveRead texts (reader_remaining g.I.File.Read.remaining) [] l.files.files.items;
}
