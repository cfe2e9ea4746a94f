use Rattle.std.proofs.Common.{◌≡◌, ◌≤◌, [], length, map, string_bytes, take}
use Rattle.std.specs.Io.Buffered.{reader_remaining}
use Rattle.nm_files.specs.Checked.{HaveRead, looked_at}
use Rattle.nm_offline.specs.All.{is_asked_for}
use Rattle.nm_offline.specs.Input.{inputs_seen}
use Rattle.nm_offline.specs.Verify.{texts_of}
use Rattle.nm_offline.proofs.verify.open_all.Given as goal

abbrev pub invariant-loop-number : goal.invariant-loop-number
invariant-loop-number g l = record {
  within : l.number ≤ length l.folder.topology.now.ifaces;
  looked : looked_at l.files.files.items ≡ map (is_asked_for (map (λ n. string_bytes n) l.folder.choice.names.now)) (take l.number l.folder.topology.now.ifaces);
  read : HaveRead (texts_of (inputs_seen g.I.Inputs.seen l.inputs) l.folder.name.now l.folder.topology.now) (reader_remaining g.I.File.Read.remaining) [] l.files.files.items;
}
