use Rattle.std.proofs.Common.{◌≡◌, ◌++◌, length, map}
use Rattle.std.specs.Io.Buffered.{reader_remaining}
use Rattle.std.specs.Vec.Iter.{into_iter_items}
use Rattle.nm_offline.specs.Certify.{trace_texts}
use Rattle.nm_offline.specs.Finding.{AreOpened, found_place}
use Rattle.nm_offline.specs.Input.{inputs_seen}
use Rattle.nm_offline.proofs.part_files.open_parts.Given as goal

abbrev pub invariant-loop-folder : goal.invariant-loop-folder
invariant-loop-folder g l = record {
  number : l.number ≡ length l.parts.items;
  all : l.fn.found.items ≡ l.yielded ++ into_iter_items l.folder-iterator;
  opened : AreOpened (reader_remaining g.I.File.Read.remaining)
      (trace_texts (inputs_seen g.I.Inputs.seen l.inputs) l.topology (map found_place l.fn.found.items)) l.topology l.yielded l.parts.items;
}
