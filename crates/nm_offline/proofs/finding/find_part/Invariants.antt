use Rattle.std.proofs.Common.{map, string_bytes}
use Rattle.nm_offline.specs.Input.{inputs_seen}
use Rattle.nm_offline.specs.Certify.{HaveNoFile}
use Rattle.nm_offline.proofs.finding.find_part.Given as goal

abbrev pub invariant-loop-number : goal.invariant-loop-number
invariant-loop-number g l = record {
  none : HaveNoFile (inputs_seen g.I.Inputs.seen l.inputs) (map (λ f. string_bytes f) l.folders) l.number l.partition;
}
