use Rattle.std.proofs.Common.{◌++◌, List, length}
use Rattle.std.specs.Arc.{arc_value}
use Rattle.std.specs.List.{AllZip}
use Rattle.nm_base.specs.declared.fault.Fault.{Fault}
use Rattle.nm_certify.specs.Checking.{IsEnd, RefusesOne}
use Rattle.nm_certify.specs.declared.fault.CertifyCause.{CertifyCause}
use Rattle.nm_certify.specs.declared.part.PartEnd.{PartEnd}
use Rattle.nm_certify.proofs.parts.check_all.Given as goal

-- what came of the jobs so far, with that of those that are left, is that of all
abbrev pub invariant-loop-alloc : goal.invariant-loop-alloc
invariant-loop-alloc g l = record {
  ends : (more : List PartEnd) → AllZip (IsEnd (arc_value l.topology) g.B.Read.remaining) l.piece.items more
      → AllZip (IsEnd (arc_value l.topology) g.B.Read.remaining) l.fn.jobs.items (l.ends.items ++ more);
  fault : (f : Fault CertifyCause) → RefusesOne (arc_value l.topology) g.B.Read.remaining l.piece.items f → RefusesOne (arc_value l.topology) g.B.Read.remaining l.fn.jobs.items f;
}

abbrev pub decreases-loop-alloc : goal.decreases-loop-alloc
decreases-loop-alloc g l = length l.piece.items
