use Rattle.std.proofs.Common.{length, ap, sym, arith}
use Rattle.std.specs.Vec.Iter.{into_iter_items}
use Rattle.nm_certify.proofs.Pieces.{next_job}
use Rattle.nm_certify.proofs.parts.jobs_of.Goals as goal

pub loop-files-preserved : goal.loop-files-preserved
loop-files-preserved g c =
    let next = c.in-Some.ensures.steps.0 in
    let more = into_iter_items c.next.new.self in
    let count = ap length (sym next) in
    let was = c.loop-files.invariant.count in
    record {
      jobs = next_job c.loop-files.jobs.items c.push.new.self.items _ c.loop-files.number c.new.result c.in-Some.files (into_iter_items c.loop-files.files-iterator) more
          c.loop-files.invariant.jobs next c.new.ensures c.in_ok-push.ensures.items;
      count = omega (arith, count, was);
    }
