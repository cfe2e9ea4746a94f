use Rattle.std.proofs.Common.{◌<◌, map, string_bytes, subst, arith, rules}
use Rattle.std.specs.Io.Buffered.{reader_remaining}
use Rattle.nm_offline.specs.Finding.{IsFound}
use Rattle.nm_offline.specs.Input.{inputs_seen}
use Rattle.nm_offline.proofs.Certifying.{one_found}
use Rattle.nm_offline.proofs.finding.find_all.Goals as goal

pub loop-partition-preserved : goal.loop-partition-preserved
loop-partition-preserved g c =
    let n = c.loop-partition.partition in
    let low : n < c.args.topology.now.partitions = search rules in
    let left = reader_remaining g.I.File.Read.remaining in
    let inputs = inputs_seen g.I.Inputs.seen c.args.inputs.now in
    let names = map (λ f. string_bytes f) c.args.folders.now in
    record {
      within = omega (arith, low);
      found = one_found left inputs names c.loop-partition.all.items c.push.new.self.items c.in_ok-find_part.field-0 n c.loop-partition.invariant.found
          (subst (λ k. IsFound left inputs names k c.in_ok-find_part.field-0) c.new.ensures c.in_ok-find_part.ensures.found) c.in_ok-push.ensures.items;
    }
