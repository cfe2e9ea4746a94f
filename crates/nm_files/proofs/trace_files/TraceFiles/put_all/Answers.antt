use Rattle.std.proofs.Common.{◌<◌, length, Some, sym, ◌∙◌, ap, arith, rules}
use Rattle.std.proofs.lemmas.Option.{slice_get-get_or}
use Rattle.nm_files.proofs.Files.{next_record, no_records}
use Rattle.nm_files.proofs.trace_files.TraceFiles.put_all.Goals as goal

pub loop-number-init : goal.loop-number-init
loop-number-init g c = record {
  within = omega arith;
  took = no_records g.S.Sink.seen c.args.self.now.files.items;
}

pub loop-number-preserved : goal.loop-number-preserved
loop-number-preserved g c =
    let n = c.loop-number.number in
    let records = c.args.records.now in
    let low : n < length records = search rules in
    record {
      within = omega (arith, low);
      took = next_record g.S.Sink.seen records n c.index-records-number.result c.args.self.now.files.items c.loop-number.self.files.items c.put.new.self.files.items
          (slice_get-get_or records n c.index-records-number.result low ∙ ap (λ r. Some r) (sym c.index-records-number.is)) c.loop-number.invariant.took c.in_ok-put.ensures.took;
    }
