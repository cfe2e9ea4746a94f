use Rattle.std.proofs.Common.{◌<◌, length, sym, ◌∙◌, ap, Some, rules}
use Rattle.std.proofs.lemmas.Option.{slice_get-get_or}
use Rattle.std.proofs.lemmas.Result.{on_ok_weaker}
use Rattle.nm_files.proofs.Files.{none_took, one_took}
use Rattle.nm_files.proofs.trace_files.TraceFiles.put.Goals as goal

pub returns-then-number-len-clause-took : goal.returns-then-number-len-clause-took
returns-then-number-len-clause-took g c = none_took g.S.Sink.seen c.args.record.now c.args.self.now.files.items (search rules)

pub returns-clause-took : goal.returns-clause-took
returns-clause-took g c =
    let files = c.args.self.now.files.items in
    let k = c.index-number.result in
    let low : k < length files = search rules in
    on_ok_weaker c.put_in.result (one_took g.S.Sink.seen c.args.record.now files k c.index_mut.result.now c.put_in.new.file (search rules) low
    (slice_get-get_or files k c.index_mut.result.now low ∙ ap (λ z. Some z) (sym c.index_mut.ensures.value)))
    c.put_in.ensures.took
