use Rattle.std.proofs.Common.{◌<◌, ◌+◌, [], ◌∷◌, length, Some, refl, sym, ap, ◌∙◌, arith, rules}
use Rattle.std.proofs.lemmas.Result.{err_from_is_err_and}
use Rattle.std.proofs.lemmas.Option.{slice_get-get_or}
use Rattle.nm_files.proofs.Records.{last_records, next_records, no_record, one_more}
use Rattle.nm_offline.specs.Traces.{going}
use Rattle.nm_offline.proofs.Ways.{going_both}
use Rattle.nm_offline.proofs.trace_file.write_some.Goals as goal

pub loop-number-init : goal.loop-number-init
loop-number-init g c = record {
  within = omega arith;
  sound = c.requires.sound;
  front = no_record (going c.args.traced.now.ways) refl (going_both c.args.traced.now.ways) g.S.Sink.seen c.args.traced.now.iface c.args.records.now c.args.file.now 0 refl c.requires.sound;
}

pub returns-in_err-write_one : goal.returns-in_err-write_one
returns-in_err-write_one g c =
    let p = err_from_is_err_and c.from_residual.result c.from_residual.ensures.1 in
    let n = c.loop-number.number in
    let low : n < length c.args.records.now = search rules in
    let is = slice_get-get_or c.args.records.now n c.index-records-number.result low ∙ ap (λ r. Some r) (sym c.index-records-number.is) in
    rw (p.1, p.2) (last_records (going c.args.traced.now.ways) refl (going_both c.args.traced.now.ways) g.S.Sink.seen c.args.traced.now.iface c.args.records.now c.args.file.now c.loop-number.file c.write_one.new.file _ n (n + 1) (c.index-records-number.result ∷ []) (one_more c.args.records.now n (n + 1) c.index-records-number.result is refl)
    c.loop-number.invariant.front c.in_err-write_one.ensures)

pub loop-number-preserved : goal.loop-number-preserved
loop-number-preserved g c =
    let n = c.loop-number.number in
    let low : n < length c.args.records.now = search rules in
    let is = slice_get-get_or c.args.records.now n c.index-records-number.result low ∙ ap (λ r. Some r) (sym c.index-records-number.is) in
    record {
      within = omega (arith, low);
      sound = c.in_ok-write_one.ensures.sound;
      front = next_records (going c.args.traced.now.ways) refl (going_both c.args.traced.now.ways) g.S.Sink.seen c.args.traced.now.iface c.args.records.now c.args.file.now c.loop-number.file c.write_one.new.file n (n + 1) (c.index-records-number.result ∷ []) (one_more c.args.records.now n (n + 1) c.index-records-number.result is refl)
          c.loop-number.invariant.front c.in_ok-write_one.ensures;
    }
