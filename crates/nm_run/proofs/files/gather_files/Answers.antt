use Rattle.std.proofs.Common.{◌<◌, ◌∷◌, [], All, get_or, length, length-append, Some, sym, ◌∙◌, ap, subst, arith, rules}
use Rattle.std.specs.Arc.{arc_value}
use Rattle.std.proofs.lemmas.List.Elements.{All-push}
use Rattle.std.proofs.lemmas.Option.{slice_get-get_or}
use Rattle.nm_run.specs.Files.{HoldsSome}
use Rattle.nm_run.specs.declared.report.IfaceTotals.{IfaceTotals}
use Rattle.nm_run.proofs.ClosedFiles.{holds_some, no_files, one_as_many}
use Rattle.nm_run.proofs.files.gather_files.Goals as goal

pub loop-number-init : goal.loop-number-init
loop-number-init g c = record {
  within = omega arith;
  count = ap length c.new-all.ensures;
  some = λ made counted. (counted, subst (All (HoldsSome g.S.Sink.seen made)) (sym c.new-all.ensures) (λ k d low. absurd (omega (arith, low))));
  totals = no_files c.args.totals.now c.new-all.result.files.items c.new-all.ensures;
}

pub loop-number-preserved : goal.loop-number-preserved
loop-number-preserved g c =
    let n = c.loop-number.number in
    let low : n < length (arc_value c.args.plan.now.topology.now).ifaces = search rules in
    let there : n < length c.args.totals.now = search rules in
    let files = c.loop-number.all.files.items in
    let file = c.in-Some.file in
    let none : IfaceTotals = record { records = 0; octets = 0 } in
    let own = get_or c.args.totals.now n none in
    let added = c.in_ok-add.ensures.added in
    let long = ap length added ∙ length-append files (Some file ∷ []) in
    let count = c.loop-number.invariant.count in
    record {
      within = omega (arith, low);
      count = omega (arith, long, count);
      some = λ made counted.
          let was = c.loop-number.invariant.some made counted in
          let took = c.take_file.ensures.counted made was.0 in (
            took.1,
            subst (All (HoldsSome g.S.Sink.seen made)) (sym added)
                (All-push (HoldsSome g.S.Sink.seen made) files (Some file) was.1 (holds_some g.S.Sink.seen made c.take_file.result file c.in-Some.is took.0)),
          );
      totals = one_as_many c.args.totals.now files c.add.new.self.files.items file n own count added (slice_get-get_or c.args.totals.now n none there) (search rules) c.loop-number.invariant.totals;
    }

pub returns-clause-some : goal.returns-clause-some
returns-clause-some g c = λ made counted. (c.loop-number.invariant.some made counted).1
