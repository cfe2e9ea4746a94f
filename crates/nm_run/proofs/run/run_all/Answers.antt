use Rattle.std.proofs.Common.{inr}
use Rattle.std.specs.Arc.{arc_value}
use Rattle.nm_run.specs.Leaving.{leaving}
use Rattle.nm_run.proofs.Kept.{all_named, some_named, traces_named}
use Rattle.nm_run.proofs.run.run_all.Goals as goal

pub returns-in_err-place_files-clause-named : goal.returns-in_err-place_files-clause-named
returns-in_err-place_files-clause-named g c =
    let left = c.in_ok-report.field-0 in
    let is = c.in_ok-report.ensures in
    inr (left.report.totals.items, is.certified, some_named g.F.Outputs.closed _ _ (g.F.Outputs.made c.place_files.new.outputs) is.same (leaving c.args.plan.now) (arc_value c.args.plan.now.topology.now) left.report.totals.items left.traces.files.items left.known.items is.closed is.kept c.in_err-place_files.ensures.some)

pub returns-in_err-place_known-clause-named : goal.returns-in_err-place_known-clause-named
returns-in_err-place_known-clause-named g c =
    let left = c.in_ok-report.field-0 in
    let is = c.in_ok-report.ensures in
    inr (left.report.totals.items, is.certified, traces_named g.F.Outputs.closed _ _ (g.F.Outputs.made c.place_files.new.outputs) is.same (leaving c.args.plan.now) (arc_value c.args.plan.now.topology.now) left.report.totals.items left.traces.files.items left.known.items is.closed is.kept (g.F.Outputs.made c.place_known.new.outputs) c.in_ok-place_files.ensures.placed c.in_err-place_known.ensures.some)

pub returns-clause-placed : goal.returns-clause-placed
returns-clause-placed g c =
    let left = c.in_ok-report.field-0 in
    let is = c.in_ok-report.ensures in
    all_named g.F.Outputs.closed _ _ (g.F.Outputs.made c.place_files.new.outputs) is.same (leaving c.args.plan.now) (arc_value c.args.plan.now.topology.now) left.report.totals.items left.traces.files.items left.known.items is.closed is.kept (g.F.Outputs.made c.place_known.new.outputs) c.in_ok-place_files.ensures.placed c.in_ok-place_known.ensures.placed

pub returns-clause-named : goal.returns-clause-named
returns-clause-named g c =
    let left = c.in_ok-report.field-0 in
    let is = c.in_ok-report.ensures in
    inr (left.report.totals.items, is.certified, traces_named g.F.Outputs.closed _ _ (g.F.Outputs.made c.place_files.new.outputs) is.same (leaving c.args.plan.now) (arc_value c.args.plan.now.topology.now) left.report.totals.items left.traces.files.items left.known.items is.closed is.kept (g.F.Outputs.made c.place_known.new.outputs) c.in_ok-place_files.ensures.placed c.in_ok-place_known.ensures.some)
