use Rattle.std.proofs.Common.{sym}
use Rattle.nm_rounds.specs.declared.step.WorldStep.TheVariants.{Run}
use Rattle.nm_rounds.proofs.Standing.{is_absent, is_there}
use Rattle.nm_rounds.proofs.Acts.{all_steps, cut_steps, limit_steps, no_replica_runs, step_names_nothing}
use Rattle.nm_rounds.proofs.acting.run.Goals as goal

pub returns-in_default : goal.returns-in_default
returns-in_default c bag w stands =
    step_names_nothing c.args.topology.now w (Run c.args.partition c.args.replica c.args.limit) c.args.books.now.items bag
    (no_replica_runs c.args.topology.now w c.args.partition c.args.replica c.args.limit (is_absent _ _ (sym c.in_default.ensures))) stands

pub returns-in-All : goal.returns-in-All
returns-in-All c bag w stands =
    let found = is_there _ _ _ (sym c.in-Some.ensures) in
    all_steps c.args.topology.now c.args.books.now.items bag w stands c.args.partition c.args.replica found.0 c.in-Some.place found.1 c.index_mut.result.now c.run_safe.new.self c.index_mut.ensures.value
    c.args.limit c.in-All.done c.in-All.ensures

pub returns-in-Limit : goal.returns-in-Limit
returns-in-Limit c bag w stands =
    let found = is_there _ _ _ (sym c.in-Some.ensures) in
    limit_steps c.args.topology.now c.args.books.now.items bag w stands c.args.partition c.args.replica found.0 c.in-Some.place found.1 c.index_mut.result.now c.run_safe.new.self c.index_mut.ensures.value
    c.args.limit c.in-Limit.done c.in-Limit.ensures

pub returns-in-Memory : goal.returns-in-Memory
returns-in-Memory c bag w stands =
    let found = is_there _ _ _ (sym c.in-Some.ensures) in
    cut_steps c.args.topology.now c.args.books.now.items bag w stands c.args.partition c.args.replica found.0 c.in-Some.place found.1 c.index_mut.result.now c.run_safe.new.self c.index_mut.ensures.value
    c.args.limit c.in-Memory.field-0 c.in-Memory.ensures
