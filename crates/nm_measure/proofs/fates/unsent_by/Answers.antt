use Rattle.std.proofs.Common.{sym, ap, ◌∙◌}
use Rattle.nm_forward.specs.State.{state_counted}
use Rattle.nm_measure.proofs.Sources.{unsent_counts}
use Rattle.nm_measure.proofs.fates.unsent_by.Goals as goal

pub returns-clause-counted : goal.returns-clause-counted
returns-clause-counted c = λ j state packet at none.
    unsent_counts c.args.topology.now c.args.source.now j state packet at none ∙ ap (λ k. state_counted k state) (sym c.unsent_counter.ensures)
