use Rattle.std.proofs.Common.{subst}
use Rattle.nm_command.specs.Status.{ended}
use Rattle.nm_offline.specs.Output.{output_seen}
use Rattle.nm_offline.specs.Series.{WritesSteps}
use Rattle.nm_offline.proofs.series.write_all_steps.Goals as goal

pub returns : goal.returns
returns g c =
    subst (λ step. WritesSteps (output_seen g.S.Sink.seen c.args.sink.now) (output_seen g.S.Sink.seen c.write_from_begin.new.sink) c.args.subject step c.args.topology.now (ended c.write_from_begin.result))
    c.in_ok-series.ensures.begin.1 c.write_from_begin.ensures
