use Rattle.std.specs.Arc.{arc_value}
use Rattle.nm_program.specs.Run.{run_asked}
use Rattle.nm_program.proofs.runs.run_network.Goals as goal

pub returns-in-Err-clause-fault : goal.returns-in-Err-clause-fault
returns-in-Err-clause-fault g c =
    c.status_of.ensures.stops (arc_value c.args.network.now) (run_asked c.args.words.now) (g.F.Outputs.made c.args.outputs.now) (g.F.Outputs.made c.report_of.new.outputs)
    c.in-Err.ensures.refused c.in-Err.ensures.kept c.report_of.ensures.named
