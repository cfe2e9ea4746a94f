use Rattle.std.proofs.Common.{inr}
use Rattle.std.proofs.lemmas.Result.{IfErr-weaker}
use Rattle.std.specs.Arc.{arc_value}
use Rattle.nm_program.specs.Run.{StopsRun, run_asked}
use Rattle.nm_program.proofs.runs.run_said.Goals as goal

pub returns-clause-fault : goal.returns-clause-fault
returns-clause-fault g c =
    IfErr-weaker c.run_network.result (StopsRun (arc_value c.in_ok-network.network) (run_asked c.args.words.now) (g.F.Outputs.made c.args.outputs.now) (g.F.Outputs.made c.run_network.new.outputs)) _
    (λ status stops. inr (arc_value c.in_ok-network.network, c.in_ok-network.ensures.network, stops)) c.run_network.ensures.fault
