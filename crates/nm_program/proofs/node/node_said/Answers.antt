use Rattle.std.proofs.Common.{inr, subst, sym}
use Rattle.std.proofs.lemmas.Result.{IfErr-weaker}
use Rattle.std.specs.Arc.{arc_value}
use Rattle.nm_offline.specs.Input.{inputs_seen}
use Rattle.nm_program.specs.Node.{HasListeners, StopsNode, node_asked}
use Rattle.nm_program.proofs.NodeEndings.{says_of_inputs}
use Rattle.nm_program.proofs.node.node_said.Goals as goal

pub returns-clause-said : goal.returns-clause-said
returns-clause-said g c =
    let inputs = inputs_seen g.I.Inputs.seen c.args.inputs.now in
    let asked = node_asked c.args.words.now in
    let t = arc_value c.in_ok-network.network in
    says_of_inputs (λ o. o.text.items) (λ o. o.status) t asked c.as_slice.result.now (g.F.Outputs.made c.args.outputs.now) (g.F.Outputs.made c.serve.new.outputs)
    inputs c.serve.result (subst (HasListeners inputs asked t) (sym c.as_slice.ensures.value) c.in_ok-network.ensures.read) c.serve.ensures.said

pub returns-clause-fault : goal.returns-clause-fault
returns-clause-fault g c =
    let inputs = inputs_seen g.I.Inputs.seen c.args.inputs.now in
    let asked = node_asked c.args.words.now in
    let t = arc_value c.in_ok-network.network in
    let there = subst (HasListeners inputs asked t) (sym c.as_slice.ensures.value) c.in_ok-network.ensures.read in
    IfErr-weaker c.serve.result (StopsNode (g.F.Outputs.made c.args.outputs.now) (g.F.Outputs.made c.serve.new.outputs)) _
    (λ status stops. inr (t, c.as_slice.result.now, there, stops)) c.serve.ensures.fault
