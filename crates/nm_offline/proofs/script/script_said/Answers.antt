use Rattle.std.proofs.Common.{inr, subst, sym}
use Rattle.std.proofs.lemmas.Result.{IfErr-weaker}
use Rattle.nm_offline.specs.Input.{IsInput, inputs_seen, text_of}
use Rattle.nm_offline.specs.Script.{FailsScript}
use Rattle.nm_offline.proofs.script.script_said.Goals as goal

-- both texts were had, and one of them is at fault
pub returns-clause-fault : goal.returns-clause-fault
returns-clause-fault g c =
    let inputs = inputs_seen g.I.Inputs.seen in
    let steps = c.args.steps.now in
    let topology = subst (λ text. IsInput ((inputs c.args.inputs.now).text c.args.topology.now) text) (sym c.as_slice.ensures.value) c.in_ok-topology.ensures.text in
    let script = subst (λ text. IsInput ((inputs c.read_text.new.inputs).text steps) text) (sym c.as_slice-2.ensures.value) c.in_ok-script.ensures.text in
    let second = subst (λ from. IsInput (text_of (g.I.Inputs.seen from) steps) c.as_slice-2.result.now) c.in_ok-topology.ensures.same script in
    IfErr-weaker c.script_output.result (FailsScript c.as_slice.result.now c.as_slice-2.result.now) _
    (λ status fails. inr (inr (c.as_slice.result.now, c.as_slice-2.result.now, (topology, second), fails))) c.script_output.ensures.fault
