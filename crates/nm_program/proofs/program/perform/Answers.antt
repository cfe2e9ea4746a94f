use Rattle.std.proofs.Common.{refl, subst}
use Rattle.nm_program.specs.Ending.{ProgramEnds}
use Rattle.nm_program.specs.Surroundings.{surroundings}
use Rattle.nm_program.proofs.program.perform.Goals as goal

pub returns-in-Some-Run : goal.returns-in-Some-Run
returns-in-Some-Run g c =
    let seen = surroundings g.I.Inputs.seen g.O.Sink.seen g.F.Outputs.made in
    subst (λ command. ProgramEnds (seen c.args.inputs.now c.args.out c.args.outputs.now) (seen c.say_run.new.inputs c.say_run.result.1 c.say_run.new.outputs) command c.say_run.result.0)
    (rw c.in-Some-Run.field-0-is at c.in-Some-Run.ensures.value) c.say_run.ensures

pub returns-in-Some-Node : goal.returns-in-Some-Node
returns-in-Some-Node g c =
    let seen = surroundings g.I.Inputs.seen g.O.Sink.seen g.F.Outputs.made in
    subst (λ command. ProgramEnds (seen c.args.inputs.now c.args.out c.args.outputs.now) (seen c.say_node.new.inputs c.say_node.result.1 c.say_node.new.outputs) command c.say_node.result.0)
    (rw c.in-Some-Node.field-0-is at c.in-Some-Node.ensures.value) c.say_node.ensures

pub returns-in-Some-Verify : goal.returns-in-Some-Verify
returns-in-Some-Verify g c =
    let seen = surroundings g.I.Inputs.seen g.O.Sink.seen g.F.Outputs.made in
    subst (λ command. ProgramEnds (seen c.args.inputs.now c.args.out c.args.outputs.now) (seen c.say_verify.new.inputs c.say_verify.result.1 c.args.outputs.now) command c.say_verify.result.0)
    (rw c.in-Some-Verify.field-0-is at c.in-Some-Verify.ensures.value) (c.say_verify.ensures, refl)

pub returns-in-Some-Certify : goal.returns-in-Some-Certify
returns-in-Some-Certify g c =
    let seen = surroundings g.I.Inputs.seen g.O.Sink.seen g.F.Outputs.made in
    subst (λ command. ProgramEnds (seen c.args.inputs.now c.args.out c.args.outputs.now) (seen c.say_certify.new.inputs c.say_certify.result.1 c.args.outputs.now) command c.say_certify.result.0)
    (rw c.in-Some-Certify.field-0-is at c.in-Some-Certify.ensures.value) (c.say_certify.ensures, refl)
