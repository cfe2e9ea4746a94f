use Rattle.std.proofs.Common.{None}
use Rattle.nm_events.specs.Held.{pending_of}
use Rattle.nm_sim.proofs.Stepping.{represents_stepped}
use Rattle.nm_memory_tests.proofs.memory.parts.step.Goals as goal

pub returns : goal.returns
returns c =
    let z = c.requires in
    represents_stepped pending_of c.args.topology.now None _ z.0 c.args.part.now c.step.new.self c.step.result z.1
    (c.step.ensures.step None z.0 z.1)
