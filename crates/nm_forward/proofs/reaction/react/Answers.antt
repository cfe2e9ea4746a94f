use Rattle.nm_forward.specs.Reaction.{arrived}
use Rattle.nm_forward.proofs.Keeping.{arrived-table, kept}
use Rattle.nm_forward.proofs.reaction.react.Goals as goal

pub returns-in-Arrival-clause-kept : goal.returns-in-Arrival-clause-kept
returns-in-Arrival-clause-kept c =
    let topology = c.args.topology.now in
    let state = c.args.state.now in
    kept c.args.ports.now c.receive.result c.receive.new.state state
    (arrived topology.ifaces state.table state c.args.packet.now)
    (arrived-table topology.ifaces state.table state c.args.packet.now) c.receive.ensures.ok c.receive.ensures.err
