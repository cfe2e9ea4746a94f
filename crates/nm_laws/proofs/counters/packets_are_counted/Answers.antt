use Rattle.nm_sim.specs.Network.{net_of}
use Rattle.nm_laws.proofs.Stated.{arrivals_few, arrivals_total, row_total, sendings_few, sendings_total}
use Rattle.nm_laws.proofs.counters.packets_are_counted.Goals as goal

pub returns-clause-arrivals : goal.returns-clause-arrivals
returns-clause-arrivals c = λ n v.
    let t = c.args.topology.now in
    let ok = c.every_topology_is_a_network.ensures.network in
    let orderly = (c.every_state_is_orderly.ensures (net_of t) ok).whole in
    record { few = arrivals_few t v n; counted = λ below. arrivals_total t orderly v n below }

pub returns-clause-sendings : goal.returns-clause-sendings
returns-clause-sendings c = λ n v.
    let t = c.args.topology.now in
    let ok = c.every_topology_is_a_network.ensures.network in
    let orderly = (c.every_state_is_orderly.ensures (net_of t) ok).whole in
    record { few = sendings_few t ok v n; counted = λ below. sendings_total t ok orderly v n below }

pub returns-clause-rows : goal.returns-clause-rows
returns-clause-rows c = λ n v.
    let t = c.args.topology.now in
    let ok = c.every_topology_is_a_network.ensures.network in
    let orderly = (c.every_state_is_orderly.ensures (net_of t) ok).whole in
    record { counted = λ row below. row_total t orderly row v n below }
