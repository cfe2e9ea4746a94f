use Rattle.std.proofs.Common.{min, refl, sym, ◌∙◌, ap}
use Rattle.nm_model.specs.Run.{one_list}
use Rattle.nm_sim.specs.Network.{net_of}
use Rattle.nm_sim.proofs.trace.every_topology_has_a_trace.Goals as goal

pub returns-clause-there : goal.returns-clause-there
returns-clause-there c = λ until.
    let t = c.args.topology.now in
    let ran = (c.times_pass.ensures (net_of t) c.every_topology_is_a_network.ensures.network).before (min until t.stop) in
    ((one_list (net_of t) ran.0).records, (ran.0, ran.1, refl))

pub returns-clause-one : goal.returns-clause-one
returns-clause-one c = λ until a b first second.
    let t = c.args.topology.now in
    let same = (c.times_pass.ensures (net_of t) c.every_topology_is_a_network.ensures.network).before_once (min until t.stop) first.0 second.0 first.1 second.1 in
    first.2 ∙ ap (λ n. (one_list (net_of t) n).records) same ∙ sym second.2
