use Rattle.std.proofs.Common.{ltb, min, ap, sym, ◌∙◌, subst}
use Rattle.nm_base.specs.declared.record.Dir.TheVariants.{In}
use Rattle.nm_model.specs.Lists.{IsPrefix, keep_where}
use Rattle.nm_model.specs.Run.{one_list}
use Rattle.nm_model.specs.Trace.{passed}
use Rattle.nm_sim.specs.Network.{net_of}
use Rattle.nm_laws.specs.Transmissions.{AllArrive}
use Rattle.nm_laws.proofs.Links.{due_is}
use Rattle.nm_laws.proofs.Passings.{arrivals_are, arrivals_begin}
use Rattle.nm_laws.proofs.transmissions.transmissions_arrive_in_order.Goals as goal

pub returns-clause-events : goal.returns-clause-events
returns-clause-events c = λ n.
    let net = net_of c.args.topology.now in
    let ok = c.every_topology_is_a_network.ensures.network in
    record {
      first = λ i. subst (IsPrefix (passed In i (one_list net n).records)) (due_is c.args.topology.now (one_list net n).records (c.packets_have_octets.ensures.events n) i)
          (arrivals_begin net ok n ((c.what_starts_arrives.ensures net ok).transmitting n) i);
    }

pub returns-clause-trace : goal.returns-clause-trace
returns-clause-trace c = λ until records h.
    let t = c.args.topology.now in
    let net = net_of c.args.topology.now in
    let ok = c.every_topology_is_a_network.ensures.network in
    subst (AllArrive t (min until t.stop)) (sym h.2)
    (record {
      all = λ i. arrivals_are net ok h.0 ((c.what_starts_arrives.ensures net ok).transmitting h.0) i (min until t.stop) h.1.first ((c.what_starts_arrives.ensures net ok).arrives (min until t.stop) h.0 h.1.over)
          ∙ ap (keep_where (λ a. ltb a.0 (min until t.stop))) (due_is t (one_list net h.0).records (c.packets_have_octets.ensures.events h.0) i);
    })
