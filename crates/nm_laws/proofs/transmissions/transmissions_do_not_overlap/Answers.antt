use Rattle.std.proofs.Common.{◌+◌, ◌≤◌, sym, subst}
use Rattle.nm_sim.specs.Network.{net_of}
use Rattle.nm_laws.specs.Transmissions.{DoNotOverlap}
use Rattle.nm_laws.proofs.Links.{takes_its_octets}
use Rattle.nm_laws.proofs.Passings.{apart}
use Rattle.nm_laws.proofs.transmissions.transmissions_do_not_overlap.Goals as goal

pub returns-clause-events : goal.returns-clause-events
returns-clause-events c = λ n.
    let t = c.args.topology.now in
    let net = net_of c.args.topology.now in
    let ok = c.every_topology_is_a_network.ensures.network in
    record {
      apart = λ j k a b lt e f da db same.
          subst (λ x. a.time + x ≤ b.time) (takes_its_octets t a.iface a.packet ((c.packets_have_octets.ensures.events n).least j a e))
          (apart net ok n ((c.what_starts_arrives.ensures net ok).apart n) j k a b lt e f da db same);
    }

pub returns-clause-trace : goal.returns-clause-trace
returns-clause-trace c = λ until records h. subst (DoNotOverlap c.args.topology.now) (sym h.2) (returns-clause-events c h.0)
