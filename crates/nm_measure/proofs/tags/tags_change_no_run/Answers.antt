use Rattle.nm_sim.specs.Network.{net_of}
use Rattle.nm_measure.specs.Ways.{tagged_net, tagging}
use Rattle.nm_measure.proofs.tags.tags_change_no_run.Goals as goal

pub returns : goal.returns
returns c =
    let t = c.args.topology.now in
    let net = c.tags_keep_networks.ensures.net (net_of t) (tagging t) c.every_topology_is_a_network.ensures.network in
    record {
      same = λ n. c.tags_change_nothing.ensures (net_of t) (tagging t) n;
      network = net;
      orderly = λ n. (c.every_state_is_orderly.ensures (tagged_net t) net).whole n;
      rises = c.keys_rise.ensures (tagged_net t) net;
      counts = c.keys_rise-2.ensures (net_of t) c.every_topology_is_a_network.ensures.network;
      own = c.a_node_sends_by_its_own_interfaces.ensures;
    }
