use Rattle.std.proofs.Common.{◌≡◌, ◌==◌, ◌<◌, length, rules, arith, ap, ◌∙◌}
use Rattle.nm_topology.specs.Topology.{receiving_iface}
use Rattle.nm_sim.specs.Network.{net_of}
use Rattle.nm_book.proofs.Incoming.{comes_in_at}
use Rattle.nm_book.proofs.channels.comes_in.Goals as goal

pub returns-clause-value : goal.returns-clause-value
returns-clause-value c =
    let t = c.args.topology.now in
    let i = receiving_iface t c.args.channel in
    let within : c.args.channel < length t.receivers = omega (arith, c.index.ensures, ap length c.receivers.ensures, c.if-index-receivers.false) in
    let test : c.eq.result ≡ (c.partition_of.result == c.args.partition) = search rules in
    test ∙ ap (λ q. q == c.args.partition) (c.partition_of.ensures ∙ ap (λ j. (net_of t).part ((net_of t).owner j)) c.receiver.ensures)
    ∙ comes_in_at (net_of t) c.args.partition i (c.channels_are_those_of_the_network.ensures.comes c.args.channel within)
