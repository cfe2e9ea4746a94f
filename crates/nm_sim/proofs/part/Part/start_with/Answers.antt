use Rattle.std.proofs.Common.{length, replicate, refl, sym, ap, ◌∙◌}
use Rattle.nm_sim.specs.Traffic.{traffic_none}
use Rattle.nm_sim.specs.Network.{here_of, net_of}
use Rattle.nm_sim.specs.Part.{PartValue}
use Rattle.nm_sim.proofs.Openings.{here_by_node, represents_first}
use Rattle.nm_sim.proofs.Recordings.{records_first}
use Rattle.nm_sim.proofs.part.Part.start_with.Goals as goal

pub returns-clause-represents : goal.returns-clause-represents
returns-clause-represents g c =
    let t = c.args.topology.now in
    let part = c.args.part in
    let p : PartValue g.row.L.Denot = record { part = part; devices = c.in_ok-devices.devices; timeline = c.in_ok-timeline.timeline; outgoing = c.in_ok-outgoing.outgoing; records = c.in_ok-records.records; steps = 0 } in
    let made = c.in_ok-timeline.ensures in
    represents_first t part g.L.EventList.pending p
    ((c.every_state_is_orderly.ensures (net_of t) c.every_topology_is_a_network.ensures.network).opens (here_of t part) (here_by_node t part))
    refl c.in_ok-devices.ensures.represent made.sent made.events c.in_ok-outgoing.ensures.count c.in_ok-outgoing.ensures.empty (records_first t c.args.wanted c.in_ok-records.records c.in_ok-records.ensures.kept c.in_ok-records.ensures.keeping (c.in_ok-records.ensures.traffic ∙ ap (λ n. replicate n traffic_none) (ap length c.ifaces.ensures)))
    (c.in_ok-devices.ensures.wanted ∙ sym (ap (λ k. k.wanted) c.in_ok-records.ensures.keeping))
