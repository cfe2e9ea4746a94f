use Rattle.nm_traffic.proofs.laws.source_times_rise.Goals as goal

pub returns : goal.returns
returns c =
    let accepted = c.accepted_topologies_are_in_order.ensures in
    let sends = c.times_rise_within_limits.ensures c.args.topology.now in
    let within = sends.limits accepted.limits in
    record {
      rise = within.rise;
      end = within.end;
      before = sends.before;
      fit = within.fit;
      greatest = within.greatest;
      least = sends.least accepted.octets;
    }
