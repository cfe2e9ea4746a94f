use Rattle.std.proofs.Common.{sym, subst, refl}
use Rattle.nm_offline.specs.Traces.{EndsTrace, trace_asked}
use Rattle.nm_offline.specs.Output.{exchange}
use Rattle.nm_offline.proofs.Endings.{ends_written}
use Rattle.nm_offline.proofs.traces.write_trace.Goals as goal

-- the trace of the topology is there, also where it was not written to its end
pub returns-in-Ok : goal.returns-in-Ok
returns-in-Ok g c =
    let read = c.in-Ok.ensures.there in
    let network = c.in-Ok.network in
    let there = c.every_topology_has_a_trace.ensures.there network.stop in
    let before = exchange g.I.Inputs.seen g.O.Sink.seen c.args.inputs.now c.args.out in
    let after = exchange g.I.Inputs.seen g.O.Sink.seen c.read_iface.new.inputs c.write_trace_file-outcome.result.1 in
    subst (EndsTrace before after (trace_asked c.args.words.now)) (sym c.status_of.ensures)
    (ends_written g.O.Sink.seen before.inputs after.inputs c.args.out c.write_trace_file-outcome.result.1 (trace_asked c.args.words.now) read.0.0 _ _ read.0.1
    (record {
      network = network;
      read = read.0.2;
      iface = c.in-Ok.iface;
      named = read.1;
      records = there.0;
      trace = there.1;
      file = refl;
    })
    (c.write_trace_file-outcome.ensures there.0 there.1))
