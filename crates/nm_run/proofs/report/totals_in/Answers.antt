use Rattle.nm_sim.specs.Network.{net_of}
use Rattle.nm_run.proofs.Reports.{total_is}
use Rattle.nm_run.proofs.report.totals_in.Goals as goal

pub returns : goal.returns
returns c = λ records trace.
    let t = c.args.topology.now in
    total_is t c.args.book.now c.args.iface c.totals-records.result records (c.interfaces_have_their_records.ensures (net_of t))
    c.requires.there c.requires.same c.requires.part c.requires.whole c.totals-records.ensures trace
