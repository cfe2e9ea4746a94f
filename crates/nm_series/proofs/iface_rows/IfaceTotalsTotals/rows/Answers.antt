use Rattle.std.proofs.Common.{◌++◌, ap, ◌∙◌}
use Rattle.nm_model.specs.Run.{one_list}
use Rattle.nm_sim.specs.Network.{net_of}
use Rattle.nm_series.specs.Rows.{rows_of}
use Rattle.nm_series.proofs.RowsMore.{seen_in}
use Rattle.nm_series.proofs.iface_rows.IfaceTotalsTotals.rows.Goals as goal

pub returns : goal.returns
returns c =
    let t = c.args.topology.now in
    let from = c.args.span.now.from in
    let until = c.args.span.now.until in
    let was = c.requires.before in
    let is = c.requires.after in
    let step = c.requires.step in
    let before_it = one_list (net_of t) was.events in
    let after_it = one_list (net_of t) is.events in
    let rows = c.in_ok-push_rows.ensures in
    let once = (c.times_pass.ensures (net_of t) c.every_topology_is_a_network.ensures.network).before_once in
    record {
      rows = record {
        before = was.events;
        after = is.events;
        begins = was.over;
        ends = is.over;
        seen = rows.0;
        all = rows.1;
        each = seen_in t from until c.args.measured.now c.args.before.now c.args.after.now rows.0 was is step.first (once from step.first was.events step.begins was.over) step.recent
            (step.measured.steps ∙ once until step.measured.events is.events step.measured.over is.over) rows.1 rows.2;
        rows = rows.3 before_it after_it was.totals is.totals
            ∙ ap (λ l. l ++ rows_of from before_it after_it 0 t.ifaces rows.0) c.new-text.ensures.items;
      };
    }
