use Rattle.std.proofs.Common.{ap, ◌∙◌, unwrap_or}
use Rattle.nm_model.specs.Run.{one_list}
use Rattle.nm_sim.specs.Network.{net_of}
use Rattle.nm_report.specs.Values.{traffic_lines, use_lines}
use Rattle.nm_report.proofs.Pieces.{drops_here, on_ok, two_pieces}
use Rattle.nm_report.proofs.csv.push_iface.Goals as goal

pub returns-clause-is : goal.returns-clause-is
returns-clause-is c = λ t until m there.
    let name = c.args.name.now in
    let s = one_list (net_of t) m.events in
    let dropped = c.unwrap_or.ensures ∙ ap (λ o. unwrap_or o 0) (c.dropped.ensures t until m) ∙ drops_here t s c.args.iface there in
    let longest = c.longest_queue.ensures t until m there in
    let busy = c.busy.ensures t until m there in
    on_ok c.push_use.result
    (λ last. two_pieces (traffic_lines name c.traffic_at-traffic.result) (use_lines name c.unwrap_or.result c.longest_queue.result c.busy.result) _ _
    c.args.text.now.items c.push_traffic.new.text.items c.push_use.new.text.items c.in_ok-push_traffic.ensures last
    (ap (traffic_lines name) (c.traffic_at-traffic.ensures t until m there)) (λ k. use_lines name (dropped k) (longest k) (busy k)))
    c.push_use.ensures.is
