use Rattle.std.proofs.Common.{codes}
use Rattle.nm_report.specs.Values.{iface_line}
use Rattle.nm_report.proofs.Pieces.{four_pieces, on_ok}
use Rattle.nm_report.proofs.csv.push_traffic.Goals as goal

pub returns : goal.returns
returns c =
    let name = c.args.name.now in
    let x = c.args.traffic.now in
    on_ok c.push_value-4.result
    (four_pieces (iface_line name (codes "packets_in") x.came.packets) (iface_line name (codes "octets_in") x.came.octets) (iface_line name (codes "packets_out") x.went.packets) (iface_line name (codes "octets_out") x.went.octets)
    c.args.text.now.items c.push_value.new.text.items c.push_value-2.new.text.items c.push_value-3.new.text.items c.push_value-4.new.text.items
    c.in_ok-push_value.ensures.is c.in_ok-push_value-2.ensures.is c.in_ok-push_value-3.ensures.is)
    c.push_value-4.ensures.is
