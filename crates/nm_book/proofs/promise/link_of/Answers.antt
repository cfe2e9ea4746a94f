use Rattle.std.proofs.Common.{sym, ◌∙◌, ap}
use Rattle.nm_iface.specs.Transmission.{transmission_time}
use Rattle.nm_book.proofs.Incoming.{least_tx_is, link_is, far_end_is}
use Rattle.nm_book.proofs.promise.link_of.Goals as goal

pub returns-clause-iface : goal.returns-clause-iface
returns-clause-iface c = ap (λ f. f.iface) c.far.ensures ∙ sym (far_end_is c.args.topology.now c.args.iface c.iface-described.result.now c.iface-described.ensures)

pub returns-clause-delay : goal.returns-clause-delay
returns-clause-delay c = ap (λ f. f.delay) c.far.ensures ∙ sym (link_is c.args.topology.now c.args.iface c.iface-described.result.now c.iface-described.ensures)

pub returns-clause-least_tx : goal.returns-clause-least_tx
returns-clause-least_tx c = ap (λ f. transmission_time f.rate 1) c.far.ensures ∙ sym (least_tx_is c.args.topology.now c.args.iface c.iface-described.result.now c.iface-described.ensures)
