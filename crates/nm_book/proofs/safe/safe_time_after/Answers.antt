use Rattle.std.proofs.Common.{◌≡◌, ◌<◌, Some, length, sym, ◌∙◌, ap, arith, refl, rules}
use Rattle.std.proofs.lemmas.List.{length-set}
use Rattle.nm_topology.specs.Topology.{channel_from, receiving_iface}
use Rattle.nm_model.specs.Replica.{safe_time}
use Rattle.nm_sim.specs.Network.{net_of}
use Rattle.nm_book.specs.Book.{knowledge_of}
use Rattle.nm_book.proofs.Incoming.{comes_to_there}
use Rattle.nm_book.proofs.Safety.{rose}
use Rattle.nm_book.proofs.safe.safe_time_after.Goals as goal

pub returns-then-gt : goal.returns-then-gt
returns-then-gt c = λ old a set within was later safe.
    let t = c.args.topology.now in
    let net = net_of t in
    let p = c.args.partition in
    let count = length-set old c.args.channel a in
    let sized = ap length set in
    let total = c.requires in
    let there : c.args.channel < length t.receivers = omega (arith, count, sized, total, within) in
    let here : channel_from 0 t.receivers (receiving_iface t c.args.channel) ≡ Some c.args.channel =
    (c.channels_are_numbered_by_their_receivers.ensures.inverse (receiving_iface t c.args.channel) c.args.channel (c.channels_are_numbered_by_their_receivers.ensures.there c.args.channel there)).1 refl
    in
    let past : c.args.safe < c.args.clock = search rules in
    safe ∙ rose t p (λ K. c.safe_time_is_the_least.ensures.stop net p K)
    (λ K i comes. c.safe_time_is_the_least.ensures.clocks net p K i (comes_to_there t p i c.channels_are_those_of_the_network.ensures.numbered c.channels_are_numbered_by_their_receivers.ensures.there comes) comes)
    (λ K s. c.safe_time_is_the_least.ensures.greatest net p K s)
    old c.args.channel a here within (omega (arith, past, safe, was)) (omega (arith, was, later))
    ∙ ap (λ l. safe_time net p (knowledge_of t l)) (sym set)
