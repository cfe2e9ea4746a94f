use Rattle.std.proofs.Common.{◌≡◌, ◌<◌, ◌≤◌, ℕ, false, cond, length, map, None, Err, sym, ap, subst, rules, arith}
use Rattle.nm_topology.specs.Topology.{receiving_iface}
use Rattle.nm_model.specs.Certificate.{book_fault, first_of}
use Rattle.nm_model.specs.Partition.{comes_in}
use Rattle.nm_model.specs.Promise.{Tight}
use Rattle.nm_knowledge.specs.Octets.{same_octets}
use Rattle.nm_sim.specs.Network.{net_of}
use Rattle.nm_rounds.specs.Certify.{FindsFault, book_of, books_of, incoming_fault, sender_fault}
use Rattle.nm_rounds.proofs.CertifyChannels.{no_channel, receivers_rise, this_channel}
use Rattle.nm_rounds.proofs.CertifySteps.{found, ifaces_are}
use Rattle.nm_rounds.proofs.certify.check_book.Goals as goal

pub returns-in_err-check_senders : goal.returns-in_err-check_senders
returns-in_err-check_senders c =
    let t = c.args.topology.now in
    let net = net_of t in
    let books = map (λ z. z.now) c.args.books.now in
    let r = book_of c.args.receiver.now in
    let n = c.loop-number.number in
    let i = receiving_iface t n in
    let there : n < length t.receivers = let same = ap length c.receivers-number-end.ensures in search rules in
    let inside : i < net.ifaces = let h = c.channels_are_numbered_by_their_receivers.ensures.there n there in let e = ifaces_are t in omega (arith, h, e) in
    let e : c.from_residual.result ≡ Err c.in_err-check_senders.field-0.0 = search rules in
    let here : FindsFault t (incoming_fault t books r i) (Err c.in_err-check_senders.field-0.0) =
    subst (λ d. FindsFault t (incoming_fault t books r (receiving_iface t d)) (Err c.in_err-check_senders.field-0.0)) c.channel_number-channel.ensures c.in_err-check_senders.ensures in
    let f = found t (incoming_fault t books r i) c.in_err-check_senders.field-0.0 here in
    let elsewhere : (j : ℕ) → comes_in net r.part j ≡ false → incoming_fault t books r j ≡ None =
    λ j h. ap (λ z. cond z (first_of (sender_fault t j r) (books_of books)) None) h in
    let first = this_channel t r.part (incoming_fault t books r) (c.channels_are_those_of_the_network.ensures.numbered r.part) elsewhere
    (receivers_rise t c.accepted_topologies_are_in_order.ensures.receivers.rising) n net.ifaces f.0 inside c.loop-number.invariant there f.1 in
    let all = book_fault net same_octets Tight (books_of books) r in
    subst (λ z. FindsFault t all z) (sym e) (f.2 all first)

pub returns : goal.returns
returns c =
    let t = c.args.topology.now in
    let net = net_of t in
    let books = map (λ z. z.now) c.args.books.now in
    let r = book_of c.args.receiver.now in
    let past : length t.receivers ≤ c.loop-number.number = let same = ap length c.receivers-number-end.ensures in let h = c.loop-number-test.false in omega (arith, same, h) in
    let elsewhere : (j : ℕ) → comes_in net r.part j ≡ false → incoming_fault t books r j ≡ None =
    λ j h. ap (λ z. cond z (first_of (sender_fault t j r) (books_of books)) None) h in
    no_channel t r.part (incoming_fault t books r) (c.channels_are_those_of_the_network.ensures.numbered r.part) elsewhere c.loop-number.number net.ifaces past c.loop-number.invariant
