use Rattle.std.proofs.Common.{◌≡◌, ◌<◌, length, map, Err, sym, subst, rules}
use Rattle.nm_topology.specs.Topology.{receiving_iface}
use Rattle.nm_rounds.specs.Certify.{FindsFault, book_of, incoming_fault}
use Rattle.nm_rounds.specs.SameTopology.{SaysSame}
use Rattle.nm_rounds.proofs.CertifyLists.{all_at}
use Rattle.nm_rounds.proofs.CertifySenders.{no_sender, not_this_sender, this_sender}
use Rattle.nm_rounds.proofs.Standing.{channel_here}
use Rattle.nm_rounds.proofs.certify.check_senders.Goals as goal

pub check_sender-requires : goal.check_sender-requires
check_sender-requires c =
    let there : c.loop-sender.sender-index < length c.args.books.now = search rules in
    all_at (λ b. b.now) c.args.books.now c.loop-sender.sender-index c.sender-item.result there c.sender-item.is (λ b. SaysSame b.topology c.args.topology.now) c.requires.ours

pub returns-in_err-check_sender : goal.returns-in_err-check_sender
returns-in_err-check_sender c =
    let numbers = c.channels_are_numbered_by_their_receivers.ensures in
    let e : c.from_residual.result ≡ Err c.in_err-check_sender.field-0.0 = search rules in
    subst (FindsFault c.args.topology.now (incoming_fault c.args.topology.now (map (λ z. z.now) c.args.books.now) (book_of c.args.receiver.now) (receiving_iface c.args.topology.now c.args.channel))) (sym e)
    (this_sender c.args.topology.now c.args.receiver.now c.args.channel c.in-Some.know.now c.the_digest_is_no_part_of_the_network.ensures c.requires.here (channel_here c.args.topology.now numbers.inverse numbers.there)
    c.channels_are_those_of_the_network.ensures.none (search rules) (search rules) (λ z. z.now) c.args.books.now c.loop-sender.sender-index c.loop-sender.invariant
    c.sender-item.result (search rules) c.sender-item.is c.in_err-check_sender.field-0.0 c.in_err-check_sender.ensures)

pub loop-sender-preserved : goal.loop-sender-preserved
loop-sender-preserved c =
    let numbers = c.channels_are_numbered_by_their_receivers.ensures in
    not_this_sender c.args.topology.now c.args.receiver.now c.args.channel c.in-Some.know.now c.the_digest_is_no_part_of_the_network.ensures c.requires.here (channel_here c.args.topology.now numbers.inverse numbers.there)
    c.channels_are_those_of_the_network.ensures.none (search rules) (search rules) (λ z. z.now) c.args.books.now c.loop-sender.sender-index c.loop-sender.invariant
    c.sender-item.result (search rules) c.sender-item.is c.in_ok-check_sender.ensures

pub returns : goal.returns
returns c =
    let numbers = c.channels_are_numbered_by_their_receivers.ensures in
    no_sender c.args.topology.now c.args.receiver.now c.args.channel c.in-Some.know.now c.the_digest_is_no_part_of_the_network.ensures c.requires.here (channel_here c.args.topology.now numbers.inverse numbers.there)
    c.channels_are_those_of_the_network.ensures.none (search rules) (search rules) (λ z. z.now) c.args.books.now c.loop-sender.sender-index c.loop-sender.invariant (search rules)
