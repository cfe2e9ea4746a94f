use Rattle.std.proofs.Common.{arith, get_or, true, refl, ◌∙◌, ap}
use Rattle.nm_topology.specs.Topology.{receiving_iface}
use Rattle.nm_rounds.proofs.RoundBooks.{book_read, comes_into, goes_out_of, news_are, receiver_there, sender_there}
use Rattle.nm_rounds.proofs.RoundTells.{if_ok}
use Rattle.nm_rounds.proofs.round.news_of.Goals as goal

pub bounds-books-index : goal.bounds-books-index
bounds-books-index c =
    let t = c.args.topology.now in
    let there = receiver_there t c.every_topology_is_a_network.ensures.network c.every_topology_is_a_network.ensures.parted (receiving_iface t c.args.channel)
    (c.channels_are_numbered_by_their_receivers.ensures.there c.args.channel c.requires.there) in
    let at = c.index.ensures ∙ c.receiver_of-receiver.ensures in
    let count = (c.requires.books.1).count in
    omega (arith, there, at, count)

pub bounds-books-index-2 : goal.bounds-books-index-2
bounds-books-index-2 c =
    let t = c.args.topology.now in
    let there = sender_there t c.every_topology_is_a_network.ensures.network c.every_topology_is_a_network.ensures.parted (receiving_iface t c.args.channel)
    (c.channels_are_numbered_by_their_receivers.ensures.there c.args.channel c.requires.there) in
    let at = c.index-2.ensures ∙ c.sender_of-sender.ensures in
    let count = (c.requires.books.1).count in
    omega (arith, there, at, count)

pub news-requires-clause-comes : goal.news-requires-clause-comes
news-requires-clause-comes c =
    let t = c.args.topology.now in
    let low = c.channels_are_numbered_by_their_receivers.ensures.there c.args.channel c.requires.there in
    let there = receiver_there t c.every_topology_is_a_network.ensures.network c.every_topology_is_a_network.ensures.parted (receiving_iface t c.args.channel) low in
    let b = c.index-books-index.result in
    let is = book_read t t.partitions c.requires.books.0 c.args.books.now c.requires.books.1 _ b there (c.index-books-index.is ∙ ap (λ z. get_or c.args.books.now z b) (c.index.ensures ∙ c.receiver_of-receiver.ensures)) in
    comes_into t _ _ c.args.channel b is true (c.channels_are_those_of_the_network.ensures.comes c.args.channel c.requires.there)

pub news-requires-clause-goes : goal.news-requires-clause-goes
news-requires-clause-goes c =
    let t = c.args.topology.now in
    let low = c.channels_are_numbered_by_their_receivers.ensures.there c.args.channel c.requires.there in
    let there = sender_there t c.every_topology_is_a_network.ensures.network c.every_topology_is_a_network.ensures.parted (receiving_iface t c.args.channel) low in
    let b = c.index-books-index-2.result in
    let is = book_read t t.partitions c.requires.books.0 c.args.books.now c.requires.books.1 _ b there (c.index-books-index-2.is ∙ ap (λ z. get_or c.args.books.now z b) (c.index-2.ensures ∙ c.sender_of-sender.ensures)) in
    goes_out_of t _ c.args.channel b is (c.channels_are_those_of_the_network.ensures.comes c.args.channel c.requires.there)

pub returns : goal.returns
returns c =
    let t = c.args.topology.now in
    let low = c.channels_are_numbered_by_their_receivers.ensures.there c.args.channel c.requires.there in
    let to = receiver_there t c.every_topology_is_a_network.ensures.network c.every_topology_is_a_network.ensures.parted (receiving_iface t c.args.channel) low in
    let from = sender_there t c.every_topology_is_a_network.ensures.network c.every_topology_is_a_network.ensures.parted (receiving_iface t c.args.channel) low in
    let r = c.index-books-index.result in
    let s = c.index-books-index-2.result in
    if_ok c.news.result _ _
    (λ messages news x are. news_are t x c.args.channel r s
    (book_read t t.partitions x c.args.books.now are _ r to (c.index-books-index.is ∙ ap (λ z. get_or c.args.books.now z r) (c.index.ensures ∙ c.receiver_of-receiver.ensures)))
    (book_read t t.partitions x c.args.books.now are _ s from (c.index-books-index-2.is ∙ ap (λ z. get_or c.args.books.now z s) (c.index-2.ensures ∙ c.sender_of-sender.ensures)))
    ((c.channels_are_numbered_by_their_receivers.ensures.inverse (receiving_iface t c.args.channel) c.args.channel low).1 refl) messages.items news)
    c.news.ensures
