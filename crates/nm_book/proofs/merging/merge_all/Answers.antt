use Rattle.std.proofs.Common.{Some, length, subst, refl, rules}
use Rattle.nm_topology.specs.Topology.{receiving_iface}
use Rattle.nm_sim.specs.Network.{net_of}
use Rattle.nm_book.specs.BookPart.{IsBook}
use Rattle.nm_book.specs.Merging.{AreGains, AreJoinable, AreJoined, AreTold}
use Rattle.nm_book.specs.Telling.{Follow, told_each}
use Rattle.nm_book.proofs.Gatherings.{joined_book}
use Rattle.nm_book.proofs.Runnings.{still_book}
use Rattle.nm_book.proofs.merging.merge_all.Goals as goal

pub returns-clause-book : goal.returns-clause-book
returns-clause-book c =
    let t = c.args.topology.now in
    let net = net_of t in
    let ok = c.every_topology_is_a_network.ensures.network in
    let p = c.args.partition in
    let knows = c.args.knows.now.items in
    let messages = c.in_ok-messages.messages.items in
    let reserved : IsBook t p knows c.reserve.new.self =
    still_book t p knows c.args.part.now c.reserve.new.self c.requires.book (λ s h. c.reserve.ensures.same t (Some p) s h) c.reserve.ensures.steps c.reserve.ensures.keeping in
    let follow : Follow t p knows messages = search rules in
    let are_told : AreTold t p knows c.args.others.now.knows (length knows) (told_each knows messages) = search rules in
    let gains = subst (λ l. AreGains t p l c.args.others.now.knows c.in_ok-gains.gains.items) c.deref-2.ensures.value c.in_ok-gains.ensures in
    let joined : AreJoined t p knows c.args.others.now.knows c.take_all.new.knows.items = c.take_all.ensures t p c.args.others.now.knows gains in
    joined_book t p knows c.args.others.now.knows c.put_messages.new.part (told_each knows messages) c.take_all.new.knows.items c.requires.book.count
    (c.put_messages.ensures.book knows reserved follow) are_told joined
    (λ d there. (c.channels_are_numbered_by_their_receivers.ensures.inverse (receiving_iface t d) d (c.channels_are_numbered_by_their_receivers.ensures.there d there)).1 refl)
    (λ i comes. let found = c.channels_are_those_of_the_network.ensures.numbered p i comes in (found.0, found.1, found.2))
    (λ K J same k. c.clocks_change_no_state.ensures net p K J same k)
    (λ K J under k h. (c.law_of_books.ensures net ok p K J under k h).within)

pub returns-clause-merges : goal.returns-clause-merges
returns-clause-merges c =
    let t = c.args.topology.now in
    let p = c.args.partition in
    let knows = c.args.knows.now.items in
    let gains = subst (λ l. AreGains t p l c.args.others.now.knows c.in_ok-gains.gains.items) c.deref-2.ensures.value c.in_ok-gains.ensures in
    let joined : AreJoined t p knows c.args.others.now.knows c.take_all.new.knows.items = c.take_all.ensures t p c.args.others.now.knows gains in
    let joinable = subst (λ l. AreJoinable t p l c.args.others.now.knows (length l)) c.deref.ensures.value c.in_ok-check_all.ensures in
    (refl, joinable, joined)
