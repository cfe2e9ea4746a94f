use Rattle.std.proofs.Common.{◌≡◌, ◌<◌, List, ℕ, Some, length, slice_set, slice_index_or, arith, refl, sym, ◌∙◌, ap, subst}
use Rattle.nm_topology.specs.Topology.{channel_from, receiving_iface}
use Rattle.nm_model.specs.Accept.{accept_null}
use Rattle.nm_model.specs.Knowledge.{Know, nothing_known}
use Rattle.nm_sim.specs.Network.{net_of}
use Rattle.nm_book.specs.BookPart.{IsBook}
use Rattle.nm_book.proofs.Tellings.{read_known, told_clock, told_null}
use Rattle.nm_book.proofs.learning.take_null.Goals as goal

pub returns-clause-book : goal.returns-clause-book
returns-clause-book c =
    let t = c.args.topology.now in
    let p = c.args.partition in
    let net = net_of t in
    let ok = c.every_topology_is_a_network.ensures.network in
    let channel = c.args.null.now.channel in
    let knows = c.args.knows.now.items in
    let part = c.args.part.now in
    let known : Know (List ℕ) = slice_index_or knows channel nothing_known in
    let i = receiving_iface t channel in
    let here : channel_from 0 t.receivers i ≡ Some channel =
    (c.channels_are_numbered_by_their_receivers.ensures.inverse i channel (c.channels_are_numbered_by_their_receivers.ensures.there channel c.requires.there)).1 refl
    in
    let within : channel < length knows = let n = c.requires.book.count in let h = c.requires.there in omega (arith, n, h) in
    let after = (accept_null known c.args.null.now.count c.args.null.now.clock).after in
    let read : known ≡ c.index_mut.result.now = read_known knows c.index.result channel c.index_mut.result.now c.index.ensures within c.index_mut.ensures.value in
    let items : slice_set knows c.index.result c.accept_null.new.self ≡ slice_set knows channel after =
    ap (λ z. slice_set knows z c.accept_null.new.self) c.index.ensures
    ∙ ap (slice_set knows channel) (c.accept_null.ensures.after ∙ ap (λ k. (accept_null k c.args.null.now.count c.args.null.now.clock).after) (sym read))
    in
    subst (λ l. IsBook t p l part) (sym items)
    (told_null t p knows part channel c.requires.book
    (λ time later under. told_clock t p knows part channel here c.requires.book within c.requires.comes
    (λ K k w j comes u h. (c.told_one_more.ensures net ok p K k w j comes).clock u h)
    (λ K J u k w. (c.law_of_books.ensures net ok p K J u k w).within)
    (λ K j a u. c.more_of_one_channel_is_more.ensures net p K j a u)
    time later under)
    c.args.null.now.count c.args.null.now.clock (c.accept_laws.ensures.null_adds known c.args.null.now.count c.args.null.now.clock))
