use Rattle.std.proofs.Common.{◌≡◌, length, get_or, slice_get, Some, rules, refl, ap, ◌∙◌, subst, arith}
use Rattle.std.proofs.lemmas.Option.{slice_get_read}
use Rattle.std.proofs.lemmas.Result.{on_ok_weaker}
use Rattle.nm_model.specs.Partition.{receiver_of}
use Rattle.nm_sim.specs.Network.{net_of}
use Rattle.nm_sim.specs.Totals.{totals_at}
use Rattle.nm_book.specs.Book.{state_of}
use Rattle.nm_offline.proofs.InterfaceLines.{book_there, line_is}
use Rattle.nm_offline.proofs.lines.push_line_of.Goals as goal

pub bounds-books-index : goal.bounds-books-index
bounds-books-index c =
    let t = c.args.topology.now in
    let there = book_there t c.args.books.now c.args.number c.every_topology_is_a_network.ensures.parted c.requires.books c.requires.there in
    let same : c.iface_number-iface.result ≡ c.args.number = search rules in
    let p : c.partition_of-partition.result ≡ receiver_of (net_of t) c.args.number = c.partition_of-partition.ensures ∙ ap (λ i. (net_of t).part ((net_of t).owner i)) same in
    let i = c.index.ensures in
    omega (arith, there, p, i)

pub returns : goal.returns
returns c = λ totals are iface is.
    let t = c.args.topology.now in
    let books = c.args.books.now in
    let n = c.args.number in
    let there = book_there t books n c.every_topology_is_a_network.ensures.parted c.requires.books c.requires.there in
    let same : c.iface_number-iface.result ≡ n = search rules in
    let p : c.partition_of-partition.result ≡ receiver_of (net_of t) n = c.partition_of-partition.ensures ∙ ap (λ i. (net_of t).part ((net_of t).owner i)) same in
    let place : c.index.result ≡ receiver_of (net_of t) n = c.index.ensures ∙ p in
    let b = c.index-books-index.result in
    let at = slice_get_read books (length books) (receiver_of (net_of t) n) b refl there (subst (λ k. b ≡ get_or books k b) place c.index-books-index.is) in
    let found = c.totals-records.ensures ∙ ap (λ i. totals_at b.topology (state_of b).records i) same in
    let one = subst (λ i. slice_get t.ifaces i ≡ Some c.iface.result.now) same c.iface.ensures in
    on_ok_weaker c.push_iface_line.result
    (line_is totals t books n b c.iface.result.now iface c.totals-records.result c.args.text.now.items c.push_iface_line.new.text.items
    are c.requires.there at (c.requires.books.each (receiver_of (net_of t) n) b at).0 found one is)
    c.push_iface_line.ensures
