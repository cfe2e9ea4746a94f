use Rattle.std.proofs.Common.{◌≡◌, ◌<◌, ◌==◌, false, Some, length, slice_get, sym, ◌∙◌, ap, subst, arith, rules}
use Rattle.std.proofs.lemmas.Option.{slice_get-get_or}
use Rattle.nm_sim.specs.Network.{net_of}
use Rattle.nm_book.proofs.Incoming.{ifaces_are}
use Rattle.nm_run.proofs.Reports.{apart_by, book_there, none_more}
use Rattle.nm_run.proofs.report.totals_of.Goals as goal

pub loop-number-preserved : goal.loop-number-preserved
loop-number-preserved c =
    let books = c.args.books.now in
    let n = c.loop-number.number in
    let book = c.index-books-number.result in
    let p = c.partition_of-partition.result in
    let low : n < length books = search rules in
    let here : slice_get books n ≡ Some book = slice_get-get_or books n book low ∙ ap (λ b. Some b) (sym c.index-books-number.is) in
    let other : (book.partition == p) ≡ false = search rules in
    record {
      within = omega (arith, low);
      none = none_more books n p book c.loop-number.invariant.none here (apart_by book.partition p other);
    }

pub unreachable-requires : goal.unreachable-requires
unreachable-requires c =
    let t = c.args.topology.now in
    let books = c.args.books.now in
    let end : c.loop-number.number ≡ length books = search rules in
    let p = (net_of t).part ((net_of t).owner c.args.iface) in
    let there = subst (λ n. c.args.iface < n) (sym (ifaces_are t)) c.requires.there in
    let certified = c.requires.certified.certified.there p (c.every_topology_is_a_network.ensures.parted.ifaces c.args.iface there) in
    let book = book_there books certified.0 certified.1 p certified.2 certified.3 in
    c.loop-number.invariant.none book.0 book.1 (let low = book.2 in omega (arith, end, low)) book.3 (book.4 ∙ sym c.partition_of-partition.ensures)
