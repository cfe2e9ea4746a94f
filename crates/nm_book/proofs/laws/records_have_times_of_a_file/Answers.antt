use Rattle.std.proofs.Common.{◌≤◌, subst}
use Rattle.nm_base.specs.declared.limits.TheConstants.{MAX_TIME}
use Rattle.nm_book.proofs.BookTimes.{book_times}
use Rattle.nm_book.proofs.laws.records_have_times_of_a_file.Goals as goal

pub returns : goal.returns
returns c =
    let b = c.args.book.now in
    book_times b (subst (λ t. t.stop ≤ MAX_TIME) c.topology.ensures c.accepted_topologies_are_in_order.ensures.limits.greatest_stop) c.events-events.ensures.within
