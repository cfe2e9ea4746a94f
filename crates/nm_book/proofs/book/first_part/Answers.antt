use Rattle.std.proofs.Common.{ap}
use Rattle.nm_sim.specs.Network.{net_of}
use Rattle.nm_book.proofs.Beginnings.{first_book}
use Rattle.nm_book.proofs.book.first_part.Goals as goal

pub returns-clause-book : goal.returns-clause-book
returns-clause-book c =
    first_book c.args.topology.now c.args.partition c.in_ok-part.part (c.nothing_known_puts_nothing.ensures (net_of c.args.topology.now) c.args.partition)
    c.in_ok-part.ensures.represents c.in_ok-part.ensures.steps (ap (λ k. k.wanted) c.in_ok-part.ensures.keeping)
