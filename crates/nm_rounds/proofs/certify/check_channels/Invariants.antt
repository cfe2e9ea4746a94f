use Rattle.std.proofs.Common.{◌≡◌, drop, map}
use Rattle.nm_model.specs.Certificate.{book_fault, first_of}
use Rattle.nm_model.specs.Promise.{Tight}
use Rattle.nm_knowledge.specs.Octets.{same_octets}
use Rattle.nm_sim.specs.Network.{net_of}
use Rattle.nm_rounds.specs.Certify.{books_of}
use Rattle.nm_rounds.proofs.certify.check_channels.Given as goal

abbrev pub invariant-loop-receiver : goal.invariant-loop-receiver
invariant-loop-receiver l =
    let all = books_of (map (λ b. b.now) l.books) in
    let f = book_fault (net_of l.topology) same_octets Tight all in
    first_of f (books_of (map (λ b. b.now) (drop l.receiver-index l.books))) ≡ first_of f all
