use Rattle.std.proofs.Common.{◌≡◌, drop, map}
use Rattle.nm_topology.specs.Topology.{receiving_iface}
use Rattle.nm_model.specs.Certificate.{first_of}
use Rattle.nm_rounds.specs.Certify.{book_of, books_of, sender_fault}
use Rattle.nm_rounds.proofs.certify.check_senders.Given as goal

abbrev pub invariant-loop-sender : goal.invariant-loop-sender
invariant-loop-sender l =
    let f = sender_fault l.topology (receiving_iface l.topology l.channel) (book_of l.receiver) in
    first_of f (books_of (map (λ b. b.now) (drop l.sender-index l.books))) ≡ first_of f (books_of (map (λ b. b.now) l.books))
