use Rattle.std.proofs.Common.{◌≡◌, ℕ, ◌<◌, map, None}
use Rattle.nm_topology.specs.Topology.{receiving_iface}
use Rattle.nm_rounds.specs.Certify.{book_of, incoming_fault}
use Rattle.nm_rounds.proofs.certify.check_book.Given as goal

abbrev pub invariant-loop-number : goal.invariant-loop-number
invariant-loop-number l = (d : ℕ) → d < l.number → incoming_fault l.topology (map (λ b. b.now) l.books) (book_of l.receiver) (receiving_iface l.topology d) ≡ None
