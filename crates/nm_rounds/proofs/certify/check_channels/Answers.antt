use Rattle.std.proofs.Common.{◌≡◌, ◌<◌, length, map, Err, sym, subst, rules}
use Rattle.nm_model.specs.Certificate.{book_fault, first_of}
use Rattle.nm_model.specs.Promise.{Tight}
use Rattle.nm_knowledge.specs.Octets.{same_octets}
use Rattle.nm_sim.specs.Network.{net_of}
use Rattle.nm_rounds.specs.Certify.{FindsFault, book_of, books_of}
use Rattle.nm_rounds.specs.SameTopology.{SaysSame}
use Rattle.nm_rounds.proofs.CertifySteps.{found}
use Rattle.nm_rounds.proofs.CertifyLists.{all_at, first_here}
use Rattle.nm_rounds.proofs.certify.check_channels.Goals as goal

pub check_book-requires-clause-here : goal.check_book-requires-clause-here
check_book-requires-clause-here c =
    all_at (λ b. b.now) c.args.books.now c.loop-receiver.receiver-index c.receiver-item.result (search rules) c.receiver-item.is (λ b. SaysSame b.topology c.args.topology.now) c.requires

pub returns-in_err-check_book : goal.returns-in_err-check_book
returns-in_err-check_book c =
    let t = c.args.topology.now in
    let l = c.args.books.now in
    let all = books_of (map (λ z. z.now) l) in
    let n = c.loop-receiver.receiver-index in
    let there : n < length l = search rules in
    let e : c.from_residual.result ≡ Err c.in_err-check_book.field-0.0 = search rules in
    let fault = book_fault (net_of t) same_octets Tight all in
    let f = found t (fault (book_of c.receiver-item.result.now)) c.in_err-check_book.field-0.0 c.in_err-check_book.ensures in
    subst (λ z. FindsFault t (first_of fault all) z) (sym e) (f.2 (first_of fault all) (first_here (λ z. z.now) l n c.receiver-item.result there c.receiver-item.is fault f.0 f.1 c.loop-receiver.invariant))
