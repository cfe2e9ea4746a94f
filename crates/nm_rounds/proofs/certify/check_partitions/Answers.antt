use Rattle.std.proofs.Common.{◌≡◌, ◌<◌, ◌∙◌, false, map, cond, Some, None, refl, sym, ap, rules}
use Rattle.nm_model.specs.Certificate.{MissingPart, has_part}
use Rattle.nm_rounds.specs.Certify.{books_of, missing}
use Rattle.nm_rounds.proofs.CertifySteps.{first_is}
use Rattle.nm_rounds.proofs.certify.check_partitions.Goals as goal

pub returns-then-not-has_book : goal.returns-then-not-has_book
returns-then-not-has_book c =
    let books = map (λ b. b.now) c.args.books.now in
    let p = c.new-partition.result in
    let n = c.loop-number.number in
    let below : n < c.args.topology.now.partitions = search rules in
    let none : has_part p (books_of books) ≡ false = search rules in
    let here : missing books n ≡ Some (MissingPart p) =
    ap (missing books) (sym c.new-partition.ensures) ∙ ap (λ b. cond b None (Some (MissingPart p))) none in
    (MissingPart p, refl, first_is (missing books) c.args.topology.now.partitions n (MissingPart p) below c.loop-number.invariant here)
