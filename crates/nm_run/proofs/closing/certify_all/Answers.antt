use Rattle.std.proofs.Common.{rules, ◌≡◌, Err, length, map, take, inr, ap, ◌∙◌, refl, subst}
use Rattle.std.proofs.Math.Seq.{take-length}
use Rattle.nm_rounds.specs.Certify.{Certifies}
use Rattle.nm_run.proofs.closing.certify_all.Goals as goal

pub returns : goal.returns
returns c =
    let books = c.args.books.now in
    let end : c.loop-number.number ≡ length books = search rules in
    let all : map (λ b. b.now) c.as_slice.result.now ≡ books =
    ap (map (λ b. b.now)) c.as_slice.ensures.value ∙ c.loop-number.invariant.all ∙ ap (λ n. take n books) end ∙ take-length books in
    inr (c.in-Err.fault, refl, subst (λ l. Certifies c.args.topology.now l (Err c.in-Err.fault)) all c.in-Err.ensures.answer)
