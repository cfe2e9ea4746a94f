use Rattle.std.proofs.Common.{◌∙◌, ◌==◌, [], Some, length, ap, subst, sym}
use Rattle.std.proofs.lemmas.Bool.{true≢false}
use Rattle.nm_known.specs.Reading.{IsReadTo}
use Rattle.nm_known.proofs.Read.{ends_too_soon, not_end, tells_only}
use Rattle.nm_known.proofs.reading.check_end.Goals as goal

pub returns-in-Hello : goal.returns-in-Hello
returns-in-Hello c = record {
  whole = λ text b read. tt;
  only = λ text b read. tt;
  why = λ text b read. ends_too_soon text b c.args.expected c.args.reader.now c.requires read (λ end none. not_end c.args.expected c.in-Hello.is end);
}

pub returns-in-End-clause-why : goal.returns-in-End-clause-why
returns-in-End-clause-why c = λ text b read. ends_too_soon text b c.args.expected c.args.reader.now c.requires read
    (λ end none. true≢false (sym (c.is_empty.ensures ∙ ap (λ l. length l == 0) none) ∙ c.if-not-is_empty.true))

pub returns-in-End-2-clause-only : goal.returns-in-End-2-clause-only
returns-in-End-2-clause-only c = λ text b read. tells_only text b c.args.reader.now c.requires (subst (λ e. IsReadTo text b e c.args.reader.now (Some [])) c.in-End-2.is read)
