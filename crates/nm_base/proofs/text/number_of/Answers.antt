use Rattle.std.proofs.Common.{◌≡◌, ℕ, true, false, not, Result, Ok, decimal, ap, sym, subst, ◌∙◌}
use Rattle.std.specs.Str.{IsUtf8}
use Rattle.std.proofs.lemmas.Slice.Eq.{bytes_eq-Decides}
use Rattle.std.proofs.lemmas.Str.{IsUtf8-from_ascii}
use Rattle.std.proofs.lemmas.Fmt.{parse-decimal, IsAscii-decimal}
use Rattle.nm_base.proofs.text.number_of.Goals as goal

same_number : {E : Type 0} (r : Result ℕ E) (m n : ℕ) → r ≡ Ok m → r ≡ Ok n → m ≡ n
same_number r m n e f = cc

pub returns-in_default-clause-only : goal.returns-in_default-clause-only
returns-in_default-clause-only c = λ n h e.
    absurd (c.in_default.ensures.cases.0 (subst IsUtf8 (sym e) (IsUtf8-from_ascii (decimal n) (IsAscii-decimal n h))))

pub returns-in_default-parse-clause-only : goal.returns-in_default-parse-clause-only
returns-in_default-parse-clause-only c = λ n h e.
    let text = c.in-Ok.ensures.cases.0 ∙ e in
    let parsed = parse-decimal 64 n c.in-Ok.word.now c.parse.result h h text c.parse.ensures.value.0 in
    let not = c.in_default-parse.is in cc

pub returns-then-ne-clause-only : goal.returns-then-ne-clause-only
returns-then-ne-clause-only c = λ n h e.
    let text = c.in-Ok.ensures.cases.0 ∙ e in
    let parsed = parse-decimal 64 n c.in-Ok.word.now c.parse.result h h text c.parse.ensures.value.0 in
    let same = same_number c.parse.result c.in-Ok-parse.number n c.in-Ok-parse.is parsed in
    let printed : c.format.result.now ≡ c.in-Ok.word.now = c.format.ensures.text ∙ ap decimal same ∙ sym text in
    let differs : true ≡ false = c.if-ne.ensures ∙ ap not ((bytes_eq-Decides c.format.result.now c.in-Ok.word.now).1 printed) in
    cc

pub returns-clause-only : goal.returns-clause-only
returns-clause-only c = λ n h e.
    let text = c.in-Ok.ensures.cases.0 ∙ e in
    let parsed = parse-decimal 64 n c.in-Ok.word.now c.parse.result h h text c.parse.ensures.value.0 in
    let same = same_number c.parse.result c.in-Ok-parse.number n c.in-Ok-parse.is parsed in
    cc
