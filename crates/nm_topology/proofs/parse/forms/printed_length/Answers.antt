use Rattle.std.proofs.Common.{◌≡◌, ℕ, true, false, not, Result, Ok, decimal, ap, sym, ◌∙◌, arith}
use Rattle.std.proofs.lemmas.Slice.Eq.{bytes_eq-Decides}
use Rattle.std.proofs.lemmas.Fmt.{parse-decimal}
use Rattle.nm_topology.proofs.parse.forms.printed_length.Goals as goal

same_number : {E : Type 0} (r : Result ℕ E) (m n : ℕ) → r ≡ Ok m → r ≡ Ok n → m ≡ n
same_number r m n e f = cc

pub returns-in_default-clause-only : goal.returns-in_default-clause-only
returns-in_default-clause-only c = λ n h e.
    let parsed = parse-decimal 8 n c.args.text.now c.parse.result (omega arith) (omega arith) e c.parse.ensures.value.0 in
    let not = c.in_default.is in cc

pub returns-then-length-gt-MAX_LENGTH-clause-only : goal.returns-then-length-gt-MAX_LENGTH-clause-only
returns-then-length-gt-MAX_LENGTH-clause-only c = λ n h e.
    let parsed = parse-decimal 8 n c.args.text.now c.parse.result (omega arith) (omega arith) e c.parse.ensures.value.0 in
    let same = same_number c.parse.result c.in-Ok.length n c.in-Ok.is parsed in
    absurd (omega (arith, same, h, c.if-length-gt-MAX_LENGTH.true))

pub returns-then-ne-clause-only : goal.returns-then-ne-clause-only
returns-then-ne-clause-only c = λ n h e.
    let parsed = parse-decimal 8 n c.args.text.now c.parse.result (omega arith) (omega arith) e c.parse.ensures.value.0 in
    let same = same_number c.parse.result c.in-Ok.length n c.in-Ok.is parsed in
    let printed : c.format-printed.result.now ≡ c.args.text.now = c.format-printed.ensures.text ∙ ap decimal same ∙ sym e in
    let differs : true ≡ false = c.if-ne.ensures ∙ ap not ((bytes_eq-Decides c.format-printed.result.now c.args.text.now).1 printed) in
    cc

pub returns-clause-only : goal.returns-clause-only
returns-clause-only c = λ n h e.
    let parsed = parse-decimal 8 n c.args.text.now c.parse.result (omega arith) (omega arith) e c.parse.ensures.value.0 in
    let same = same_number c.parse.result c.in-Ok.length n c.in-Ok.is parsed in
    cc
