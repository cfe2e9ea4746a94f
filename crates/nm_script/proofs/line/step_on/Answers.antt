use Rattle.std.proofs.Common.{◌≡◌, ap, ◌∙◌}
use Rattle.nm_script.specs.Tokens.{step_said}
use Rattle.nm_script.proofs.Parts.{parts_at-split, parts_at-whole}
use Rattle.nm_script.proofs.Steps.{at_most_four, named_step, one_word}
use Rattle.nm_script.proofs.line.step_on.Goals as goal

pub returns-in_err-word-clause-only : goal.returns-in_err-word-clause-only
returns-in_err-word-clause-only c = λ s h.
    absurd (one_word c.args.line.now h.word h.numbers s (parts_at-whole 32 c.args.line.now c.in_err-word.ensures) h.words h.named)

pub returns-in_err-numbers-clause-only : goal.returns-in_err-numbers-clause-only
returns-in_err-numbers-clause-only c = λ s h.
    let split = parts_at-split 32 c.args.line.now c.in_ok-word.word.now c.in_ok-word.rest.now c.in_ok-word.ensures.0 c.in_ok-word.ensures.1 in
    absurd (c.in_err-numbers.ensures.only h.numbers h.small (at_most_four h.word h.numbers s h.named) (cc (split, h.words)))

pub returns-clause-found : goal.returns-clause-found
returns-clause-found c =
    let split = parts_at-split 32 c.args.line.now c.in_ok-word.word.now c.in_ok-word.rest.now c.in_ok-word.ensures.0 c.in_ok-word.ensures.1 in
    named_step c.args.line.now c.in_ok-word.word.now c.in_ok-numbers.numbers.items c.step_of.result
    (cc (split, c.in_ok-numbers.ensures.found)) c.in_ok-numbers.ensures.small
    (c.step_of.ensures ∙ ap (step_said c.in_ok-word.word.now) c.deref.ensures.0)

pub returns-clause-only : goal.returns-clause-only
returns-clause-only c = λ s h.
    let split = parts_at-split 32 c.args.line.now c.in_ok-word.word.now c.in_ok-word.rest.now c.in_ok-word.ensures.0 c.in_ok-word.ensures.1 in
    let same = c.in_ok-numbers.ensures.only h.numbers h.small (at_most_four h.word h.numbers s h.named) (cc (split, h.words)) in
    let word : c.in_ok-word.word.now ≡ h.word = cc (split, h.words) in
    cc (c.step_of.ensures, c.deref.ensures.0, same, word, h.named)
