use Rattle.std.proofs.Common.{◌≡◌, ◌<◌, ℕ, List, length, sym, ap, ◌∙◌, arith}
use Rattle.std.proofs.lemmas.Bool.{both_ways, eq-eqb, eqb-true, not-false, not-true, true≢false}
use Rattle.nm_model.specs.Knowledge.{Know}
use Rattle.nm_model.specs.Lists.{nth}
use Rattle.nm_alike.proofs.Same.{messages_decide, same_lists, with_next}
use Rattle.nm_alike.proofs.are_equal.Goals as goal

pub returns-then-ne : goal.returns-then-ne
returns-then-ne c =
    let tested = messages_decide c.message.result c.message-in-loop-number.result in
    let apart = not-true _ (sym c.ne.ensures ∙ c.if-ne.true) in
    (λ h. absurd (true≢false (sym h)), λ e. absurd (both_ways _ apart (tested.1 (c.message.ensures ∙ ap (λ k. nth k.list c.loop-number.number) e ∙ sym c.message-in-loop-number.ensures))))

pub loop-number-preserved : goal.loop-number-preserved
loop-number-preserved c =
    let tested = messages_decide c.message.result c.message-in-loop-number.result in
    let alike = not-false _ (sym c.ne.ensures ∙ c.if-ne.false) in
    with_next {P = λ n. nth c.args.one.now.list n ≡ nth c.args.other.now.list n} c.loop-number.number c.loop-number.invariant (sym c.message.ensures ∙ tested.0 alike ∙ c.message-in-loop-number.ensures)

pub returns-then-len : goal.returns-then-len
returns-then-len c =
    let k : Know (List ℕ) = c.args.one.now in
    let l : Know (List ℕ) = c.args.other.now in
    let as_long : length k.list ≡ length l.list = sym c.len.ensures.value ∙ c.if-len.true ∙ c.len-2.ensures.value in
    let all : (n : ℕ) → n < length k.list → nth k.list n ≡ nth l.list n = λ n small. c.loop-number.invariant n (omega (arith, c.len-number-end.ensures.value, c.loop-number-test.false)) in
    let lists = same_lists k.list l.list as_long all in (
      λ h. let clocks : k.clock ≡ l.clock = sym c.clock.ensures.value ∙ eqb-true _ _ (sym c.eq.ensures ∙ h) ∙ c.clock-then-len.ensures.value in λ i. record { list = lists i; clock = clocks i },
      λ e. c.eq.ensures ∙ eq-eqb _ _ (c.clock.ensures.value ∙ ap (λ a. a.clock) e ∙ sym c.clock-then-len.ensures.value),
    )

pub returns-else-len : goal.returns-else-len
returns-else-len c = (
  λ h. absurd (c.if-len.false (eqb-true _ _ h)),
  λ e. absurd (c.if-len.false (c.len.ensures.value ∙ ap (λ a. length a.list) e ∙ sym c.len-2.ensures.value)),
)
