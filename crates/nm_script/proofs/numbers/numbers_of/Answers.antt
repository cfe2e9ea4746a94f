use Rattle.std.proofs.Common.{ℕ, List, ◌++◌, ◌∷◌, [], map, decimal, ap, sym, ◌∙◌, subst, ◌<◌, ◌^◌, arith}
use Rattle.std.proofs.lemmas.List.{append-nil}
use Rattle.std.proofs.lemmas.List.Elements.{All-push}
use Rattle.nm_base.specs.Text.{parts_at}
use Rattle.nm_script.proofs.Parts.{AreSmall, parts_at-split, parts_at-whole, part_is_number, same_numbers, more_parts, next_part, last_part, one_more, from_err, from_ok}
use Rattle.nm_script.proofs.numbers.numbers_of.Goals as goal

pub returns-in_err-number-clause-only : goal.returns-in_err-number-clause-only
returns-in_err-number-clause-only c = λ numbers small few e.
    let read = c.loop-word.numbers.items in
    let next = next_part c.args.text.now c.loop-word.rest.now c.in-Some.word.now c.in-Some.after.now read numbers c.loop-word.invariant.0 c.in-Some.ensures.0 c.in-Some.ensures.1 e in
    let is = part_is_number numbers (map decimal read) c.in-Some.word.now (parts_at 32 c.in-Some.after.now) small next in
    let not = c.in_err-number.ensures.only is.0 is.1 is.2 in
    absurd (cc)

pub returns-then-is_err-clause-only : goal.returns-then-is_err-clause-only
returns-then-is_err-clause-only c = λ numbers small few e.
    let read = c.loop-word.numbers.items in
    let next = next_part c.args.text.now c.loop-word.rest.now c.in-Some.word.now c.in-Some.after.now read numbers c.loop-word.invariant.0 c.in-Some.ensures.0 c.in-Some.ensures.1 e in
    let full = from_err _ c.try_push.result c.try_push.ensures.full c.if-is_err.ensures.value in
    let more = more_parts numbers read c.in-Some.word.now (parts_at 32 c.in-Some.after.now) next in
    omega arith

pub loop-word-preserved : goal.loop-word-preserved
loop-word-preserved c =
    let read = c.loop-word.numbers.items in
    let number = c.in_ok-number.number in
    let pushed = from_ok _ c.try_push.result c.try_push.ensures.ok c.if-is_err.ensures.value in
    let split = parts_at-split 32 c.loop-word.rest.now c.in-Some.word.now c.in-Some.after.now c.in-Some.ensures.0 c.in-Some.ensures.1 in (
      c.loop-word.invariant.0 ∙ ap (λ (parts : List (List ℕ)). map decimal read ++ parts) split
          ∙ one_more read number c.in-Some.word.now (parts_at 32 c.in-Some.after.now) c.in_ok-number.ensures.found
          ∙ ap (λ (new : List ℕ). map decimal new ++ parts_at 32 c.in-Some.after.now) (sym pushed),
      subst AreSmall (sym pushed) (All-push (λ n. n < 2 ^ 64) read number c.loop-word.invariant.1 (omega arith)),
    )

pub returns-in_err-last-clause-only : goal.returns-in_err-last-clause-only
returns-in_err-last-clause-only c = λ numbers small few e.
    let read = c.loop-word.numbers.items in
    let next = last_part c.args.text.now c.loop-word.rest.now read numbers c.loop-word.invariant.0 c.in_default.ensures e in
    let is = part_is_number numbers (map decimal read) c.loop-word.rest.now [] small next in
    let not = c.in_err-last.ensures.only is.0 is.1 is.2 in
    absurd (cc)

pub returns-then-is_err-2-clause-only : goal.returns-then-is_err-2-clause-only
returns-then-is_err-2-clause-only c = λ numbers small few e.
    let read = c.loop-word.numbers.items in
    let next = last_part c.args.text.now c.loop-word.rest.now read numbers c.loop-word.invariant.0 c.in_default.ensures e in
    let full = from_err _ c.try_push-2.result c.try_push-2.ensures.full c.if-is_err-2.ensures.value in
    let more = more_parts numbers read c.loop-word.rest.now [] next in
    omega arith

pub returns-clause-small : goal.returns-clause-small
returns-clause-small c =
    let pushed = from_ok _ c.try_push-2.result c.try_push-2.ensures.ok c.if-is_err-2.ensures.value in
    subst AreSmall (sym pushed) (All-push (λ n. n < 2 ^ 64) c.loop-word.numbers.items c.in_ok-last.last c.loop-word.invariant.1 (omega arith))

pub returns-clause-found : goal.returns-clause-found
returns-clause-found c =
    let read = c.loop-word.numbers.items in
    let pushed = from_ok _ c.try_push-2.result c.try_push-2.ensures.ok c.if-is_err-2.ensures.value in
    c.loop-word.invariant.0 ∙ ap (λ (parts : List (List ℕ)). map decimal read ++ parts) (parts_at-whole 32 c.loop-word.rest.now c.in_default.ensures)
    ∙ one_more read c.in_ok-last.last c.loop-word.rest.now [] c.in_ok-last.ensures.found
    ∙ append-nil (map decimal (read ++ c.in_ok-last.last ∷ []))
    ∙ ap (λ (new : List ℕ). map decimal new) (sym pushed)

pub returns-clause-only : goal.returns-clause-only
returns-clause-only c = λ numbers small few e.
    same_numbers c.try_push-2.new.self.items numbers (returns-clause-small c) small (sym (returns-clause-found c) ∙ e)
