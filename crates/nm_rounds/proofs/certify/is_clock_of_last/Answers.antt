use Rattle.std.proofs.Common.{◌≡◌, ◌-◌, length, leb, Some, None, ap, sym, ◌∙◌, arith}
use Rattle.std.proofs.lemmas.Grind.{common_steps}
use Rattle.std.specs.Option.{option_map}
use Rattle.nm_model.specs.Lists.{nth}
use Rattle.nm_knowledge.proofs.Nexts.{last_from-last, last_from-none}
use Rattle.nm_rounds.proofs.certify.is_clock_of_last.Goals as goal

pub returns-in-Some : goal.returns-in-Some
returns-in-Some c =
    let k = c.args.know.now in
    let there : nth k.list (length k.list - 1) ≡ Some (c.in-Some.time, c.in-Some.field-0-1.now) =
    ap (λ n. nth k.list (n - 1)) (sym c.len-count.ensures.value) ∙ sym c.message.ensures ∙ ap (option_map (λ m. (m.0, m.1.now))) c.in-Some.is in
    let clock = c.clock.ensures.value in
    let tested : c.le.result ≡ leb k.clock c.in-Some.time = grind (arith, common_steps, c.le.ensures, clock) in
    tested ∙ sym (last_from-last k.clock k.list (c.in-Some.time, c.in-Some.field-0-1.now) there)

pub returns-in-None : goal.returns-in-None
returns-in-None c =
    let k = c.args.know.now in
    let there : nth k.list (length k.list - 1) ≡ None =
    ap (λ n. nth k.list (n - 1)) (sym c.len-count.ensures.value) ∙ sym c.message.ensures ∙ ap (option_map (λ m. (m.0, m.1.now))) c.in-None.is in
    sym (last_from-none k.clock k.list there)
