use Rattle.std.proofs.Common.{◌<◌, ◌∙◌, map, string_bytes, sym, subst}
use Rattle.std.proofs.lemmas.List.{length-map}
use Rattle.nm_command.specs.Command.{of_number}
use Rattle.nm_command.proofs.WordCounts.{few_certify_none}
use Rattle.nm_command.proofs.command.certify_or.Goals as goal

pub returns-in_default-clause-value : goal.returns-in_default-clause-value
returns-in_default-clause-value c =
    let words = map (λ w. string_bytes w) c.args.words.now in
    c.of_number.ensures.value ∙ sym (few_certify_none words (of_number words) (subst (λ n. n < 3) (sym (length-map c.args.words.now (λ w. string_bytes w))) c.in_default.len_below))
