use Rattle.std.proofs.Common.{◌<◌, ◌∙◌, map, string_bytes, sym, subst}
use Rattle.std.proofs.lemmas.List.{length-map}
use Rattle.nm_command.specs.Command.{certify_or, command_of, of_number}
use Rattle.nm_command.proofs.WordCounts.{few_are_others}
use Rattle.nm_command.proofs.command.Command.of.Goals as goal

pub returns-in_default-clause-value : goal.returns-in_default-clause-value
unfolding command_of
returns-in_default-clause-value c =
    let words = map (λ w. string_bytes w) c.args.words.now in
    c.certify_or.ensures.value ∙ sym (few_are_others words (certify_or words (of_number words)) (subst (λ n. n < 3) (sym (length-map c.args.words.now (λ w. string_bytes w))) c.in_default.len_below))
