use Rattle.std.proofs.Common.{◌≡◌, ◌-◌, length, leb, Some, ap, sym, ◌∙◌}
use Rattle.std.proofs.Common.{arith}
use Rattle.std.proofs.lemmas.Grind.{common_steps}
use Rattle.nm_model.specs.Lists.{nth}
use Rattle.nm_knowledge.proofs.Nexts.{last_from-last}
use Rattle.nm_knowledge.proofs.messages.Messages.is_at_last.Goals as goal

pub returns : goal.returns
returns c =
    let there : nth c.args.self.now (length c.args.self.now - 1) ≡ Some c.at.result.now = ap (λ n. nth c.args.self.now (n - 1)) (sym c.len-count.ensures.value) ∙ c.at.ensures in
    let tested : c.le.result ≡ leb c.args.time c.at.result.now.0 = grind (arith, common_steps, c.le.ensures) in
    tested ∙ sym (last_from-last c.args.time c.args.self.now c.at.result.now there)
