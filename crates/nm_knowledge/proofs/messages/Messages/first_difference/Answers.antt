use Rattle.std.proofs.Common.{◌≡◌, true, false, sym, ◌∙◌, arith}
use Rattle.nm_model.specs.Accept.{same_message}
use Rattle.nm_knowledge.specs.Octets.{same_octets}
use Rattle.nm_knowledge.proofs.Differences.{differs_here, differs_later, differs_past, negated}
use Rattle.nm_knowledge.proofs.messages.Messages.first_difference.Goals as goal

pub returns-then-ne : goal.returns-then-ne
returns-then-ne c =
    let apart : same_message same_octets c.at.result.now c.at-in-loop-number.result.now ≡ false = negated _ true (sym c.ne.ensures ∙ c.if-ne.true) in
    sym (c.loop-number.invariant
    ∙ differs_here same_octets c.loop-number.number c.loop-number.number c.args.self.now c.args.other.now _ _ c.at.ensures c.at-in-loop-number.ensures apart)

pub loop-number-preserved : goal.loop-number-preserved
loop-number-preserved c =
    let alike : same_message same_octets c.at.result.now c.at-in-loop-number.result.now ≡ true = negated _ false (sym c.ne.ensures ∙ c.if-ne.false) in
    c.loop-number.invariant
    ∙ differs_later same_octets c.loop-number.number c.loop-number.number c.args.self.now c.args.other.now _ _ c.at.ensures c.at-in-loop-number.ensures alike

pub returns : goal.returns
returns c = sym (c.loop-number.invariant ∙ differs_past same_octets c.loop-number.number c.loop-number.number c.args.self.now c.args.other.now (omega arith))
