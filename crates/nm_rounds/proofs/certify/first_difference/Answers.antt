use Rattle.std.proofs.Common.{◌≡◌, ◌<◌, false, true, length, sym, ◌∙◌, rules}
use Rattle.nm_model.specs.Lists.{nth}
use Rattle.nm_rounds.specs.Certify.{is_same_entry}
use Rattle.nm_rounds.proofs.CertifyLists.{prefix_ends, prefix_goes_on}
use Rattle.nm_rounds.proofs.certify.first_difference.Goals as goal

pub returns-then-not-is_sent : goal.returns-then-not-is_sent
returns-then-not-is_sent c = λ d.
    let k = c.args.know.now.list in
    let l = c.args.sent.now in
    let n = c.loop-number.number in
    let below : n < length k = search rules in
    let apart : is_same_entry (nth k n) (nth l n) ≡ false = search rules in
    sym (c.loop-number.invariant d) ∙ prefix_ends d n k l below apart

pub loop-number-preserved : goal.loop-number-preserved
loop-number-preserved c = λ d.
    let k = c.args.know.now.list in
    let l = c.args.sent.now in
    let n = c.loop-number.number in
    let below : n < length k = search rules in
    let alike : is_same_entry (nth k n) (nth l n) ≡ true = search rules in
    sym (prefix_goes_on d n k l below alike) ∙ c.loop-number.invariant d
