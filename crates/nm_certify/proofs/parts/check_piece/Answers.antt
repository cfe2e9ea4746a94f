use Rattle.std.proofs.Common.{◌≡◌, IfErr, IfOk, length, rules}
use Rattle.std.specs.Arc.{arc_value}
use Rattle.std.proofs.lemmas.Result.{IfErr-weaker, IfOk-weaker}
use Rattle.nm_certify.specs.Checking.{IsEnd, RefusesPart}
use Rattle.nm_certify.proofs.Pieces.{all_good, each_result, either, one_bad, refused}
use Rattle.nm_certify.proofs.parts.check_piece.Goals as goal

pub returns-clause-ends : goal.returns-clause-ends
returns-clause-ends g c =
    let good = IsEnd (arc_value c.args.topology.now) g.B.Read.remaining in
    let bad = RefusesPart (arc_value c.args.topology.now) g.B.Read.remaining in
    let jobs = c.args.jobs.items in
    let results = c.in_ok-results.results.items in
    let same : length results ≡ length jobs = search rules in
    let each = each_result _ _ jobs results (λ j r. IfOk r (good j) × IfErr r (bad j)) c.in_ok-results.ensures.each (λ j r says. says) in
    IfOk-weaker c.all_ends.result _ _ (λ ends are. all_good good bad jobs results same each ends.items are) c.all_ends.ensures.all

pub returns-clause-fault : goal.returns-clause-fault
returns-clause-fault g c =
    let t = arc_value c.args.topology.now in
    let left = g.B.Read.remaining in
    let good = IsEnd t left in
    let bad = RefusesPart t left in
    let jobs = c.args.jobs.items in
    let results = c.in_ok-results.results.items in
    let same : length results ≡ length jobs = search rules in
    let each = each_result _ _ jobs results (λ j r. IfOk r (good j) × IfErr r (bad j)) c.in_ok-results.ensures.each (λ j r says. says) in
    IfErr-weaker c.all_ends.result _ _ (λ f why. refused t left jobs f (either why (λ has. one_bad good bad jobs results same each f has.0 has.1 has.2))) c.all_ends.ensures.first
