use Rattle.std.proofs.Common.{◌<◌, inl, length, rules}
use Rattle.nm_replica.proofs.Finishing.{one_finished}
use Rattle.nm_replica.proofs.sisters.all_are_done.Goals as goal

pub loop-number-preserved : goal.loop-number-preserved
loop-number-preserved g c =
    let did = c.in-Some.ensures.done in
    let low : c.loop-number.number < length c.loop-number.passes.items = search rules in
    record {
      count = search rules;
      first = search rules;
      all = one_finished g.C.Counts.exact (λ p. g.C.Counts.events_of p.share) c.loop-number.number c.loop-number.passes.items c.see_done.new.pass did.0 low
          c.loop-number.invariant.all did.1 did.2;
    }

pub returns-clause-all : goal.returns-clause-all
returns-clause-all g c = λ _ n under. c.loop-number.invariant.all n (search rules)

pub returns-in_default-clause-left : goal.returns-in_default-clause-left
returns-in_default-clause-left g c = λ _. inl (c.in_default.ensures.left (search rules))
