use Rattle.std.proofs.Common.{◌≤◌, All, length, rules, subst}
use Rattle.std.proofs.lemmas.List.{take_all}
use Rattle.nm_replica.specs.Seats.{StandsOnBoard}
use Rattle.nm_replica.proofs.Owners.{one_told}
use Rattle.nm_replica.proofs.telling.tell_all.Goals as goal

pub loop-number-preserved : goal.loop-number-preserved
loop-number-preserved g c = record {
  kept = search rules;
  told =
      one_told (StandsOnBoard g.C.Counts.exact g.C.Counts.home) c.loop-number.own.seats.items c.loop-number.number c.tell.new.seat (search rules)
      c.loop-number.invariant.told c.tell.ensures.told;
}

pub returns-clause-told : goal.returns-clause-told
returns-clause-told g c =
    let over : length c.loop-number.own.seats.items ≤ c.loop-number.number = search rules in
    subst (All (StandsOnBoard g.C.Counts.exact g.C.Counts.home)) (take_all c.loop-number.number c.loop-number.own.seats.items over) c.loop-number.invariant.told
