use Rattle.std.proofs.Common.{sym, ap, arith}
use Rattle.std.proofs.lemmas.List.{drop_all}
use Rattle.nm_measure.specs.Sums.{greatest_of}
use Rattle.nm_measure.proofs.delays.Delays.begin_recent.Goals as goal

pub returns-clause-same : goal.returns-clause-same
returns-clause-same c = λ ds h.
    let count = h.added.count in
    let seen = c.count-self.ensures in
    record {
      added = h.added;
      seen = omega (arith, count, seen);
      recent = λ few. sym (ap greatest_of (drop_all c.count-self.result ds (omega (arith, count, seen, few))));
    }
