use Rattle.std.proofs.Common.{◌≡◌, ◌<◌, length, rules, refl, sym, ◌∙◌, subst, arith, length-set}
use Rattle.nm_measure.specs.Counted.{AreFlows}
use Rattle.nm_measure.specs.Starts.{IsRecent}
use Rattle.nm_measure.proofs.Flowing.{flows_recent}
use Rattle.nm_measure.proofs.Lists.{AreTurned, none_turned, read_at, turned_more}
use Rattle.nm_measure.proofs.Starting.{starts_anew}
use Rattle.nm_measure.proofs.flows.Flows.begin_recent.Goals as goal

pub loop-number-init : goal.loop-number-init
loop-number-init c = record {
  within = omega arith;
  counts = refl;
  count = refl;
  each = none_turned IsRecent c.args.self.now.times.items;
}

pub loop-number-preserved : goal.loop-number-preserved
loop-number-preserved c =
    let old = c.args.self.now.times.items in
    let mid = c.loop-number.self.times.items in
    let n = c.loop-number.number in
    let m = c.loop-number.invariant in
    let x = c.index_mut.result.now in
    let y = c.begin_recent.new.self in
    let low : n < length old = search rules in
    let count = m.count in
    let here : n < length mid = omega (arith, low, count) in
    record {
      within = omega (arith, low);
      counts = m.counts;
      count = length-set mid n y ∙ m.count;
      each = turned_more IsRecent old mid n x y here (read_at mid n n x refl here c.index_mut.ensures.value) c.begin_recent.ensures m.each;
    }

pub returns-clause-flows : goal.returns-clause-flows
returns-clause-flows c = λ ends under was.
    let old = c.args.self.now.times.items in
    let new = c.loop-number.self.times.items in
    let m = c.loop-number.invariant in
    let over : length old ≡ c.loop-number.number = search rules in
    subst (λ v. AreFlows ends under v.items new) (sym m.counts)
    (flows_recent ends under c.args.self.now.counts.items old new (subst (AreTurned IsRecent old new) (sym over) m.each) m.count was)

pub returns-clause-starts : goal.returns-clause-starts
returns-clause-starts c = λ t first n was starts.
    let old = c.args.self.now.times.items in
    let new = c.loop-number.self.times.items in
    let m = c.loop-number.invariant in
    let over : length old ≡ c.loop-number.number = search rules in
    starts_anew t first n old new (subst (AreTurned IsRecent old new) (sym over) m.each) m.count was starts
