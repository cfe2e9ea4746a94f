use Rattle.std.proofs.Common.{◌≡◌, ◌<◌, length, rules, refl, sym, ◌∙◌, subst, arith, length-set}
use Rattle.nm_measure.specs.declared.seen.Seen.{Seen}
use Rattle.nm_measure.proofs.Lists.{AreTurned, none_turned, read_at, turned_more}
use Rattle.nm_measure.proofs.Watching.{IsBegun, seen_anew}
use Rattle.nm_measure.proofs.interfaces.Interfaces.begin_recent.Goals as goal

pub loop-number-init : goal.loop-number-init
loop-number-init c = record {
  within = omega arith;
  count = refl;
  each = none_turned IsBegun c.args.self.now.all.items;
}

pub loop-number-preserved : goal.loop-number-preserved
loop-number-preserved c =
    let old = c.args.self.now.all.items in
    let mid = c.loop-number.self.all.items in
    let n = c.loop-number.number in
    let m = c.loop-number.invariant in
    let x = c.index_mut.result.now in
    let y : Seen = record { queue = c.begin_recent.new.self; usage = x.usage } in
    let low : n < length old = search rules in
    let count = m.count in
    let here : n < length mid = omega (arith, low, count) in
    record {
      within = omega (arith, low);
      count = length-set mid n y ∙ m.count;
      each = turned_more IsBegun old mid n x y here (read_at mid n n x refl here c.index_mut.ensures.value) (refl, c.begin_recent.ensures) m.each;
    }

pub returns : goal.returns
returns c = λ t first n h.
    let old = c.args.self.now.all.items in
    let new = c.loop-number.self.all.items in
    let m = c.loop-number.invariant in
    let over : length old ≡ c.loop-number.number = search rules in
    seen_anew t first n old new (subst (AreTurned IsBegun old new) (sym over) m.each) m.count h
