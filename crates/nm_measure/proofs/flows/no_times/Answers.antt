use Rattle.std.proofs.Common.{rules, ◌≡◌, [], length, slice_get, sym, ap, ◌∙◌, ⊎_elim, subst}
use Rattle.nm_measure.specs.Counted.{HasArrivals}
use Rattle.nm_measure.specs.Starts.{start_of}
use Rattle.nm_measure.proofs.Flowing.{arrivals_first}
use Rattle.nm_measure.proofs.Lists.{pushed_is}
use Rattle.nm_measure.proofs.Starting.{starts_first}
use Rattle.nm_measure.proofs.flows.no_times.Goals as goal

pub loop-number-preserved : goal.loop-number-preserved
loop-number-preserved c = record {
  within = search rules;
  count = search rules;
  none = λ j x at. ⊎_elim
      (λ before. c.loop-number.invariant.none j x before)
      (λ last. subst (HasArrivals j []) (sym last.1) (arrivals_first j c.new.result c.new.ensures.delays c.new.ensures.trips c.new.ensures.octets c.new.ensures.ended))
      (pushed_is c.loop-number.times.items c.new.result j x (sym (ap (λ l. slice_get l j) c.in_ok-push.ensures.items) ∙ at));
  starts = λ j x at. ⊎_elim
      (λ before. c.loop-number.invariant.starts j x before)
      (λ last. ap start_of last.1 ∙ c.new.ensures.start)
      (pushed_is c.loop-number.times.items c.new.result j x (sym (ap (λ l. slice_get l j) c.in_ok-push.ensures.items) ∙ at));
}

pub returns-clause-starts : goal.returns-clause-starts
returns-clause-starts c = λ t is.
    let all : length c.loop-number.times.items ≡ c.args.sources = search rules in
    starts_first t c.loop-number.times.items (all ∙ is) c.loop-number.invariant.starts
