use Rattle.std.proofs.Common.{◌≡◌, ◌+◌, Some, length, ◌∙◌, rules, arith, subst}
use Rattle.nm_traffic.specs.Source.{source_of}
use Rattle.nm_sim.specs.Network.{is_source_here}
use Rattle.nm_sim.specs.Tables.{IsThere}
use Rattle.nm_sim.proofs.Tables.{all_pushed}
use Rattle.nm_sim.proofs.devices.first_sources.Goals as goal

pub loop-number-preserved : goal.loop-number-preserved
loop-number-preserved c =
    let count : length c.push.new.self.items ≡ c.loop-number.number + 1 = search rules in
    let at : c.source_number.result ≡ length c.loop-number.sources.items = c.source_number.ensures ∙ omega (arith, c.loop-number.invariant.0) in
    let new = subst (λ k. IsThere (is_source_here c.args.topology.now c.args.part.now k) (λ s. source_of c.args.topology.now k ≡ Some s) c.in_ok-source.source)
    at c.in_ok-source.ensures in (
      count,
      rw (c.in_ok-push.ensures.items)
          (all_pushed (λ j o. IsThere (is_source_here c.args.topology.now c.args.part.now j) (λ s. source_of c.args.topology.now j ≡ Some s) o)
          c.loop-number.sources.items c.in_ok-source.source c.loop-number.invariant.1 new),
    )
