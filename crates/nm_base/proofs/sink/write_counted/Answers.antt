use Rattle.std.proofs.Common.{arith}
use Rattle.std.proofs.lemmas.Grind.{common_steps}
use Rattle.std.proofs.lemmas.List.{take_rest}
use Rattle.nm_base.proofs.Sinks.{Appends-take}
use Rattle.nm_base.proofs.sink.write_counted.Goals as goal

pub loop-taken-preserved : goal.loop-taken-preserved
loop-taken-preserved g c = record {
  within = grind (arith, common_steps, c.in-Ok.ensures.bounds);
  front = Appends-take _ _ _ c.args.octets.now c.loop-taken.taken c.in-Ok.count c.loop-taken.invariant.front (rw (take_rest c.args.octets.now c.loop-taken.taken) at c.in-Ok.ensures.octets);
  no_fault = let h = c.in-Ok.ensures.faults in omega (arith, h);
}
