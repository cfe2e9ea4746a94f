use Rattle.std.proofs.Common.{◌≡◌, false, List, ℕ, Option, Some, None, refl, arith}
use Rattle.std.proofs.lemmas.Bool.Decides.{nat_tests}
use Rattle.nm_base.specs.declared.event.Event.{Event}
use Rattle.nm_base.specs.declared.key.Key.{Key}
use Rattle.nm_model.specs.EventList.{is_before, least}
use Rattle.nm_model.specs.Run.{one_list}
use Rattle.nm_sim.specs.Network.{net_of}
use Rattle.nm_measure.proofs.measured.Measured.begin.Goals as goal

-- no event is before time 0
none_before : {P : Type 0} (o : Option (Key × Event P)) → is_before 0 o ≡ false
none_before None = refl
none_before (Some e) = grind (arith, nat_tests)

pub returns-clause-before : goal.returns-clause-before
returns-clause-before c = record {
  events = 0;
  over = record {
    over = none_before {P = List ℕ} (least (one_list (net_of c.args.topology.now) 0).pending);
    first = λ m l. absurd (omega (arith, l));
  };
  represents = c.in_ok-part.ensures.represents;
  keeps = c.in_ok-part.ensures.keeping;
  within = omega arith;
  stops = c.accepted_topologies_are_in_order.ensures.limits.greatest_stop;
  steps = c.in_ok-part.ensures.steps;
  first = 0;
  seen = c.in_ok-interfaces.ensures;
  sent = c.in_ok-watched.ensures.sent;
  watched = c.in_ok-watched.ensures.watches;
  starts = c.in_ok-watched.ensures.starts;
}
