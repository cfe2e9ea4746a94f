use Rattle.std.proofs.Common.{◌≡◌, ◌++◌, take, drop, map}
use Rattle.std.specs.Prelude.{option_map}
use Rattle.nm_policy.specs.Contact.{polled}
use Rattle.nm_policy.proofs.contacts.pass_all.Given as goal

abbrev pub invariant-loop-slot : goal.invariant-loop-slot
invariant-loop-slot l = l.connections ≡ map (option_map (polled l.ran_out)) (take l.slot-index l.initial.connections) ++ drop l.slot-index l.initial.connections
