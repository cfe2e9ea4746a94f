use Rattle.std.proofs.Common.{◌≡◌, ◌-◌, ◌++◌, length, filter}
use Rattle.nm_topology.specs.Build.{is_receiver, numbers_from}
use Rattle.nm_topology.proofs.build.wiring.receivers.Given as goal

abbrev pub invariant-loop-number : goal.invariant-loop-number
invariant-loop-number l =
    l.receivers.items ++ filter (is_receiver l.parts l.owners l.far) (numbers_from l.number (length l.far - l.number)) ≡ filter (is_receiver l.parts l.owners l.far) (numbers_from 0 (length l.far))
