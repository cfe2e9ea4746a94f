use Rattle.nm_memory_tests.specs.Whole.{IsWhole}
use Rattle.nm_memory_tests.proofs.memory.parts.run.Given as goal

abbrev pub invariant-loop : goal.invariant-loop
invariant-loop g l = IsWhole l.topology l.part × IsWhole l.topology l.twin
