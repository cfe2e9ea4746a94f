use Rattle.std.specs.Arc.{arc_value}
use Rattle.nm_shared.specs.Home.{home_at}
use Rattle.nm_replica_tests.proofs.tests.callers.hands.Given as goal

abbrev pub ghosts-handed_by_many-M-Naming : goal.ghosts-handed_by_many-M-Naming
ghosts-handed_by_many-M-Naming g a = record { home = home_at (arc_value a.topology) 1 0 }

abbrev pub ghosts-handed_by_many-M-Ledger : goal.ghosts-handed_by_many-M-Ledger
ghosts-handed_by_many-M-Ledger g a = record { name = a.messages.name; parts = a.messages.parts }

abbrev pub ghosts-handed_by_many-E-Ledger : goal.ghosts-handed_by_many-E-Ledger
ghosts-handed_by_many-E-Ledger g a = record { name = a.events.name; parts = a.events.parts }
