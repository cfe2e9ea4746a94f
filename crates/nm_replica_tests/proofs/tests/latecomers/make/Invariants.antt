use Rattle.std.specs.Arc.{arc_value}
use Rattle.nm_shared.specs.Home.{home_at}
use Rattle.nm_replica_tests.proofs.tests.latecomers.make.Given as goal

abbrev pub ghosts-made_of-M-Naming : goal.ghosts-made_of-M-Naming
ghosts-made_of-M-Naming g a = record { home = home_at (arc_value a.topology) 1 a.made.replica }

abbrev pub ghosts-made_of-M-Ledger : goal.ghosts-made_of-M-Ledger
ghosts-made_of-M-Ledger g a = record { name = a.messages.name; parts = a.messages.parts }

abbrev pub ghosts-made_of-E-Ledger : goal.ghosts-made_of-E-Ledger
ghosts-made_of-E-Ledger g a = record { name = a.events.name; parts = a.events.parts }
