use Rattle.std.specs.Arc.{arc_value}
use Rattle.nm_shared.specs.Home.{home_at}
use Rattle.nm_process.proofs.process.run_process.Given as goal

abbrev pub ghosts-run_named-M-Naming : goal.ghosts-run_named-M-Naming
ghosts-run_named-M-Naming g a = record { home = home_at (arc_value a.process.now.topology.now) a.process.now.partition a.process.now.replica }

abbrev pub ghosts-run_named-M-Ledger : goal.ghosts-run_named-M-Ledger
ghosts-run_named-M-Ledger g a = record { name = a.messages.name; parts = a.messages.parts }

abbrev pub ghosts-run_named-E-Ledger : goal.ghosts-run_named-E-Ledger
ghosts-run_named-E-Ledger g a = record { name = a.events.name; parts = a.events.parts }
