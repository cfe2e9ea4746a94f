use Rattle.std.proofs.Common.{◌≡◌, ◌<◌, ℕ, true, None}
use Rattle.nm_base.specs.declared.wanted.Wanted.TheVariants.{All}
use Rattle.nm_model.specs.Run.{one_list, pends_before}
use Rattle.nm_sim.specs.Network.{net_of}
use Rattle.nm_sim.specs.Part.{Represents}
use Rattle.nm_events.specs.Held.{pending_of}
use Rattle.nm_sim.proofs.trace.run.Given as goal

abbrev pub invariant-loop-done : goal.invariant-loop-done
invariant-loop-done l =
    Represents pending_of l.topology None l.part (one_list (net_of l.topology) l.done)
    × (l.part.records.keeping ≡ record { wanted = All; handed = 0 })
    × ((m : ℕ) → m < l.done → pends_before l.before (one_list (net_of l.topology) m) ≡ true)
