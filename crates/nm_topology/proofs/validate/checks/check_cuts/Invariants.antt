use Rattle.std.proofs.Common.{◌≡◌, drop}
use Rattle.std.specs.List.{list_any}
use Rattle.nm_topology.specs.Validate.{is_undelayed_cut}
use Rattle.nm_topology.proofs.validate.checks.check_cuts.Given as goal

abbrev pub invariant-loop-link : goal.invariant-loop-link
invariant-loop-link l =
    list_any (is_undelayed_cut l.parts l.owners) l.links ≡ list_any (is_undelayed_cut l.parts l.owners) (drop l.link-index l.links)
