use Rattle.std.proofs.Common.{◌≡◌, drop}
use Rattle.toml.specs.View.{items_view}
use Rattle.nm_topology.specs.Parse.Arrays.{all_fit}
use Rattle.nm_topology.proofs.parse.arrays.all_fit.Given as goal

abbrev pub invariant-loop-item : goal.invariant-loop-item
invariant-loop-item g l = all_fit g.T.Member.has_type (items_view l.items) ≡ all_fit g.T.Member.has_type (items_view (drop l.item-index l.items))
