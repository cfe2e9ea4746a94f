use Rattle.std.proofs.Common.{◌≡◌, ℕ, ◌<◌, All, ◌≤◌, Some, length, drop}
use Rattle.std.specs.Prelude.{slice_get}
use Rattle.nm_topology.specs.Build.{far_by_links}
use Rattle.nm_topology.proofs.build.wiring.far_ends.Given as goal

abbrev pub invariant-loop-next : goal.invariant-loop-next
invariant-loop-next l = record {
  within : l.next ≤ length l.links;
  len : length l.far.items ≡ l.count;
  peers : All (λ f. f.iface < l.count) l.far.items;
  ends : (i : ℕ) → i < l.count → slice_get l.far.items i ≡ Some (far_by_links i (drop l.next l.links));
}

abbrev pub decreases-loop-next : goal.decreases-loop-next
decreases-loop-next l = l.next
