use Rattle.std.proofs.Common.{◌≡◌, ℕ, ◌<◌, All, [], Some, length}
use Rattle.std.specs.Prelude.{slice_get}
use Rattle.nm_topology.specs.Build.{far_by_links}
use Rattle.nm_topology.proofs.build.wiring.unlinked.Given as goal

abbrev pub invariant-loop-i : goal.invariant-loop-i
invariant-loop-i l = record {
  len : length l.far.items ≡ l.i;
  within : All (λ f. f.iface < l.count) l.far.items;
  ends : (j : ℕ) → j < l.i → slice_get l.far.items j ≡ Some (far_by_links j []);
}
