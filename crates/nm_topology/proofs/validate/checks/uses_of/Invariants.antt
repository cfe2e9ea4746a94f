use Rattle.std.proofs.Common.{◌≡◌, ℕ, ◌+◌, ◌<◌, min, length, get_or, drop}
use Rattle.nm_topology.specs.Validate.{uses}
use Rattle.nm_topology.proofs.validate.checks.uses_of.Given as goal

abbrev pub invariant-loop-link : goal.invariant-loop-link
invariant-loop-link l = record {
  len : length l.uses.items ≡ l.count;
  counts : (i : ℕ) → i < l.count → min 255 (get_or l.uses.items i 0 + uses i (drop l.link-index l.links)) ≡ min 255 (uses i l.links);
}
