use Rattle.std.proofs.Common.{◌≡◌, drop}
use Rattle.std.specs.List.{list_any}
use Rattle.std.specs.Str.{bytes_eq}
use Rattle.nm_topology.specs.Keys.{keys_of}
use Rattle.nm_topology.proofs.parse.fields.is_key_of.Given as goal

abbrev pub invariant-loop-known : goal.invariant-loop-known
invariant-loop-known l =
    list_any (λ k. bytes_eq k l.key) (keys_of l.fields) ≡ list_any (λ k. bytes_eq k l.key) (keys_of (drop l.known-index l.fields))
