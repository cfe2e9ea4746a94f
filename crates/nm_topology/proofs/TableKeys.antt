-- The keys of a table, as its members and as its map have them.
use Rattle.std.proofs.Common.{◌≡◌, ℕ, ◌&&◌, List, [], ◌∷◌, map, String, Global}
use Rattle.std.proofs.Common.{string_bytes, refl, ap}
use Rattle.std.specs.List.{list_all, list_any}
use Rattle.std.specs.Str.{bytes_eq}
use Rattle.toml.specs.declared.value.Value.{Value}
use Rattle.toml.specs.View.{members_view}
use Rattle.nm_topology.specs.Parse.Fields.{all_among}

pub all_among-view : (ks : List (List ℕ)) (es : List (String Global × Value)) → all_among ks (members_view es) ≡ list_all (λ k. list_any (λ l. bytes_eq l (string_bytes k)) ks) (map (λ e. e.0) es)
all_among-view ks [] = refl
all_among-view ks (e ∷ es) = ap (λ b. list_any (λ l. bytes_eq l (string_bytes e.0)) ks && b) (all_among-view ks es)
