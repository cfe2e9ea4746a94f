-- What contracts see of the tables with numbers in place of names.
use Rattle.nm_topology.specs.declared.parts.Link.{Link}
use Rattle.nm_topology.specs.declared.parts.PlacedRoute.{PlacedRoute}
use Rattle.nm_topology.specs.declared.traffic.Source.{Source}
use Rattle.std.specs.Prelude.{ℕ, List}

-- owners by interface, links, routes and sources, with numbers in place of names
pub record ResolvedValue : Type 0 where
  pub owners : List ℕ
  pub links : List Link
  pub routes : List PlacedRoute
  pub sources : List Source
