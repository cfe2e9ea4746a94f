-- The tests of a topology with numbers in place of names, in their order.
use Rattle.nm_base.specs.declared.limits.TheConstants.{MAX_CHANNELS, MAX_ROUTES_OF_NODE}
use Rattle.nm_topology.specs.Fault.{◌>>=◌, demand}
use Rattle.nm_topology.specs.declared.fault.Refusal.{Refusal}
use Rattle.nm_topology.specs.declared.fault.Refusal.TheVariants.{TooMany, IfaceUse, DoubleAddress}
use Rattle.nm_topology.specs.declared.fault.Refusal.TheVariants.{DoubleRoute, CutDelay}
use Rattle.nm_topology.specs.declared.parts.Link.{Link}
use Rattle.nm_topology.specs.declared.parts.PlacedRoute.{PlacedRoute}
use Rattle.std.specs.List.{list_any, list_all}
use Rattle.std.specs.Prelude.{ℕ, Bool, ◌==◌, if◌then◌else◌, List, [], ◌∷◌, slice_index, Result, ◌+◌}
use Rattle.std.specs.Prelude.{◌&&◌, not, slice_set, min, nat_eq, nat_le, length}
use Rattle.nm_topology.specs.Build.{numbers_from, part_of, far_ends, routes_of_nodes, receivers_of}
use Rattle.nm_topology.specs.Names.{has_double}
use Rattle.nm_topology.specs.ResolvedValue.{ResolvedValue}

abbrev pub one_if : Bool → ℕ
one_if b = if b then 1 else 0

-- how many ends of links are the interface i
abbrev pub uses : ℕ → List Link → ℕ
uses i [] = 0
uses i (l ∷ ls) = one_if (l.a == i) + one_if (l.b == i) + uses i ls

-- a count of ends, with one more for the interface a; counts stop at 255
abbrev pub bump : List ℕ → ℕ → List ℕ
bump counts a = slice_set counts a (min 255 (slice_index counts a + 1))

abbrev pub are_used_once : ℕ → List Link → Bool
are_used_once n links = list_all (λ i. uses i links == 1) (numbers_from 0 n)

-- the node and the prefix of a route
abbrev pub route_key : PlacedRoute → ℕ × ℕ × ℕ
route_key r = (r.node, r.route.to.address, r.route.to.length)

-- routes of one node with one prefix
abbrev pub same_route : PlacedRoute → PlacedRoute → Bool
same_route r s =
    ((r.node == s.node) && (r.route.to.address == s.route.to.address))
    && (r.route.to.length == s.route.to.length)

-- whether the link's ends lie in different partitions
abbrev pub is_cut : List ℕ → List ℕ → Link → Bool
is_cut parts owners l = not (part_of parts owners l.a == part_of parts owners l.b)

-- a link between partitions that delays by nothing
abbrev pub is_undelayed_cut : List ℕ → List ℕ → Link → Bool
is_undelayed_cut parts owners l = (l.delay == 0) && is_cut parts owners l

-- the tests of the whole, in their order: of nodes in these partitions and interfaces with these
-- addresses, of so many nodes and interfaces, and of the numbers of all else
abbrev pub tested : List ℕ → List ℕ → ℕ → ℕ → ResolvedValue → Result Unit Refusal
tested parts addresses nodes ifaces t =
    demand (are_used_once ifaces t.links) IfaceUse >>= λ used.
    demand (not (has_double nat_eq addresses)) DoubleAddress >>= λ different.
    demand (not (has_double same_route t.routes)) DoubleRoute >>= λ single.
    demand (list_all (λ rs. nat_le (length rs) MAX_ROUTES_OF_NODE) (routes_of_nodes nodes t.routes))
    TooMany >>= λ short.
    demand (nat_le (length (receivers_of parts t.owners (far_ends ifaces t.links))) MAX_CHANNELS)
    TooMany >>= λ few.
    demand (not (list_any (is_undelayed_cut parts t.owners) t.links)) CutDelay
