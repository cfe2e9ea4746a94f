-- The route to an address (RFC 1812, section 5.2.4.3).
use Rattle.std.specs.Prelude.{◌≡◌, ℕ, zero, suc, ◌-◌, ◌/◌, ◌^◌, ◌<◌, ◌≤◌, All, Bool, Contains, false, ◌&&◌, ◌==◌, List, find, slice_index_or, Option, None, Some}
use Rattle.std.specs.Option.{option_map, option_or}
use Rattle.std.specs.HashMap.{get, HashMap}
use Rattle.std.specs.declared.hash.FoldHasher.{FoldHasher}
use Rattle.std.specs.declared.hash.BuildHasherDefault.{BuildHasherDefault}
use Rattle.nm_topology.specs.declared.parts.Route.{Route}
use Rattle.nm_forward.specs.declared.routes.PrefixKey.{PrefixKey}

-- the first n bits of an address
abbrev pub network : ℕ → ℕ → ℕ
network n address = address / 2 ^ (32 - n)

-- whether the route's prefix has exactly n bits and holds the address (RFC 4632, section 3.1)
abbrev pub leads : ℕ → ℕ → Route → Bool
leads n address r = (r.to.length == n) && (network n r.to.address == network n address)

-- the route's prefix holds the address: they agree in the first bits, as many as the prefix has
abbrev pub Holds : ℕ → Route → Type 0
Holds address r =
    (r.to.length ≤ 32) × (network r.to.length r.to.address ≡ network r.to.length address)

-- of the routes whose prefix has fewer than n bits and holds the address, the one with the longest
unfoldable pub longest_below : ℕ → List Route → ℕ → Option Route
longest_below zero routes address = None
longest_below (suc n) routes address =
    option_or (find (leads n address) routes) (longest_below n routes address)

-- the route with the longest prefix that holds the address
abbrev pub longest_route : List Route → ℕ → Option Route
longest_route routes address = longest_below 33 routes address

-- one of the routes; its prefix holds the address and is the longest that does
pub record IsLongest (routes : List Route) (address : ℕ) (r : Route) : Type 0 where
  pub listed : Contains routes r
  pub holds : Holds address r
  pub longest : All (λ q. Holds address q → q.to.length ≤ r.to.length) routes

-- the route to an address, if there is one: there is one if any prefix holds the address
abbrev pub IsRouteTo : List Route → ℕ → Option Route → Type 0
IsRouteTo routes address (Some r) = IsLongest routes address r
IsRouteTo routes address None = All (λ q. ¬ Holds address q) routes

-- the interface to which that route leads
abbrev pub route_of : List Route → ℕ → Option ℕ
route_of routes address = option_map (λ r. r.via) (longest_route routes address)

-- the key of the prefix that has n bits and holds the address
abbrev pub prefix_key : ℕ → ℕ → PrefixKey
prefix_key n address = record { length = n; network = network n address }

-- two keys are the same
abbrev pub same_key : PrefixKey → PrefixKey → Bool
same_key a b = (a.length == b.length) && (a.network == b.network)

-- the interface of a prefix, by its key
abbrev pub Vias : Type 0
Vias = HashMap PrefixKey ℕ (BuildHasherDefault FoldHasher)

-- how routes are laid out: whether a prefix has so many bits, and the interface of the first route
-- to a prefix
pub record IsLaidOut (routes : List Route) (occurs : List Bool) (vias : Vias) : Type 0 where
  pub lengths : (n address : ℕ) → n < 33 → slice_index_or occurs n false ≡ false
      → find (leads n address) routes ≡ None
  pub leading : (n address : ℕ) → n < 33 → get same_key vias (prefix_key n address)
      ≡ option_map (λ r. r.via) (find (leads n address) routes)
