-- What a topology says of a node, and what a walk looks up.
use Rattle.std.proofs.Common.{◌≡◌, ℕ, Bool, true, false, cond, List, [], ◌∷◌, map, filter, ◌==◌, nat_eq, slice_get, Option, Some, None, ap, refl, sym, ◌∙◌, ap₂, arith, zero, suc, length, Bor}
use Rattle.std.specs.List.{ItemBy, list_any}
use Rattle.std.specs.Option.{option_map}
use Rattle.std.proofs.lemmas.Option.{slice_get_past, slice_get_read, slice_get-map}
use Rattle.std.proofs.lemmas.Bool.Decides.{nat_tests}
use Rattle.nm_topology.specs.PartValues.{IfaceValue, NodeValue}
use Rattle.nm_topology.specs.TopologyValue.{TopologyValue}
use Rattle.nm_forward.specs.Routes.{longest_below, route_of}
use Rattle.nm_forward.specs.State.{addresses_at, is_own, table_of}
use Rattle.nm_paths.specs.Walks.{nodes_with, routes_of_all}

-- an element that was looked up, or was not there
got : {X : Type 0} (xs : List X) (i : ℕ) (r : Option (Bor X)) → ItemBy (λ (b : Bor X). b.now) xs i i r
    → option_map (λ b. b.now) r ≡ slice_get xs i
got xs i (Some b) item = sym (slice_get_read xs (length xs) i b.now refl item.3.0 item.1)
got xs i None item = sym (slice_get_past xs i item.3)

module _ {X : Type 0} (xs ys : List X) (i k : ℕ) (r : Option (Bor X)) (same : xs ≡ ys) (at : i ≡ k)
    (item : ItemBy (λ (b : Bor X). b.now) xs i i r) where
  pub got-there : option_map (λ b. b.now) r ≡ slice_get ys k
  got-there = got xs i r item ∙ ap₂ slice_get same at

-- one interface more, at this node or not, and with this address or not
more : (v a : ℕ) (x : IfaceValue) (xs : List IfaceValue) (at has : Bool)
    → (x.node == v) ≡ at → (x.address == a) ≡ has
    → list_any (nat_eq a) (addresses_at v xs) ≡ list_any (nat_eq v) (nodes_with xs a)
    → list_any (nat_eq a) (map (λ i. i.address) (cond at (x ∷ filter (λ i. i.node == v) xs) (filter (λ i. i.node == v) xs)))
    ≡ list_any (nat_eq v) (map (λ i. i.node) (cond has (x ∷ filter (λ i. i.address == a) xs) (filter (λ i. i.address == a) xs)))
more v a x xs true true at has same = grind (arith, nat_tests, at, has, same)
more v a x xs true false at has same = grind (arith, nat_tests, at, has, same)
more v a x xs false true at has same = grind (arith, nat_tests, at, has, same)
more v a x xs false false at has same = same

-- an address is a node's own exactly where the node is among those that have it
pub own_by_holders : (v a : ℕ) (ifaces : List IfaceValue)
    → list_any (nat_eq a) (addresses_at v ifaces) ≡ list_any (nat_eq v) (nodes_with ifaces a)
own_by_holders v a [] = refl
own_by_holders v a (x ∷ xs) =
    more v a x xs (x.node == v) (x.address == a) refl refl (own_by_holders v a xs)

module _ (t : TopologyValue) (v a : ℕ) where
  pub own-there : (n : NodeValue) → slice_get t.nodes v ≡ Some n
      → is_own (table_of t v) a ≡ list_any (nat_eq v) (nodes_with t.ifaces a)
  unfolding table_of
  own-there n there = rw there (own_by_holders v a t.ifaces)

  pub own-absent : slice_get t.nodes v ≡ None → is_own (table_of t v) a ≡ false
  unfolding table_of
  own-absent none = rw none refl

-- nothing leads anywhere
no_route : (n a : ℕ) → longest_below n [] a ≡ None
unfolding longest_below
no_route zero a = refl
no_route (suc n) a = no_route n a

module _ (t : TopologyValue) (v : ℕ) where
  pub routes-there : (n : NodeValue) → slice_get t.nodes v ≡ Some n
      → slice_get (routes_of_all t) v ≡ Some (table_of t v).routes
  unfolding table_of
  routes-there n there = slice_get-map (λ m. m.routes) t.nodes v ∙ ap (option_map (λ m. m.routes)) there ∙ rw there refl

  pub route-absent : (a : ℕ) → slice_get t.nodes v ≡ None → route_of (table_of t v).routes a ≡ None
  unfolding table_of
  route-absent a none = rw none (ap (option_map (λ r. r.via)) (no_route 33 a))
