-- What a node does not send of what its sources make.
use Rattle.std.proofs.Common.{◌≡◌, ℕ, Bool, true, false, cond, List, [], ◌∷◌, map, filter, ◌==◌, ◌&&◌, nat_eq, Option, Some, None, slice_get, refl, sym, ap, subst, arith}
use Rattle.std.specs.List.{list_any}
use Rattle.std.proofs.lemmas.Bool.Decides.{nat_tests}
use Rattle.nm_base.specs.declared.event.Origin.TheVariants.{Source as FromSource}
use Rattle.nm_forward.specs.declared.counter.Counter.TheVariants as Counter
use Rattle.nm_forward.specs.Originate.{Counts, Draft, concluded, originate, originate_by}
use Rattle.nm_forward.specs.Reaction.{datagram_of, handed, handed_by, reaction, request_of}
use Rattle.nm_forward.specs.Routes.{route_of}
use Rattle.nm_forward.specs.State.{NodeStateValue, addresses_at, is_own, state_counted, table_of}
use Rattle.nm_model.proofs.ListLemmas.{not_some, number_tied}
use Rattle.nm_topology.specs.PartValues.{IfaceValue, NodeValue}
use Rattle.nm_topology.specs.TopologyValue.{TopologyValue}
use Rattle.nm_topology.specs.declared.traffic.Source.{Source}
use Rattle.nm_topology.specs.declared.traffic.Traffic.{Traffic}
use Rattle.nm_topology.specs.declared.traffic.Traffic.TheVariants.{Cbr, Echo, Raw}
use Rattle.nm_measure.specs.Ways.{unsent_by, unsent_to}

-- an address is a node's own where one of its interfaces has it
one_more : (v a : ℕ) (x : IfaceValue) (xs : List IfaceValue) (at : Bool) → (x.node == v) ≡ at
    → list_any (λ i. (i.node == v) && (i.address == a)) xs ≡ list_any (nat_eq a) (addresses_at v xs)
    → list_any (λ i. (i.node == v) && (i.address == a)) (x ∷ xs) ≡ list_any (nat_eq a) (map (λ i. i.address) (cond at (x ∷ filter (λ i. i.node == v) xs) (filter (λ i. i.node == v) xs)))
one_more v a x xs true at same = grind (arith, nat_tests, at, same)
one_more v a x xs false at same = grind (arith, nat_tests, at, same)

any_own : (v a : ℕ) (ifaces : List IfaceValue) → list_any (λ i. (i.node == v) && (i.address == a)) ifaces ≡ list_any (nat_eq a) (addresses_at v ifaces)
any_own v a [] = refl
any_own v a (x ∷ xs) = one_more v a x xs (x.node == v) refl (any_own v a xs)

module _ (t : TopologyValue) (v a : ℕ) where
  pub own_there : (n : NodeValue) → slice_get t.nodes v ≡ Some n → list_any (λ i. (i.node == v) && (i.address == a)) t.ifaces ≡ is_own (table_of t v) a
  unfolding table_of
  own_there n there = rw there (any_own v a t.ifaces)

  pub own_absent : slice_get t.nodes v ≡ None → false ≡ is_own (table_of t v) a
  unfolding table_of
  own_absent none = rw none refl

module _ (t : TopologyValue) (n : NodeStateValue) (v : ℕ) (out : Draft) where
  by_route : (r : Option ℕ) → (concluded (originate_by t.ifaces (table_of t v) n.identification out r) n).1 ≡ None → concluded (originate_by t.ifaces (table_of t v) n.identification out r) n ≡ (state_counted Counter.NoRoute n, None)
  by_route None none = refl
  by_route (Some via) none = absurd (not_some _ (sym none))

  unsent : (concluded (originate t.ifaces (table_of t v) n.identification out) n).1 ≡ None → (concluded (originate t.ifaces (table_of t v) n.identification out) n).0 ≡ state_counted (unsent_to (table_of t v) out.destination) n
  unfolding originate
  unsent = go (is_own (table_of t v) out.destination)
    where
      go : (b : Bool) → (concluded (cond b (Counts Counter.ToSelf) (originate_by t.ifaces (table_of t v) n.identification out (route_of (table_of t v).routes out.destination))) n).1 ≡ None
          → (concluded (cond b (Counts Counter.ToSelf) (originate_by t.ifaces (table_of t v) n.identification out (route_of (table_of t v).routes out.destination))) n).0 ≡ state_counted (cond b Counter.ToSelf Counter.NoRoute) n
      go true none = refl
      go false none = ap (λ z. z.0) (by_route (route_of (table_of t v).routes out.destination) none)

-- what is not sent is counted
pub unsent_counts : (t : TopologyValue) (s : Source) (j : ℕ) (n : NodeStateValue) (x : List ℕ) → slice_get t.sources j ≡ Some s → (reaction t s.node n (FromSource j) x).1 ≡ None
    → (reaction t s.node n (FromSource j) x).0 ≡ state_counted (unsent_by (table_of t s.node) s.traffic) n
unfolding reaction
unsent_counts t s j n x at = subst (λ o. (handed_by t s.node n o x).1 ≡ None → (handed_by t s.node n o x).0 ≡ state_counted (unsent_by (table_of t s.node) s.traffic) n) (sym at)
    (subst (λ b. (cond b (handed t.ifaces (table_of t s.node) n s.traffic x) (n, None)).1 ≡ None → (cond b (handed t.ifaces (table_of t s.node) n s.traffic x) (n, None)).0 ≡ state_counted (unsent_by (table_of t s.node) s.traffic) n) (sym (number_tied s.node))
    (by_traffic s.traffic))
  where
    by_traffic : (y : Traffic) → (handed t.ifaces (table_of t s.node) n y x).1 ≡ None → (handed t.ifaces (table_of t s.node) n y x).0 ≡ state_counted (unsent_by (table_of t s.node) y) n
    by_traffic (Cbr c) = unsent t n s.node (datagram_of c x)
    by_traffic (Echo e) = unsent t n s.node (request_of e x)
    by_traffic (Raw r) = λ none. absurd (not_some _ (sym none))
