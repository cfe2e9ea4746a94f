-- Tables that pass the tests make a topology with no doubles.
use Rattle.std.proofs.Common.{◌≡◌, ◌≢◌, All, AllPairs, ℕ, suc, ◌==◌, ◌&&◌, Bool, true, false, cond}
use Rattle.std.proofs.Common.{if◌then◌else◌, List, [], ◌∷◌, length, map, get_or, nat_eq, Result, Ok}
use Rattle.std.proofs.Common.{Err, refl, sym, ap, ◌∙◌, subst, arith, zero-add, ⊎_elim}
use Rattle.std.specs.Str.{bytes_eq}
use Rattle.std.proofs.lemmas.Bool.Decides.{nat_tests}
use Rattle.std.proofs.lemmas.List.Elements.{All-weaker}
use Rattle.std.proofs.lemmas.List.Kept.{AllPairs-cons}
use Rattle.std.proofs.lemmas.Option.{slice_get-get_or}
use Rattle.std.proofs.lemmas.Slice.Eq.{bytes_eq-Decides}
use Rattle.nm_topology.specs.declared.fault.Refusal.{Refusal}
use Rattle.nm_topology.specs.declared.fault.Refusal.TheVariants.{DoubleName}
use Rattle.nm_topology.specs.declared.parts.Far.{Far}
use Rattle.nm_topology.specs.declared.parts.PlacedRoute.{PlacedRoute}
use Rattle.nm_topology.specs.declared.parts.Route.{Route}
use Rattle.nm_topology.specs.Fault.{◌>>=◌}
use Rattle.nm_topology.specs.Parse.SourceTableValue.{SourceTableValue}
use Rattle.nm_topology.specs.Parse.TableValues.{NodeTableValue, IfaceTableValue, LinkTableValue}
use Rattle.nm_topology.specs.Parse.TableValues.{RouteTableValue}
use Rattle.nm_topology.specs.PartValues.{NodeValue, IfaceValue}
use Rattle.nm_topology.specs.ResolvedValue.{ResolvedValue}
use Rattle.nm_topology.specs.Build.{routes_at, routes_of_nodes, placed_nodes, placed_ifaces}
use Rattle.nm_topology.specs.Names.{has_double}
use Rattle.nm_topology.specs.Resolve.{resolved, resolved_by}
use Rattle.nm_topology.specs.Validate.{same_route}
use Rattle.nm_topology.specs.Accepted.{HasNoDoubles}
use Rattle.nm_topology.proofs.Doubles.{all_apart, keys-differ}
use Rattle.nm_topology.proofs.Order.{numbered-at, node-routes, routes-own}
use Rattle.nm_topology.proofs.Uses.{same_or_not}
use Rattle.nm_topology.proofs.Wires.{is_same, is_other}

-- names that were numbered are no doubles
named : {B : Type 0} (b c : Bool) (ns is : List (List ℕ)) (f : List (List ℕ) → List (List ℕ) → Result B Refusal) (y : B) → ((if b then Err DoubleName else Ok ns) >>= λ n. (if c then Err DoubleName else Ok is) >>= λ i. f n i) ≡ Ok y → (b ≡ false) × (c ≡ false)
named false false ns is f y e = (refl, refl)
named false true ns is f y e = cc
named true c ns is f y e = cc

names-differ : (ns : List NodeTableValue) (is : List IfaceTableValue) (ls : List LinkTableValue) (rs : List RouteTableValue) (ss : List SourceTableValue) (t : ResolvedValue) → resolved ns is ls rs ss ≡ Ok t → (has_double bytes_eq (map (λ n. n.name) ns) ≡ false) × (has_double bytes_eq (map (λ i. i.name) is) ≡ false)
unfolding resolved
names-differ ns is ls rs ss t e =
    named (has_double bytes_eq (map (λ n. n.name) ns)) (has_double bytes_eq (map (λ i. i.name) is)) (map (λ n. n.name) ns) (map (λ i. i.name) is)
    (λ n i. resolved_by n i is ls rs ss) t e

-- what is placed has the names and addresses of its tables
nodes-names : (tables : List NodeTableValue) (node_routes : List (List Route)) → length node_routes ≡ length tables → map (λ n. n.name) tables ≡ map (λ n. n.name) (placed_nodes tables node_routes)
nodes-names [] ts e = refl
nodes-names (n ∷ ns) [] e = absurd (omega arith)
nodes-names (n ∷ ns) (t ∷ ts) e = ap (λ ps. n.name ∷ ps) (nodes-names ns ts (omega arith))

ifaces-names : (tables : List IfaceTableValue) (owners : List ℕ) (far : List Far) → length owners ≡ length tables → length far ≡ length tables → map (λ i. i.name) tables ≡ map (λ i. i.name) (placed_ifaces tables owners far)
ifaces-names [] os fs e h = refl
ifaces-names (i ∷ is) [] fs e h = absurd (omega arith)
ifaces-names (i ∷ is) (o ∷ os) [] e h = absurd (omega arith)
ifaces-names (i ∷ is) (o ∷ os) (f ∷ fs) e h = ap (λ ps. i.name ∷ ps) (ifaces-names is os fs (omega arith) (omega arith))

ifaces-addresses : (tables : List IfaceTableValue) (owners : List ℕ) (far : List Far) → length owners ≡ length tables → length far ≡ length tables → map (λ i. i.address) tables ≡ map (λ i. i.address) (placed_ifaces tables owners far)
ifaces-addresses [] os fs e h = refl
ifaces-addresses (i ∷ is) [] fs e h = absurd (omega arith)
ifaces-addresses (i ∷ is) (o ∷ os) [] e h = absurd (omega arith)
ifaces-addresses (i ∷ is) (o ∷ os) (f ∷ fs) e h = ap (λ ps. i.address ∷ ps) (ifaces-addresses is os fs (omega arith) (omega arith))

-- routes of one node that are no doubles have different prefixes
unlike : (j n a b l m : ℕ) → n ≡ j → a ≡ b → l ≡ m → (((j == n) && (b == a)) && (m == l)) ≡ false → ⊥
unlike j n a b l m e f g h = grind (arith, nat_tests)

prefixes-differ : (j : ℕ) (rs : List PlacedRoute) → AllPairs (λ r s. same_route s r ≡ false) rs → AllPairs (λ r s. r.to ≢ s.to) (routes_at j rs)
prefixes-differ j [] a = λ x y d l w. absurd (omega arith)
prefixes-differ j (r ∷ rs) a =
    let rest = prefixes-differ j rs (λ x y d l w. a (suc x) (suc y) d (omega arith) (omega arith)) in
    let others = routes-own (λ s. same_route s r ≡ false) j rs (λ k d h. a 0 (suc k) d (omega arith) (omega arith)) in
    let P : List Route → Type 0 = λ ps. AllPairs (λ p q. p.to ≢ q.to) ps in
    ⊎_elim
    (λ e. subst (λ b. P (cond b (r.route ∷ routes_at j rs) (routes_at j rs))) (sym (is_same r.node j e))
    (AllPairs-cons (λ p q. p.to ≢ q.to) r.route (routes_at j rs)
    (All-weaker (λ p. same_route (record { node = j; route = p }) r ≡ false) (λ p. r.route.to ≢ p.to)
    (λ p h same. unlike j r.node r.route.to.address p.to.address r.route.to.length p.to.length e (ap (λ x. x.address) same) (ap (λ x. x.length) same) h)
    (routes_at j rs) others) rest))
    (λ e. subst (λ b. P (cond b (r.route ∷ routes_at j rs) (routes_at j rs))) (sym (is_other r.node j e)) rest)
    (same_or_not r.node j)

equal_numbers : (n : ℕ) → nat_eq n n ≡ true
equal_numbers n = grind (arith, nat_tests)

module _ (tables : List NodeTableValue) (faces : List IfaceTableValue) (links : List LinkTableValue) (routes : List RouteTableValue)
    (sources : List SourceTableValue) (t : ResolvedValue) (far : List Far)
    (read : resolved tables faces links routes sources ≡ Ok t)
    (owned : length t.owners ≡ length faces)
    (fars : length far ≡ length faces)
    (addressed : has_double nat_eq (map (λ i. i.address) faces) ≡ false)
    (routed : has_double same_route t.routes ≡ false) where
  abbrev node_routes : List (List Route)
  node_routes = routes_of_nodes (length tables) t.routes

  abbrev nodes : List NodeValue
  nodes = placed_nodes tables node_routes

  abbrev ifaces : List IfaceValue
  ifaces = placed_ifaces faces t.owners far

  prefixes : All (λ n. AllPairs (λ r s. r.to ≢ s.to) n.routes) nodes
  prefixes k d h =
      let at = numbered-at (λ j. routes_at j t.routes) (length tables) 0 k (get_or nodes k d).routes
      (node-routes tables node_routes k (get_or nodes k d) (slice_get-get_or nodes k d h)) in
      let own : (get_or nodes k d).routes ≡ routes_at k t.routes = at.1 ∙ ap (λ j. routes_at j t.routes) (zero-add k) in
      subst (λ rs. AllPairs (λ r s. r.to ≢ s.to) rs) (sym own) (prefixes-differ k t.routes (all_apart same_route t.routes routed))

  pub no_doubles : length node_routes ≡ length tables → HasNoDoubles nodes ifaces
  no_doubles count =
      let names = names-differ tables faces links routes sources t read in
      let equal : (s : List ℕ) → bytes_eq s s ≡ true = λ s. (bytes_eq-Decides s s).1 refl in
      record {
        node_names = keys-differ bytes_eq (λ n. n.name) equal nodes (ap (has_double bytes_eq) (sym (nodes-names tables node_routes count)) ∙ names.0);
        iface_names = keys-differ bytes_eq (λ i. i.name) equal ifaces (ap (has_double bytes_eq) (sym (ifaces-names faces t.owners far owned fars)) ∙ names.1);
        addresses = keys-differ nat_eq (λ i. i.address) equal_numbers ifaces (ap (has_double nat_eq) (sym (ifaces-addresses faces t.owners far owned fars)) ∙ addressed);
        prefixes = prefixes;
      }
