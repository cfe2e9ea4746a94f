-- The route that is found is the longest that holds the address.
use Rattle.std.proofs.Common.{◌≤◌, ◌≡◌, All, ℕ, zero, suc, ◌<◌, Bool, true, false, cond, List, [], ◌∷◌, Option, Some, None, refl, sym, ap, ◌∙◌, subst, arith, ⊎_elim}
use Rattle.std.specs.Prelude.{Contains, slice_index_or, find, slice_get}
use Rattle.std.specs.Option.{option_map, option_or}
use Rattle.std.proofs.lemmas.Bool.{cases_Bool, cases_eq}
use Rattle.std.proofs.lemmas.Bool.Decides.{nat_tests}
use Rattle.std.proofs.lemmas.List.Elements.{All-cons, All-contains_itself}
use Rattle.nm_topology.specs.declared.parts.Route.{Route}
use Rattle.nm_topology.specs.PartValues.{NodeValue}
use Rattle.nm_topology.specs.TopologyValue.{TopologyValue}
use Rattle.nm_topology.specs.Accepted.{IsInOrder}
use Rattle.nm_forward.specs.Routes.{Holds, IsRouteTo, network, leads, longest_below, longest_route, route_of}
use Rattle.nm_forward.specs.State.{IsIfaceOf, NodeConfiguration, table_from, table_of}

-- what is found is of the list
pub find-all : {X : Type 0} (P : X → Type 0) (p : X → Bool) (xs : List X) (x : X) → All P xs
    → find p xs ≡ Some x → P x
find-all P p [] x a e = cc
find-all P p (y ∷ ys) x a e =
    ⊎_elim
    (λ (t : p y ≡ true). subst P
    (let h : Some y ≡ Some x = sym (ap (λ b. cond b (Some y) (find p ys)) t) ∙ e in cc)
    (a 0 y (omega arith)))
    (λ (f : p y ≡ false). find-all P p ys x (λ k d h. a (suc k) d (omega arith))
    (sym (ap (λ b. cond b (Some y) (find p ys)) f) ∙ e))
    (cases_Bool (p y))

or-cases : (P : Route → Type 0) (o q : Option Route) (r : Route) → ((x : Route) → o ≡ Some x → P x)
    → ((x : Route) → q ≡ Some x → P x) → option_or o q ≡ Some r → P r
or-cases P None q r f g e = g r e
or-cases P (Some x) q r f g e = f r e

pub longest-all : (P : Route → Type 0) (n : ℕ) (routes : List Route) (a : ℕ) (r : Route)
    → All P routes → longest_below n routes a ≡ Some r → P r
unfolding longest_below
longest-all P zero routes a r h e = cc
longest-all P (suc n) routes a r h e =
    or-cases P (find (leads n a) routes) (longest_below n routes a) r
    (λ x. find-all P (leads n a) routes x h) (λ x. longest-all P n routes a x h) e

pub routed-all : (P : ℕ → Type 0) (routes : List Route) (a via : ℕ) → All (λ r. P r.via) routes
    → route_of routes a ≡ Some via → P via
routed-all P routes a via h e =
    mapped (longest_route routes a) (λ r. longest-all (λ r. P r.via) 33 routes a r h) e where
      mapped : (o : Option Route) → ((r : Route) → o ≡ Some r → P r.via)
          → option_map (λ r. r.via) o ≡ Some via → P via
      mapped None f e = cc
      mapped (Some r) f e = subst P (let h : Some r.via ≡ Some via = e in cc) (f r refl)

-- the routes of a node lead by interfaces of its own
pub own_routes : (t : TopologyValue) → IsInOrder t.nodes t.ifaces t.links → (v : ℕ)
    → All (λ r. IsIfaceOf t.ifaces v r.via) (table_of t v).routes
unfolding table_of
own_routes t order v = at (slice_get t.nodes v) (λ n. order.vias v n) where
  at : (o : Option NodeValue)
      → ((n : NodeValue) → o ≡ Some n → All (λ r. IsIfaceOf t.ifaces v r.via) n.routes)
      → All (λ r. IsIfaceOf t.ifaces v r.via) (table_from v t.ifaces o).routes
  at None f = λ k d h. absurd (omega arith)
  at (Some n) f = f n refl

pub own_via : (t : TopologyValue) → IsInOrder t.nodes t.ifaces t.links → (table : NodeConfiguration)
    → table ≡ table_of t table.node → (a via : ℕ) → route_of table.routes a ≡ Some via
    → IsIfaceOf t.ifaces table.node via
own_via t order table is a via e =
    routed-all (IsIfaceOf t.ifaces table.node) table.routes a via
    (subst (λ (x : NodeConfiguration). All (λ r. IsIfaceOf t.ifaces table.node r.via) x.routes) (sym is)
    (own_routes t order table.node)) e

-- what is found passes, and what is not found does not
pub find-passes : {X : Type 0} (p : X → Bool) (xs : List X) (x : X) → find p xs ≡ Some x
    → p x ≡ true
find-passes p [] x e = cc
find-passes p (y ∷ ys) x e =
    ⊎_elim
    (λ (t : p y ≡ true). subst (λ z. p z ≡ true)
    (let h : Some y ≡ Some x = sym (ap (λ b. cond b (Some y) (find p ys)) t) ∙ e in cc) t)
    (λ (f : p y ≡ false). find-passes p ys x (sym (ap (λ b. cond b (Some y) (find p ys)) f) ∙ e))
    (cases_Bool (p y))

pub find-none : {X : Type 0} (p : X → Bool) (xs : List X) → find p xs ≡ None
    → All (λ x. p x ≡ false) xs
find-none p [] e = λ k d h. absurd (omega arith)
find-none p (y ∷ ys) e =
    ⊎_elim
    (λ (t : p y ≡ true). let h : Some y ≡ None =
    sym (ap (λ b. cond b (Some y) (find p ys)) t) ∙ e in cc)
    (λ (f : p y ≡ false). All-cons (λ x. p x ≡ false) y ys f
    (find-none p ys (sym (ap (λ b. cond b (Some y) (find p ys)) f) ∙ e)))
    (cases_Bool (p y))

leads-holds : (n a : ℕ) (r : Route) → leads n a r ≡ true
    → (r.to.length ≡ n) × (network r.to.length r.to.address ≡ network r.to.length a)
leads-holds n a r e =
    let same : r.to.length ≡ n = grind (arith, nat_tests, e) in
    let nets : network n r.to.address ≡ network n a = grind (arith, nat_tests, e) in
    (same, subst (λ k. network k r.to.address ≡ network k a) (sym same) nets)

holds-leads : (a : ℕ) (r : Route) → network r.to.length r.to.address ≡ network r.to.length a
    → leads r.to.length a r ≡ true
holds-leads a r e = grind (arith, nat_tests, e)

-- the route that is found has fewer bits than that, and holds the address
pub longest-holds : (n : ℕ) (routes : List Route) (a : ℕ) (r : Route)
    → longest_below n routes a ≡ Some r
    → (r.to.length < n) × (network r.to.length r.to.address ≡ network r.to.length a)
unfolding longest_below
longest-holds zero routes a r e = cc
longest-holds (suc n) routes a r e =
    or-cases (λ r. (r.to.length < suc n) ×
    (network r.to.length r.to.address ≡ network r.to.length a))
    (find (leads n a) routes) (longest_below n routes a) r
    (λ x f. let h = leads-holds n a x (find-passes (leads n a) routes x f) in (omega arith, h.1))
    (λ x f. let h = longest-holds n routes a x f in (omega arith, h.1)) e

-- a route of fewer than n bits that holds the address is not longer than what is found
abbrev IsBelow : ℕ → ℕ → Option Route → Route → Type 0
IsBelow n a o q =
    q.to.length < n → network q.to.length q.to.address ≡ network q.to.length a
    → (x : Route) × (o ≡ Some x) × (q.to.length ≤ x.to.length)

step-below : (n a : ℕ) (o rest : Option Route) (q : Route)
    → ((x : Route) → o ≡ Some x → x.to.length ≡ n) → (o ≡ None → leads n a q ≡ false)
    → IsBelow n a rest q → IsBelow (suc n) a (option_or o rest) q
step-below n a (Some x) rest q length-is passes below h e =
    (x, refl, let s = length-is x refl in omega arith)
step-below n a None rest q length-is passes below h e =
    ⊎_elim
    (λ (s : q.to.length ≡ n). let t : leads q.to.length a q ≡ true =
    holds-leads a q e in let u : leads n a q ≡ true =
    subst (λ k. leads k a q ≡ true) s t in let v = passes refl in cc)
    (λ (d : q.to.length ≡ n → ⊥). below (omega arith) e)
    (cases_eq q.to.length n)

pub longest-greatest : (n : ℕ) (routes : List Route) (a : ℕ)
    → All (IsBelow n a (longest_below n routes a)) routes
unfolding longest_below
longest-greatest zero routes a = λ k d h lt e. absurd (omega arith)
longest-greatest (suc n) routes a = λ k d h.
    step-below n a (find (leads n a) routes) (longest_below n routes a) (slice_index_or routes k d)
    (λ x f. (leads-holds n a x (find-passes (leads n a) routes x f)).0)
    (λ f. find-none (leads n a) routes f k d h)
    (longest-greatest n routes a k d h)

-- the laws of the longest route
module _ (routes : List Route) (a : ℕ) where
  pub route-found : (r : Route) → longest_route routes a ≡ Some r → Contains routes r × Holds a r
  route-found r e =
      let h = longest-holds 33 routes a r e in (
        longest-all (λ r. Contains routes r) 33 routes a r (All-contains_itself routes) e,
        (omega arith, h.1),
      )

  pub route-longest : (r : Route) → longest_route routes a ≡ Some r
      → All (λ q. Holds a q → q.to.length ≤ r.to.length) routes
  route-longest r e = λ k d h holds.
      let g = longest-greatest 33 routes a k d h (omega arith) holds.1 in
      let same : Some r ≡ Some g.0 = sym e ∙ g.1 in
      let is : r ≡ g.0 = cc in
      subst (λ z. (slice_index_or routes k d).to.length ≤ z.to.length) (sym is) g.2

  pub route-none : longest_route routes a ≡ None → All (λ q. Holds a q → ⊥) routes
  route-none e = λ k d h holds.
      let g = longest-greatest 33 routes a k d h (omega arith) holds.1 in
      let none : None ≡ Some g.0 = sym e ∙ g.1 in
      cc

  pub route-longest_route : IsRouteTo routes a (longest_route routes a)
  route-longest_route = at (longest_route routes a) refl where
    at : (o : Option Route) → longest_route routes a ≡ o → IsRouteTo routes a o
    at None e = route-none e
    at (Some r) e =
        let f = route-found r e in
        record { listed = f.0; holds = f.1; longest = route-longest r e }
