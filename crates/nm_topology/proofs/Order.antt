-- Tables that pass the tests make a topology that is in order.
use Rattle.std.proofs.Common.{◌≡◌, All, ℕ, zero, suc, ◌+◌, ◌<◌, ◌≤◌, ◌==◌, Bool, true, false, not}
use Rattle.std.proofs.Common.{cond, List, [], ◌∷◌, length, map, Some, Ok, refl, sym, ap, ◌∙◌, subst}
use Rattle.std.proofs.Common.{arith, add-zero, zero-add, ⊎_elim}
use Rattle.std.specs.Prelude.{nat_le, nat_eq, slice_get, slice_index}
use Rattle.std.specs.List.{list_all, list_any}
use Rattle.std.proofs.lemmas.Bool.Decides.{nat_tests}
use Rattle.nm_base.specs.declared.limits.TheConstants.{MAX_CHANNELS, MAX_ROUTES_OF_NODE}
use Rattle.nm_topology.specs.declared.fault.Refusal.{Refusal}
use Rattle.nm_topology.specs.declared.parts.Far.{Far}
use Rattle.nm_topology.specs.declared.parts.Link.{Link}
use Rattle.nm_topology.specs.declared.parts.Route.{Route}
use Rattle.nm_topology.specs.declared.parts.PlacedRoute.{PlacedRoute}
use Rattle.nm_topology.specs.Fault.{◌>>=◌, demand}
use Rattle.nm_topology.specs.Parse.TableValues.{NodeTableValue, IfaceTableValue}
use Rattle.nm_topology.specs.PartValues.{NodeValue, IfaceValue}
use Rattle.nm_topology.specs.ResolvedValue.{ResolvedValue}
use Rattle.nm_topology.specs.Build.{numbers_from, far_by_links, far_ends, routes_at}
use Rattle.nm_topology.specs.Build.{routes_of_nodes, placed_nodes, placed_ifaces, receivers_of}
use Rattle.nm_topology.specs.Validate.{uses, are_used_once, same_route, is_undelayed_cut, tested}
use Rattle.nm_topology.specs.Names.{has_double}
use Rattle.nm_topology.specs.declared.fault.Refusal.TheVariants.{IfaceUse, DoubleAddress}
use Rattle.nm_topology.specs.declared.fault.Refusal.TheVariants.{DoubleRoute, TooMany, CutDelay}
use Rattle.nm_topology.specs.Accepted.{parts_of, owners_of, IsLinked, IsInOrder}
use Rattle.nm_topology.proofs.Ends.{far-a, far-b, far-on, apart, back}
use Rattle.std.proofs.lemmas.List.Elements.{All-cons}
use Rattle.nm_topology.proofs.Uses.{same_or_not}
use Rattle.nm_topology.proofs.Wires.{is_same, is_other}

-- demands that were all met, of which five are asked for
all_met : (b c d s f g : Bool) (o p q r u v : Refusal) → (demand b o >>= λ x. demand c p >>= λ x. demand d q >>= λ x. demand s r >>= λ x. demand f u >>= λ x. demand g v) ≡ Ok tt → (b ≡ true) × (c ≡ true) × (d ≡ true) × (s ≡ true) × (g ≡ true)
all_met true true true true true true o p q r u v e = (refl, refl, refl, refl, refl)
all_met true true true true true false o p q r u v e = cc
all_met true true true true false g o p q r u v e = cc
all_met true true true false f g o p q r u v e = cc
all_met true true false s f g o p q r u v e = cc
all_met true false d s f g o p q r u v e = cc
all_met false c d s f g o p q r u v e = cc

-- elements by number
pub numbered-at : {X : Type 0} (f : ℕ → X) (n j i : ℕ) (x : X) → slice_get (map f (numbers_from j n)) i ≡ Some x → (i < n) × (x ≡ f (j + i))
numbered-at f zero j i x e = cc
numbered-at f (suc n) j zero x e = (omega arith, grind (arith, e, add-zero))
numbered-at f (suc n) j (suc i) x e =
    let h = numbered-at f n (suc j) i x e in
    (omega (arith, h.0), h.1 ∙ ap f (omega arith))

pub each-number : (p : ℕ → Bool) (n j i : ℕ) → list_all p (numbers_from j n) ≡ true → i < n → p (j + i) ≡ true
each-number p zero j i e h = absurd (omega arith)
each-number p (suc n) j zero e h = grind (arith, e, add-zero)
each-number p (suc n) j (suc i) e h = ap p (omega arith) ∙ each-number p n (suc j) i (grind (arith, e)) (omega arith)

pub used-once : (n : ℕ) (links : List Link) (i : ℕ) → are_used_once n links ≡ true → i < n → uses i links ≡ 1
used-once n links i e h = grind (arith, nat_tests, each-number (λ j. uses j links == 1) n 0 i e h)

-- nodes and interfaces as they are placed
pub nodes-parts : (tables : List NodeTableValue) (node_routes : List (List Route)) → length node_routes ≡ length tables → parts_of (placed_nodes tables node_routes) ≡ map (λ n. n.partition) tables
nodes-parts [] ts e = refl
nodes-parts (n ∷ ns) [] e = absurd (omega arith)
nodes-parts (n ∷ ns) (t ∷ ts) e = ap (λ ps. n.partition ∷ ps) (nodes-parts ns ts (omega arith))

pub nodes-length : (tables : List NodeTableValue) (node_routes : List (List Route)) → length node_routes ≡ length tables → length (placed_nodes tables node_routes) ≡ length tables
nodes-length [] ts e = refl
nodes-length (n ∷ ns) [] e = absurd (omega arith)
nodes-length (n ∷ ns) (t ∷ ts) e = ap suc (nodes-length ns ts (omega arith))

pub node-routes : (tables : List NodeTableValue) (node_routes : List (List Route)) (k : ℕ) (n : NodeValue) → slice_get (placed_nodes tables node_routes) k ≡ Some n → slice_get node_routes k ≡ Some n.routes
node-routes [] ts k n e = cc
node-routes (m ∷ ms) [] k n e = cc
node-routes (m ∷ ms) (t ∷ ts) zero n e = cc
node-routes (m ∷ ms) (t ∷ ts) (suc k) n e = node-routes ms ts k n e

pub ifaces-owners : (tables : List IfaceTableValue) (owners : List ℕ) (far : List Far) → length owners ≡ length tables → length far ≡ length tables → owners_of (placed_ifaces tables owners far) ≡ owners
ifaces-owners [] [] fs e h = refl
ifaces-owners [] (o ∷ os) fs e h = absurd (omega arith)
ifaces-owners (i ∷ is) [] fs e h = refl
ifaces-owners (i ∷ is) (o ∷ os) [] e h = absurd (omega arith)
ifaces-owners (i ∷ is) (o ∷ os) (f ∷ fs) e h = ap (λ ns. o ∷ ns) (ifaces-owners is os fs (omega arith) (omega arith))

pub ifaces-length : (tables : List IfaceTableValue) (owners : List ℕ) (far : List Far) → length owners ≡ length tables → length far ≡ length tables → length (placed_ifaces tables owners far) ≡ length tables
ifaces-length [] os fs e h = refl
ifaces-length (i ∷ is) [] fs e h = absurd (omega arith)
ifaces-length (i ∷ is) (o ∷ os) [] e h = absurd (omega arith)
ifaces-length (i ∷ is) (o ∷ os) (f ∷ fs) e h = ap suc (ifaces-length is os fs (omega arith) (omega arith))

pub iface-far : (tables : List IfaceTableValue) (owners : List ℕ) (far : List Far) (i : ℕ) (x : IfaceValue) → slice_get (placed_ifaces tables owners far) i ≡ Some x → slice_get far i ≡ Some x.far
iface-far [] os fs i x e = cc
iface-far (r ∷ rs) [] fs i x e = cc
iface-far (r ∷ rs) (o ∷ os) [] i x e = cc
iface-far (r ∷ rs) (o ∷ os) (f ∷ fs) zero x e = cc
iface-far (r ∷ rs) (o ∷ os) (f ∷ fs) (suc i) x e = iface-far rs os fs i x e

pub ifaces-nodes : (P : ℕ → Type 0) (tables : List IfaceTableValue) (owners : List ℕ) (far : List Far) → All P owners → All (λ x. P x.node) (placed_ifaces tables owners far)
ifaces-nodes P [] os fs a = λ k d h. absurd (omega arith)
ifaces-nodes P (i ∷ is) [] fs a = λ k d h. absurd (omega arith)
ifaces-nodes P (i ∷ is) (o ∷ os) [] a = λ k d h. absurd (omega arith)
ifaces-nodes P (i ∷ is) (o ∷ os) (f ∷ fs) a =
    All-cons (λ x. P x.node) (record { name = i.name; node = o; address = i.address; queue = i.queue; queue_octets = i.queue_octets; far = f }) (placed_ifaces is os fs)
    (a 0 0 (omega arith)) (ifaces-nodes P is os fs (λ k d h. a (suc k) d (omega arith)))

-- the routes of a node, of routes that all have a property
pub routes-own : (P : PlacedRoute → Type 0) (j : ℕ) (routes : List PlacedRoute) → All P routes → All (λ r. P (record { node = j; route = r })) (routes_at j routes)
routes-own P j [] a = λ k d h. absurd (omega arith)
routes-own P j (r ∷ rs) a =
    let rest = routes-own P j rs (λ k d h. a (suc k) d (omega arith)) in
    ⊎_elim
    (λ e. subst (λ b. All (λ r. P (record { node = j; route = r })) (cond b (r.route ∷ routes_at j rs) (routes_at j rs))) (sym (is_same r.node j e))
    (All-cons (λ r. P (record { node = j; route = r })) r.route (routes_at j rs) (subst (λ k. P (record { node = k; route = r.route })) e (a 0 r (omega arith))) rest))
    (λ e. subst (λ b. All (λ r. P (record { node = j; route = r })) (cond b (r.route ∷ routes_at j rs) (routes_at j rs))) (sym (is_other r.node j e)) rest)
    (same_or_not r.node j)

-- a test that none passes
pub none-passes : {X : Type 0} (p : X → Bool) (xs : List X) → list_any p xs ≡ false → All (λ x. p x ≡ false) xs
none-passes p [] e = λ k d h. absurd (omega arith)
none-passes p (x ∷ xs) e = All-cons (λ x. p x ≡ false) x xs (grind (arith, e)) (none-passes p xs (grind (arith, e)))

-- a test that each passes
pub each-passes : {X : Type 0} (p : X → Bool) (xs : List X) (i : ℕ) (x : X) → list_all p xs ≡ true → slice_get xs i ≡ Some x → p x ≡ true
each-passes p [] i x e h = cc
each-passes p (y ∷ ys) zero x e h = grind (arith, e, h)
each-passes p (y ∷ ys) (suc i) x e h = each-passes p ys i x (grind (arith, e)) h

pub numbers-length : {X : Type 0} (f : ℕ → X) (n j : ℕ) → length (map f (numbers_from j n)) ≡ n
numbers-length f zero j = refl
numbers-length f (suc n) j = ap suc (numbers-length f n (suc j))

pub far-within : (ls : List Link) (i n : ℕ) → i < n → All (λ l. (l.a < n) × (l.b < n)) ls → (far_by_links i ls).iface < n
far-within [] i n h a = h
far-within (l ∷ ls) i n h a =
    let ends = a 0 l (omega arith) in
    let rest = far-within ls i n h (λ k d g. a (suc k) d (omega arith)) in
    ⊎_elim
    (λ e. subst (λ f. f.iface < n) (sym (far-a l ls i e)) ends.1)
    (λ e. ⊎_elim
    (λ f. subst (λ g. g.iface < n) (sym (far-b l ls i e f)) ends.0)
    (λ f. subst (λ g. g.iface < n) (sym (far-on l ls i e f)) rest)
    (same_or_not l.b i))
    (same_or_not l.a i)

pub is_false : (b : Bool) → not b ≡ true → b ≡ false
is_false true e = cc
is_false false e = refl

-- what the tests of the whole ask
pub record Passed (parts addresses : List ℕ) (nodes ifaces : ℕ) (t : ResolvedValue) : Type 0 where
  pub used : are_used_once ifaces t.links ≡ true
  pub different : has_double nat_eq addresses ≡ false
  pub single : has_double same_route t.routes ≡ false
  pub short : list_all (λ rs. nat_le (length rs) MAX_ROUTES_OF_NODE) (routes_of_nodes nodes t.routes) ≡ true
  pub cuts : list_any (is_undelayed_cut parts t.owners) t.links ≡ false

pub passed : (parts addresses : List ℕ) (nodes ifaces : ℕ) (t : ResolvedValue) → tested parts addresses nodes ifaces t ≡ Ok tt → Passed parts addresses nodes ifaces t
passed parts addresses nodes ifaces t e =
    let short : Bool = list_all (λ rs. nat_le (length rs) MAX_ROUTES_OF_NODE) (routes_of_nodes nodes t.routes) in
    let cut : Bool = list_any (is_undelayed_cut parts t.owners) t.links in
    let h = all_met (are_used_once ifaces t.links) (not (has_double nat_eq addresses)) (not (has_double same_route t.routes)) short
    (nat_le (length (receivers_of parts t.owners (far_ends ifaces t.links))) MAX_CHANNELS) (not cut)
    IfaceUse DoubleAddress DoubleRoute TooMany TooMany CutDelay e in
    record {
      used = h.0;
      different = is_false (has_double nat_eq addresses) h.1;
      single = is_false (has_double same_route t.routes) h.2;
      short = h.3;
      cuts = is_false cut h.4;
    }

module _ (tables : List NodeTableValue) (faces : List IfaceTableValue) (t : ResolvedValue) (addresses : List ℕ)
    (same : length t.owners ≡ length faces)
    (owned : All (λ o. o < length tables) t.owners)
    (ends : All (λ l. (l.a < length faces) × (l.b < length faces)) t.links)
    (vias : All (λ r. (r.route.via < length faces) × (slice_index t.owners r.route.via ≡ r.node)) t.routes)
    (e : tested (map (λ n. n.partition) tables) addresses (length tables) (length faces) t ≡ Ok tt) where
  abbrev node_routes : List (List Route)
  node_routes = routes_of_nodes (length tables) t.routes

  abbrev far : List Far
  far = far_ends (length faces) t.links

  abbrev nodes : List NodeValue
  nodes = placed_nodes tables node_routes

  abbrev ifaces : List IfaceValue
  ifaces = placed_ifaces faces t.owners far

  pass : Passed (map (λ n. n.partition) tables) addresses (length tables) (length faces) t
  pass = passed (map (λ n. n.partition) tables) addresses (length tables) (length faces) t e

  node_routes-length : length node_routes ≡ length tables
  node_routes-length = numbers-length (λ j. routes_at j t.routes) (length tables) 0

  far-length : length far ≡ length faces
  far-length = numbers-length (λ i. far_by_links i t.links) (length faces) 0

  owners-are : owners_of ifaces ≡ t.owners
  owners-are = ifaces-owners faces t.owners far same far-length

  count-is : length ifaces ≡ length faces
  count-is = ifaces-length faces t.owners far same far-length

  linked : (i : ℕ) (x : IfaceValue) → slice_get ifaces i ≡ Some x → IsLinked ifaces t.links i x
  linked i x h =
      let at = numbered-at (λ j. far_by_links j t.links) (length faces) 0 i x.far (iface-far faces t.owners far i x h) in
      let once : uses i t.links ≡ 1 = used-once (length faces) t.links i pass.used at.0 in
      let far-is : x.far ≡ far_by_links i t.links = at.1 ∙ ap (λ j. far_by_links j t.links) (zero-add i) in
      let far_end : (far_by_links i t.links).iface < length faces = far-within t.links i (length faces) at.0 ends in
      record {
        once = once;
        far = far-is;
        within = subst (λ f. f.iface < length ifaces) (sym far-is) (subst (λ m. (far_by_links i t.links).iface < m) (sym count-is) far_end);
        apart = λ g. apart t.links i once (ap (λ f. f.iface) (sym far-is) ∙ g);
        back = subst (λ f. far_by_links f.iface t.links ≡ record { iface = i; rate = f.rate; delay = f.delay }) (sym far-is)
            (back t.links i once (used-once (length faces) t.links (far_by_links i t.links).iface pass.used far_end));
      }

  owners : All (λ x. x.node < length nodes) ifaces
  owners = subst (λ m. All (λ x. x.node < m) ifaces) (sym (nodes-length tables node_routes node_routes-length)) (ifaces-nodes (λ o. o < length tables) faces t.owners far owned)

  via-own : (k : ℕ) (n : NodeValue) → slice_get nodes k ≡ Some n → All (λ r. (r.via < length ifaces) × (slice_index (owners_of ifaces) r.via ≡ k)) n.routes
  via-own k n h =
      let at = numbered-at (λ j. routes_at j t.routes) (length tables) 0 k n.routes (node-routes tables node_routes k n h) in
      let own : n.routes ≡ routes_at k t.routes = at.1 ∙ ap (λ j. routes_at j t.routes) (zero-add k) in
      subst (λ rs. All (λ r. (r.via < length ifaces) × (slice_index (owners_of ifaces) r.via ≡ k)) rs) (sym own)
      (subst (λ m. All (λ r. (r.via < m) × (slice_index (owners_of ifaces) r.via ≡ k)) (routes_at k t.routes)) (sym count-is)
      (subst (λ os. All (λ r. (r.via < length faces) × (slice_index os r.via ≡ k)) (routes_at k t.routes)) (sym owners-are)
      (routes-own (λ r. (r.route.via < length faces) × (slice_index t.owners r.route.via ≡ r.node)) k t.routes vias)))

  short : (k : ℕ) (n : NodeValue) → slice_get nodes k ≡ Some n → length n.routes ≤ MAX_ROUTES_OF_NODE
  short k n h = grind (arith, nat_tests, each-passes (λ rs. nat_le (length rs) MAX_ROUTES_OF_NODE) node_routes k n.routes pass.short (node-routes tables node_routes k n h))

  cuts : All (λ l. is_undelayed_cut (parts_of nodes) (owners_of ifaces) l ≡ false) t.links
  cuts =
      subst (λ ps. All (λ l. is_undelayed_cut ps (owners_of ifaces) l ≡ false) t.links) (sym (nodes-parts tables node_routes node_routes-length))
      (subst (λ os. All (λ l. is_undelayed_cut (map (λ n. n.partition) tables) os l ≡ false) t.links) (sym owners-are)
      (none-passes (is_undelayed_cut (map (λ n. n.partition) tables) t.owners) t.links pass.cuts))

  pub in_order : IsInOrder nodes ifaces t.links
  in_order = record { linked = linked; owners = owners; vias = via-own; few_routes = short; cuts = cuts }
