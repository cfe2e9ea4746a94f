-- Lines of values, one behind another.
use Rattle.std.proofs.Common.{◌≡◌, ℕ, zero, suc, ◌+◌, ◌<◌, All, ⊎_elim, List, [], ◌∷◌, ◌++◌, length, take, Some, slice_get, refl, sym, ap, ◌∙◌, arith, append_assoc, append-nil, OnOk, Result, Ok, Err, Option, None, true, cond, ltb, ◌&&◌, unwrap_or, codes, slice_index, inl, inr, subst}
use Rattle.std.specs.Prelude.{IsSomeAnd}
use Rattle.std.proofs.lemmas.List.Elements.{All-get_or}
use Rattle.std.proofs.lemmas.Option.{get_or_from_slice_get, slice_get_cases, slice_get_within}
use Rattle.nm_topology.specs.Accepted.{IsPlaced, LeavesByOwn, owners_of}
use Rattle.nm_topology.specs.declared.traffic.Source.{Source}
use Rattle.std.proofs.lemmas.Bool.Decides.{nat_tests}
use Rattle.nm_base.specs.Count.{saturated}
use Rattle.nm_forward.specs.Counter.{counter_name, counter_number}
use Rattle.nm_forward.specs.State.{NodeStateValue}
use Rattle.nm_forward.specs.declared.counter.Counter.{Counter}
use Rattle.nm_forward.specs.declared.counter.TheConstants.Counter.{ALL}
use Rattle.nm_model.specs.Run.{State, one_list}
use Rattle.nm_sim.specs.Network.{net_of}
use Rattle.nm_sim.specs.Part.{count_at, drops_at}
use Rattle.nm_measure.specs.Drops.{drops_of}
use Rattle.nm_model.proofs.ListLemmas.{not_some, some_inj}
use Rattle.nm_topology.specs.PartValues.{IfaceValue, NodeValue}
use Rattle.nm_topology.specs.TopologyValue.{TopologyValue}
use Rattle.nm_measure.specs.Lines.{EndsLine}
use Rattle.nm_report.specs.Sources.{name_cells}
use Rattle.nm_report.specs.Values.{AreWholeLines, all_counts, all_values, iface_values, node_counts, value_line}

pub on_ok : {T E : Type 0} {P Q : Type 0} (r : Result T E) → (P → Q) → OnOk r P → OnOk r Q
on_ok (Ok x) f h = f h
on_ok (Err e) f h = tt

-- so many texts, one behind another
pub two_pieces : (a b c d old one two : List ℕ) → one ≡ old ++ a → two ≡ one ++ b → a ≡ c → b ≡ d → two ≡ old ++ (c ++ d)
two_pieces a b c d old one two h1 h2 ac bd = h2 ∙ ap (λ t. t ++ b) h1 ∙ append_assoc old a b ∙ (λ k. old ++ (ac k ++ bd k))

pub three_pieces : (a b c old one two three : List ℕ) → one ≡ old ++ a → two ≡ one ++ b → three ≡ two ++ c → three ≡ old ++ (a ++ b ++ c)
three_pieces a b c old one two three h1 h2 h3 = h3 ∙ ap (λ t. t ++ c) (h2 ∙ ap (λ t. t ++ b) h1) ∙ simp append_assoc

pub four_pieces : (a b c d old one two three four : List ℕ) → one ≡ old ++ a → two ≡ one ++ b → three ≡ two ++ c → four ≡ three ++ d → four ≡ old ++ (a ++ b ++ c ++ d)
four_pieces a b c d old one two three four h1 h2 h3 h4 = h4 ∙ ap (λ t. t ++ d) (h3 ∙ ap (λ t. t ++ c) (h2 ∙ ap (λ t. t ++ b) h1)) ∙ simp append_assoc

-- a line, put together
pub line_pieces : (kind name measure value old one two three four five six seven eight : List ℕ)
    → one ≡ old ++ kind → two ≡ one ++ codes "," → three ≡ two ++ name → four ≡ three ++ codes "," → five ≡ four ++ measure → six ≡ five ++ codes ","
    → seven ≡ six ++ value → eight ≡ seven ++ codes "\n" → eight ≡ old ++ (kind ++ codes "," ++ name ++ codes "," ++ measure ++ codes "," ++ value ++ codes "\n")
line_pieces kind name measure value old one two three four five six seven eight h1 h2 h3 h4 h5 h6 h7 h8 =
    h8 ∙ ap (λ t. t ++ codes "\n") (h7 ∙ ap (λ t. t ++ value) (h6 ∙ ap (λ t. t ++ codes ",") (h5 ∙ ap (λ t. t ++ measure) (h4 ∙ ap (λ t. t ++ codes ",") (h3 ∙ ap (λ t. t ++ name)
    (h2 ∙ ap (λ t. t ++ codes ",") h1)))))) ∙ simp append_assoc

-- whole lines behind others
pub ends_behind : (old more new : List ℕ) → new ≡ old ++ more → EndsLine more → EndsLine new
ends_behind old more new is h = record { front = old ++ h.front; is = is ∙ ap (λ l. old ++ l) h.is ∙ sym (append_assoc old h.front (10 ∷ [])) }

take_more : {X : Type 0} (xs : List X) (i : ℕ) (x : X) → slice_get xs i ≡ Some x → (take (i + 1) xs ≡ take i xs ++ x ∷ []) × (length (take i xs) ≡ i)
take_more [] i x h = absurd (not_some x h)
take_more (y ∷ xs) zero x h = (ap (λ z. z ∷ []) (some_inj y x h), refl)
take_more (y ∷ xs) (suc i) x h =
    let e : suc i + 1 ≡ suc (i + 1) = omega arith in
    let z = take_more xs i x h in
    (ap (λ n. take n (y ∷ xs)) e ∙ ap (λ l. y ∷ l) z.0, ap suc z.1)

-- one interface more
module _ (t : TopologyValue) (events : ℕ) where
  pub values_push : (i : ℕ) (xs : List IfaceValue) (x : IfaceValue) → all_values t events i (xs ++ x ∷ []) ≡ all_values t events i xs ++ iface_values t events (i + length xs) x.name
  values_push i [] x = let e : i + 0 ≡ i = omega arith in append-nil (iface_values t events i x.name) ∙ ap (λ k. iface_values t events k x.name) (sym e)
  values_push i (y ∷ xs) x =
      let e : suc i + length xs ≡ i + suc (length xs) = omega arith in
      ap (λ l. iface_values t events i y.name ++ l) (values_push (suc i) xs x)
      ∙ sym (append_assoc (iface_values t events i y.name) (all_values t events (suc i) xs) (iface_values t events (suc i + length xs) x.name))
      ∙ ap (λ k. (iface_values t events i y.name ++ all_values t events (suc i) xs) ++ iface_values t events k x.name) e

  pub values_more : (ifaces : List IfaceValue) (n : ℕ) (x : IfaceValue) (k : ℕ) (name old new : List ℕ) → slice_get ifaces n ≡ Some x → k ≡ n → name ≡ x.name
      → old ≡ all_values t events 0 (take n ifaces) → new ≡ old ++ iface_values t events k name → new ≡ all_values t events 0 (take (n + 1) ifaces)
  values_more ifaces n x k name old new at same named so_far more =
      let z = take_more ifaces n x at in
      let e : 0 + length (take n ifaces) ≡ n = let l = z.1 in omega (arith, l) in
      more ∙ (λ j. so_far j ++ iface_values t events (same j) (named j))
      ∙ ap (λ m. all_values t events 0 (take n ifaces) ++ iface_values t events m x.name) (sym e)
      ∙ sym (values_push 0 (take n ifaces) x) ∙ ap (all_values t events 0) (sym z.0)

-- whole lines behind others, or nothing
pub ends_behind_whole : (old more new : List ℕ) → new ≡ old ++ more → EndsLine old → AreWholeLines more → EndsLine new
ends_behind_whole old more new is ends (inl none) = let e : new ≡ old = is ∙ ap (λ l. old ++ l) none ∙ append-nil old in subst EndsLine (sym e) ends
ends_behind_whole old more new is ends (inr h) = ends_behind old more new is h

-- one counter more, and one node more
module _ (t : TopologyValue) (events : ℕ) where
  counts_push : (v : ℕ) (name : List ℕ) (cs : List Counter) (c : Counter)
      → node_counts t events v name (cs ++ c ∷ []) ≡ node_counts t events v name cs
      ++ value_line (codes "node") name (counter_name c) (slice_index ((one_list (net_of t) events).node v).counters (counter_number c))
  counts_push v name [] c = append-nil (value_line (codes "node") name (counter_name c) (slice_index ((one_list (net_of t) events).node v).counters (counter_number c)))
  counts_push v name (d ∷ cs) c =
      let first = value_line (codes "node") name (counter_name d) (slice_index ((one_list (net_of t) events).node v).counters (counter_number d)) in
      let last = value_line (codes "node") name (counter_name c) (slice_index ((one_list (net_of t) events).node v).counters (counter_number c)) in
      ap (λ l. first ++ l) (counts_push v name cs c) ∙ sym (append_assoc first (node_counts t events v name cs) last)

  pub counts_more : (cs : List Counter) (n : ℕ) (c : Counter) (v count : ℕ) (name front old new : List ℕ) → slice_get cs n ≡ Some c
      → count ≡ slice_index ((one_list (net_of t) events).node v).counters (counter_number c)
      → old ≡ front ++ node_counts t events v name (take n cs) → new ≡ old ++ value_line (codes "node") name (counter_name c) count
      → new ≡ front ++ node_counts t events v name (take (n + 1) cs)
  counts_more cs n c v count name front old new at is so_far more =
      let z = take_more cs n c at in
      let so = node_counts t events v name (take n cs) in
      let last = value_line (codes "node") name (counter_name c) (slice_index ((one_list (net_of t) events).node v).counters (counter_number c)) in
      more ∙ (λ j. so_far j ++ value_line (codes "node") name (counter_name c) (is j)) ∙ append_assoc front so last
      ∙ ap (λ l. front ++ l) (sym (counts_push v name (take n cs) c) ∙ ap (node_counts t events v name) (sym z.0))

  counts_node : (v : ℕ) (xs : List NodeValue) (x : NodeValue) → all_counts t events v (xs ++ x ∷ []) ≡ all_counts t events v xs ++ node_counts t events (v + length xs) x.name ALL
  counts_node v [] x = let e : v + 0 ≡ v = omega arith in append-nil (node_counts t events v x.name ALL) ∙ ap (λ k. node_counts t events k x.name ALL) (sym e)
  counts_node v (y ∷ xs) x =
      let e : suc v + length xs ≡ v + suc (length xs) = omega arith in
      ap (λ l. node_counts t events v y.name ALL ++ l) (counts_node (suc v) xs x)
      ∙ sym (append_assoc (node_counts t events v y.name ALL) (all_counts t events (suc v) xs) (node_counts t events (suc v + length xs) x.name ALL))
      ∙ ap (λ k. (node_counts t events v y.name ALL ++ all_counts t events (suc v) xs) ++ node_counts t events k x.name ALL) e

  pub nodes_more : (nodes : List NodeValue) (n : ℕ) (x : NodeValue) (k : ℕ) (name front old new : List ℕ) → slice_get nodes n ≡ Some x → k ≡ n → name ≡ x.name
      → old ≡ front ++ all_counts t events 0 (take n nodes) → new ≡ old ++ node_counts t events k name ALL → new ≡ front ++ all_counts t events 0 (take (n + 1) nodes)
  nodes_more nodes n x k name front old new at same named so_far more =
      let z = take_more nodes n x at in
      let e : 0 + length (take n nodes) ≡ n = let l = z.1 in omega (arith, l) in
      more ∙ (λ j. so_far j ++ node_counts t events (same j) (named j) ALL)
      ∙ append_assoc front (all_counts t events 0 (take n nodes)) (node_counts t events n x.name ALL)
      ∙ ap (λ l. front ++ l) (ap (λ m. all_counts t events 0 (take n nodes) ++ node_counts t events m x.name ALL) (sym e)
      ∙ sym (counts_node 0 (take n nodes) x) ∙ ap (all_counts t events 0) (sym z.0))

-- what a node that is there counted
pub count_here : (t : TopologyValue) (s : State (List ℕ) NodeStateValue) (v : ℕ) (c : Counter) → v < length t.nodes
    → unwrap_or (count_at t None s v c) 0 ≡ slice_index (s.node v).counters (counter_number c)
count_here t s v c there =
    let low : ltb v (length t.nodes) ≡ true = grind (arith, nat_tests, there) in
    ap (λ b. unwrap_or (cond (b && true) (Some (slice_index (s.node v).counters (counter_number c))) None) 0) low

-- how many packets were dropped at an interface that is there
pub drops_here : (t : TopologyValue) (s : State (List ℕ) NodeStateValue) (i : ℕ) → i < length t.ifaces → unwrap_or (drops_at t None s i) 0 ≡ drops_of i s
drops_here t s i there =
    let low : ltb i (length t.ifaces) ≡ true = grind (arith, nat_tests, there) in
    ap (λ b. unwrap_or (cond (b && true) (Some (saturated (s.port i).dropped)) None) 0) low

-- what is there
pub some_is : {X : Type 0} (o : Option X) (d x r : X) → r ≡ unwrap_or o d → o ≡ Some x → r ≡ x
some_is o d x r h e = h ∙ ap (λ z. unwrap_or z d) e

-- what is there is what one finds
pub some_or : {X : Type 0} (P : X → Type 0) (o : Option X) (d : X) → IsSomeAnd o P → P (unwrap_or o d)
some_or P None d h = absurd h
some_or P (Some x) d h = h

-- the node of a source is there
pub node_of : (t : TopologyValue) (j : ℕ) (s : Source) → slice_get t.sources j ≡ Some s → All (λ s. IsPlaced (length t.nodes) (owners_of t.ifaces) s) t.sources → (node : NodeValue) × (slice_get t.nodes s.node ≡ Some node)
unfolding IsPlaced
node_of t j s at placed =
    let here : (s.node < length t.nodes) × LeavesByOwn (owners_of t.ifaces) s.node s.traffic = subst (λ (z : Source). IsPlaced (length t.nodes) (owners_of t.ifaces) z) (get_or_from_slice_get t.sources j s s at) (All-get_or (λ s. IsPlaced (length t.nodes) (owners_of t.ifaces) s) t.sources j s (slice_get_within t.sources j s at) placed) in
    ⊎_elim (λ g. (g.0, g.2)) (λ g. absurd (let h = here.0 in omega (arith, h, g.0))) ((slice_get_cases t.nodes s.node).1)

pub regrouped : (text a b c : List ℕ) → ((text ++ a) ++ b) ++ c ≡ text ++ (a ++ b ++ c)
regrouped text a b c = simp append_assoc

joined : (text a b c : List ℕ) → ((text ++ a) ++ b) ++ c ≡ text ++ (a ++ (b ++ c))
joined text a b c = simp append_assoc

-- one name more
names_push : (xs : List (List ℕ)) (m : List ℕ) → name_cells (xs ++ m ∷ []) ≡ name_cells xs ++ (codes "," ++ m)
names_push [] m = ap (λ l. codes "," ++ l) (append-nil m)
names_push (x ∷ xs) m = ap (λ l. codes "," ++ (x ++ l)) (names_push xs m) ∙ behind (codes ",") x (name_cells xs) (codes "," ++ m)
  where
    behind : (a b c d : List ℕ) → a ++ (b ++ (c ++ d)) ≡ (a ++ (b ++ c)) ++ d
    behind a b c d = simp append_assoc

pub names_more : (names : List (List ℕ)) (n : ℕ) (m text mid one two : List ℕ) → slice_get names n ≡ Some m → mid ≡ text ++ name_cells (take n names) → one ≡ mid ++ codes "," → two ≡ one ++ m
    → two ≡ text ++ name_cells (take (n + 1) names)
names_more names n m text mid one two at so_far comma name =
    name ∙ ap (λ l. l ++ m) (comma ∙ ap (λ l. l ++ codes ",") so_far) ∙ joined text (name_cells (take n names)) (codes ",") m
    ∙ ap (λ l. text ++ l) (sym (ap name_cells (take_more names n m at).0 ∙ names_push (take n names) m))

pub seven_pieces : (a b c d e f g old one two three four five six seven : List ℕ) → one ≡ old ++ a → two ≡ one ++ b → three ≡ two ++ c → four ≡ three ++ d → five ≡ four ++ e → six ≡ five ++ f → seven ≡ six ++ g
    → seven ≡ old ++ (a ++ b ++ c ++ d ++ e ++ f ++ g)
seven_pieces a b c d e f g old one two three four five six seven h1 h2 h3 h4 h5 h6 h7 =
    h7 ∙ ap (λ t. t ++ g) (h6 ∙ ap (λ t. t ++ f) (h5 ∙ ap (λ t. t ++ e) (h4 ∙ ap (λ t. t ++ d) (h3 ∙ ap (λ t. t ++ c) (h2 ∙ ap (λ t. t ++ b) h1))))) ∙ simp append_assoc
