-- Courses, turn by turn.
use Rattle.std.proofs.Common.{◌≡◌, ℕ, ◌+◌, List, [], ◌∷◌, ◌++◌, ap, sym, refl, ◌∙◌, append_assoc, append-nil, add-one}
use Rattle.nm_topology.specs.TopologyValue.{TopologyValue}
use Rattle.nm_forward.specs.State.{table_of}
use Rattle.nm_paths.specs.declared.turn.WalkEnd.{WalkEnd}
use Rattle.nm_paths.specs.declared.turn.WalkEnd.TheVariants.{Expired}
use Rattle.nm_paths.specs.declared.turn.Turn.TheVariants.{Stops, Leaves}
use Rattle.nm_paths.specs.Walks.{Course, behind, course, node_behind, taken, turn_at}

pub course-none : (t : TopologyValue) (to v : ℕ) → course t to 0 v ≡ ([], Expired)
unfolding course
course-none t to v = refl

course-more : (t : TopologyValue) (to n v : ℕ) → course t to (n + 1) v
    ≡ taken (turn_at (table_of t v) to n) (λ via. course t to n (node_behind t.ifaces via))
unfolding course
course-more t to n v = rw add-one refl

-- the way ends at this node
pub course-stops : (t : TopologyValue) (to n left v : ℕ) (hops : List ℕ) (e : WalkEnd) → left ≡ n + 1
    → turn_at (table_of t v) to n ≡ Stops e → behind hops (course t to left v) ≡ (hops, e)
course-stops t to n left v hops e more stops =
    ap (λ k. behind hops (course t to k v)) more ∙ ap (behind hops) (course-more t to n v ∙ ap (λ u. taken u (λ via. course t to n (node_behind t.ifaces via))) stops)
    ∙ ap (λ l. (l, e)) (append-nil hops)

-- the packet leaves this node
pub course-leaves : (t : TopologyValue) (to n left v via : ℕ) (hops : List ℕ) → left ≡ n + 1
    → turn_at (table_of t v) to n ≡ Leaves via
    → behind hops (course t to left v)
    ≡ behind (hops ++ via ∷ []) (course t to n (node_behind t.ifaces via))
course-leaves t to n left v via hops more leaves =
    let rest : Course = course t to n (node_behind t.ifaces via) in
    ap (λ k. behind hops (course t to k v)) more ∙ ap (behind hops) (course-more t to n v ∙ ap (λ u. taken u (λ i. course t to n (node_behind t.ifaces i))) leaves)
    ∙ ap (λ l. (l, rest.1)) (sym (append_assoc hops (via ∷ []) rest.0))
