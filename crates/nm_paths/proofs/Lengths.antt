-- How long courses are.
use Rattle.std.proofs.Common.{◌≡◌, ℕ, zero, suc, ◌+◌, ◌-◌, ◌≤◌, max, Bool, true, false, cond, length, nat_le, Option, Some, None, refl, arith}
use Rattle.std.proofs.lemmas.Bool.Decides.{nat_tests}
use Rattle.nm_topology.specs.declared.node.NodeKind.{NodeKind}
use Rattle.nm_topology.specs.declared.node.NodeKind.TheVariants.{Host, Router}
use Rattle.nm_topology.specs.TopologyValue.{TopologyValue}
use Rattle.nm_forward.specs.declared.row.Row.TheVariants as row
use Rattle.nm_forward.specs.Routes.{route_of}
use Rattle.nm_forward.specs.Row.{transit_row}
use Rattle.nm_forward.specs.State.{NodeConfiguration, is_own, table_of}
use Rattle.nm_paths.specs.declared.turn.WalkEnd.TheVariants.{Arrived}
use Rattle.nm_paths.specs.declared.turn.Turn.{Turn}
use Rattle.nm_paths.specs.declared.turn.Turn.TheVariants.{Stops, Leaves}
use Rattle.nm_paths.specs.Walks.{course, first_turn, node_behind, row_turn, taken, turn_at, walk_by, walk_of}

by_route : (low : Bool) (n r via : ℕ) → nat_le n 1 ≡ low
    → row_turn (cond low row.Expired (row.Forward r)) ≡ Leaves via → 2 ≤ n
by_route true n r via is leaves = absurd (cc)
by_route false n r via is leaves = grind (arith, nat_tests, is)

by_node : (own : Bool) (kind : NodeKind) (route : Option ℕ) (n via : ℕ)
    → cond own (Stops Arrived) (row_turn (transit_row kind route n)) ≡ Leaves via → 2 ≤ n
by_node true kind route n via leaves = absurd (cc)
by_node false Host route n via leaves = absurd (cc)
by_node false Router None n via leaves = absurd (cc)
by_node false Router (Some r) n via leaves = by_route (nat_le n 1) n r via refl leaves

-- a packet that comes with a time to live of 0 or 1 does not leave
leaves_late : (table : NodeConfiguration) (to n via : ℕ) → turn_at table to n ≡ Leaves via → 2 ≤ n
leaves_late table to n via leaves =
    by_node (is_own table to) table.kind (route_of table.routes to) n via leaves

-- one turn more
one_more : (t : TopologyValue) (to n v : ℕ) (u : Turn) → turn_at (table_of t v) to n ≡ u
    → ((w : ℕ) → length (course t to n w).0 ≤ n - 2)
    → length (taken u (λ via. course t to n (node_behind t.ifaces via))).0 ≤ suc n - 2
one_more t to n v (Stops e) is rest = omega arith
one_more t to n v (Leaves via) is rest =
    let late : 2 ≤ n = leaves_late (table_of t v) to n via is in
    let more : length (course t to n (node_behind t.ifaces via)).0 ≤ n - 2 =
    rest (node_behind t.ifaces via) in
    omega (arith, late, more)

course_length : (t : TopologyValue) (to n v : ℕ) → length (course t to n v).0 ≤ n - 2
unfolding course
course_length t to zero v = omega arith
course_length t to (suc n) v =
    one_more t to n v (turn_at (table_of t v) to n) refl (λ w. course_length t to n w)

pub walk_length : (t : TopologyValue) (v to n : ℕ) → 1 ≤ n → length (walk_of t v to n).0 ≤ n
walk_length t v to n least = by_turn (first_turn (table_of t v) to)
  where
    by_turn : (u : Turn)
        → length (taken u (λ via. course t to (n + 1) (node_behind t.ifaces via))).0 ≤ n
    by_turn (Stops e) = omega arith
    by_turn (Leaves via) =
        let rest : length (course t to (n + 1) (node_behind t.ifaces via)).0 ≤ n + 1 - 2 =
        course_length t to (n + 1) (node_behind t.ifaces via) in
        omega (arith, least, rest)

pub walk_by_length : (t : TopologyValue) (via to n : ℕ) → length (walk_by t via to n).0 ≤ max 1 n
walk_by_length t via to n =
    let rest : length (course t to (n + 1) (node_behind t.ifaces via)).0 ≤ n + 1 - 2 =
    course_length t to (n + 1) (node_behind t.ifaces via) in
    omega (arith, rest)
