-- Where a packet to an address goes, by the tables of the nodes.
use Rattle.std.specs.Prelude.{ℕ, zero, suc, ◌+◌, ◌==◌, if◌then◌else◌, List, [], ◌∷◌, ◌++◌, filter, map, slice_get, Option, Some, None}
use Rattle.std.specs.Option.{option_map_or}
use Rattle.nm_topology.specs.declared.parts.Route.{Route}
use Rattle.nm_topology.specs.PartValues.{IfaceValue}
use Rattle.nm_topology.specs.TopologyValue.{TopologyValue}
use Rattle.nm_forward.specs.declared.row.Row.{Row}
use Rattle.nm_forward.specs.declared.row.Row.TheVariants as row
use Rattle.nm_forward.specs.Routes.{route_of}
use Rattle.nm_forward.specs.Row.{transit_row}
use Rattle.nm_forward.specs.State.{NodeConfiguration, is_own, table_of}
use Rattle.nm_paths.specs.declared.turn.WalkEnd.{WalkEnd}
use Rattle.nm_paths.specs.declared.turn.WalkEnd.TheVariants.{Arrived, Host, NoRoute, Expired}
use Rattle.nm_paths.specs.declared.turn.Turn.{Turn}
use Rattle.nm_paths.specs.declared.turn.Turn.TheVariants.{Stops, Leaves}

-- the turn of a row of the table of docs/RULES.md; the rows that are not named here are those of a
-- packet for the node itself
abbrev pub row_turn : Row → Turn
row_turn row.NotMine = Stops Host
row_turn row.Unreachable = Stops NoRoute
row_turn row.Expired = Stops Expired
row_turn (row.Forward via) = Leaves via
row_turn r = Stops Arrived

-- a node that has this table, and a packet to this address that comes with this time to live
abbrev pub turn_at : NodeConfiguration → ℕ → ℕ → Turn
turn_at table to time_to_live =
    if is_own table to then Stops Arrived
    else row_turn (transit_row table.kind (route_of table.routes to) time_to_live)

-- a node's own packet, to which this route leads
abbrev pub route_turn : Option ℕ → Turn
route_turn None = Stops NoRoute
route_turn (Some via) = Leaves via

-- a node that has this table, and a packet of its own to this address
abbrev pub first_turn : NodeConfiguration → ℕ → Turn
first_turn table to =
    if is_own table to then Stops Arrived else route_turn (route_of table.routes to)

-- the node of an interface, the interface that it is linked to, and the node to which it leads
abbrev pub node_of_iface : List IfaceValue → ℕ → ℕ
node_of_iface ifaces i = option_map_or (λ x. x.node) (slice_get ifaces i) 0

abbrev pub linked_to : List IfaceValue → ℕ → ℕ
linked_to ifaces i = option_map_or (λ x. x.far.iface) (slice_get ifaces i) 0

abbrev pub node_behind : List IfaceValue → ℕ → ℕ
node_behind ifaces via = node_of_iface ifaces (linked_to ifaces via)

-- the interfaces by which a packet leaves, one node after another, and what ends its way
abbrev pub Course : Type 0
Course = List ℕ × WalkEnd

-- a turn, and if the packet leaves by an interface what follows
abbrev pub taken : Turn → (ℕ → Course) → Course
taken (Stops ending) on = ([], ending)
taken (Leaves via) on = let rest : Course = on via in (via ∷ rest.0, rest.1)

-- the course from node v on, for a packet with a time to live that is one less than the second
-- number
unfoldable pub course : TopologyValue → ℕ → ℕ → ℕ → Course
course t to zero v = ([], Expired)
course t to (suc n) v =
    taken (turn_at (table_of t v) to n) (λ via. course t to n (node_behind t.ifaces via))

-- the course of a packet with this time to live that node v originates to this address
abbrev pub walk_of : TopologyValue → ℕ → ℕ → ℕ → Course
walk_of t v to time_to_live =
    taken (first_turn (table_of t v) to)
    (λ via. course t to (time_to_live + 1) (node_behind t.ifaces via))

-- the course of a packet to this address that goes by interface i of its node as it is, without a
-- look-up there, and with this time to live
abbrev pub walk_by : TopologyValue → ℕ → ℕ → ℕ → Course
walk_by t i to time_to_live =
    taken (Leaves i) (λ via. course t to (time_to_live + 1) (node_behind t.ifaces via))

-- the nodes that have an address, one for each interface that has it
abbrev pub nodes_with : List IfaceValue → ℕ → List ℕ
nodes_with ifaces to = map (λ i. i.node) (filter (λ i. i.address == to) ifaces)

-- a course behind these hops
abbrev pub behind : List ℕ → Course → Course
behind hops c = (hops ++ c.0, c.1)

-- the routes of each node
abbrev pub routes_of_all : TopologyValue → List (List Route)
routes_of_all t = map (λ n. n.routes) t.nodes
