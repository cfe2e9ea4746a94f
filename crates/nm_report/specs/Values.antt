-- The values of nodes and interfaces as comma-separated values.
use Rattle.std.specs.Prelude.{◌≡◌, ◌⊎◌, ℕ, suc, List, [], ◌∷◌, ◌++◌, codes, decimal, slice_index}
use Rattle.nm_forward.specs.Counter.{counter_name, counter_number}
use Rattle.nm_forward.specs.declared.counter.Counter.{Counter}
use Rattle.nm_forward.specs.declared.counter.TheConstants.Counter.{ALL}
use Rattle.nm_model.specs.Run.{one_list}
use Rattle.nm_topology.specs.PartValues.{IfaceValue, NodeValue}
use Rattle.nm_topology.specs.TopologyValue.{TopologyValue}
use Rattle.nm_sim.specs.Network.{net_of}
use Rattle.nm_measure.specs.Drops.{drops_of}
use Rattle.nm_sim.specs.Traffic.{iface_traffic_of}
use Rattle.nm_measure.specs.Busy.{busy_before}
use Rattle.nm_measure.specs.Lines.{EndsLine}
use Rattle.nm_measure.specs.Queues.{in_packets, longest_queue}
use Rattle.nm_sim.specs.declared.traffic.IfaceTraffic.{IfaceTraffic}

-- whole lines, or nothing
abbrev pub AreWholeLines : List ℕ → Type 0
AreWholeLines text = (text ≡ []) ⊎ EndsLine text

-- the names of the columns
abbrev pub head : List ℕ
head = codes "kind,name,measure,value\n"

-- a line: what kind of thing has the value, its name, which measure it is, and the value
abbrev pub value_line : (kind name measure : List ℕ) → ℕ → List ℕ
value_line kind name measure value =
    kind ++ codes "," ++ name ++ codes "," ++ measure ++ codes "," ++ decimal value ++ codes "\n"

-- of an interface
abbrev pub iface_line : (name measure : List ℕ) → ℕ → List ℕ
iface_line name measure value = value_line (codes "interface") name measure value

-- how much came to it and went from it
abbrev pub traffic_lines : List ℕ → IfaceTraffic → List ℕ
traffic_lines name x =
    iface_line name (codes "packets_in") x.came.packets
    ++ iface_line name (codes "octets_in") x.came.octets
    ++ iface_line name (codes "packets_out") x.went.packets
    ++ iface_line name (codes "octets_out") x.went.octets

-- how many packets were dropped at its queue, how many waited there at most at one time, and for how
-- many nanoseconds it transmitted
abbrev pub use_lines : List ℕ → (dropped longest busy : ℕ) → List ℕ
use_lines name dropped longest busy =
    iface_line name (codes "dropped") dropped
    ++ iface_line name (codes "longest_queue") longest
    ++ iface_line name (codes "busy_nanoseconds") busy

module _ (t : TopologyValue) (events : ℕ) where
  -- the values of interface i of this name after so many events of the one event list
  abbrev pub iface_values : ℕ → List ℕ → List ℕ
  iface_values i name =
      traffic_lines name (iface_traffic_of i (one_list (net_of t) events).records)
      ++ use_lines name (drops_of i (one_list (net_of t) events)) (longest_queue (net_of t) in_packets i 0 events)
      (busy_before (net_of t) i t.stop (one_list (net_of t) events).records)

  -- of interfaces from number i on
  abbrev pub all_values : ℕ → List IfaceValue → List ℕ
  all_values i [] = []
  all_values i (x ∷ xs) = iface_values i x.name ++ all_values (suc i) xs

  -- the counters of node v of this name, in this order, after so many events of the one event list
  abbrev pub node_counts : ℕ → List ℕ → List Counter → List ℕ
  node_counts v name [] = []
  node_counts v name (c ∷ cs) =
      value_line (codes "node") name (counter_name c)
      (slice_index ((one_list (net_of t) events).node v).counters (counter_number c))
      ++ node_counts v name cs

  -- all counters of nodes from number v on
  abbrev pub all_counts : ℕ → List NodeValue → List ℕ
  all_counts v [] = []
  all_counts v (x ∷ xs) = node_counts v x.name ALL ++ all_counts (suc v) xs
