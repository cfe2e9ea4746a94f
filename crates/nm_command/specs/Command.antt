-- The words of the program.
use Rattle.std.specs.Prelude.{ℕ, ◌+◌, ◌≤◌, Bool, true, false, ◌&&◌, ◌||◌, leb, if◌then◌else◌, List, [], ◌∷◌, codes, decimal, Option, Some, None, option_map, map, string_bytes}
use Rattle.std.specs.Str.{bytes_eq}
use Rattle.nm_command.specs.declared.command.Command.{Command}
use Rattle.nm_command.specs.declared.command.Command.TheVariants as command
use Rattle.nm_base.specs.declared.limits.TheConstants.{MAX_PARTITION, MAX_REPLICA, MAX_REPLICAS, MAX_ROUNDS, MAX_SOURCE, MAX_TIME, MAX_WORKERS}
use Rattle.nm_command.specs.declared.view.Subject.{Subject}
use Rattle.nm_command.specs.declared.view.Subject.TheVariants.{Interfaces, Sources}
use Rattle.nm_command.specs.declared.view.View.{View}
use Rattle.nm_command.specs.declared.view.View.TheVariants.{Tables, Values, Rows, Delays, Graph, Load}
use Rattle.nm_command.specs.declared.ways.Ways.{Ways}
use Rattle.nm_command.specs.declared.ways.Ways.TheVariants.{Both, Sent, Received}
use Rattle.nm_pcap.specs.declared.form.Form.{Form}
use Rattle.nm_pcap.specs.declared.form.Form.TheVariants.{Octets, Hexadecimal}
use Rattle.nm_topology.specs.Parse.Forms.{least_below}

-- what the program is asked to do, with the names of inputs as octets
pub data CommandValue : Type 0 where
  -- to write a trace file: its form, which ways its packets go, the topology, and the name of
  -- the interface, if it has one
  Trace : Form → Ways → List ℕ → Option (List ℕ) → CommandValue
  -- to write the trace files of interfaces: the topology, the folder, and the names of the
  -- interfaces, or of none for all
  All : List ℕ → List ℕ → List (List ℕ) → CommandValue
  -- to check whether existing trace files of interfaces have their traces: the topology, the
  -- folder, and the names of the interfaces, or none for all
  Verify : List ℕ → List ℕ → List (List ℕ) → CommandValue
  -- to run rounds: the topology, and the greatest number of rounds
  Rounds : List ℕ → ℕ → CommandValue
  -- to do steps: the topology, and the script
  Script : List ℕ → List ℕ → CommandValue
  -- to print where the topology is at fault, or what it has
  Check : List ℕ → CommandValue
  -- to show a run of the topology, or the topology: what is shown of it
  Show : List ℕ → View → CommandValue
  -- to print in words what passed an interface: the topology, and the name of the interface
  Text : List ℕ → List ℕ → CommandValue
  -- to print what interfaces or sources do over time: the topology, how long a step is, and of what
  Series : List ℕ → ℕ → Subject → CommandValue
  -- to print the ways of packets: the topology, and the number of their source
  Packets : List ℕ → ℕ → CommandValue
  -- to print the way of a packet: the topology, the name of the node that sends it, and the address
  Path : List ℕ → List ℕ → List ℕ → CommandValue
  -- to run all partitions: the topology, the folder of their trace files, how many threads run
  -- books, how many replicas each partition has, and whether files of what is known are made too
  Run : List ℕ → List ℕ → ℕ → ℕ → Bool → CommandValue
  -- to run one replica: the topology, the folder of its trace files, the partition, the number
  -- of the replica, the addresses, and whether the file of what it knows is made too
  Node : List ℕ → List ℕ → ℕ → ℕ → List ℕ → Bool → CommandValue
  -- to certify files that replicas left: the topology, how many partitions are worked on at a time,
  -- and the folders
  Certify : List ℕ → ℕ → List (List ℕ) → CommandValue

abbrev pub command_value : Command → CommandValue
command_value (command.Trace words) =
    Trace words.form words.ways words.topology.now (option_map (λ name. name.now) words.iface)
command_value (command.All words) =
    All words.topology.now words.folder.now (map (λ name. string_bytes name) words.ifaces.now)
command_value (command.Verify words) =
    Verify words.topology.now words.folder.now (map (λ name. string_bytes name) words.ifaces.now)
command_value (command.Rounds topology max) = Rounds topology.now max
command_value (command.Script topology steps) = Script topology.now steps.now
command_value (command.Check topology) = Check topology.now
command_value (command.Show topology view) = Show topology.now view
command_value (command.Text topology iface) = Text topology.now iface.now
command_value (command.Series words) = Series words.topology.now words.step words.subject
command_value (command.Packets words) = Packets words.topology.now words.source
command_value (command.Path words) = Path words.topology.now words.node.now words.address.now
command_value (command.Run words) =
    Run words.topology.now words.folder.now words.workers words.replicas words.keeps
command_value (command.Node words) =
    Node words.topology.now words.folder.now words.partition words.replica words.addresses.now
    words.keeps
command_value (command.Certify words) =
    Certify words.topology.now words.workers (map (λ name. string_bytes name) words.folders.now)

-- the numbers of a command are such as may be asked for
abbrev pub AsksWithinLimits : Command → Type 0
AsksWithinLimits (command.Trace words) = Unit {0}
AsksWithinLimits (command.All words) = Unit {0}
AsksWithinLimits (command.Verify words) = Unit {0}
AsksWithinLimits (command.Rounds topology max) = (1 ≤ max) × (max ≤ MAX_ROUNDS)
AsksWithinLimits (command.Script topology steps) = Unit {0}
AsksWithinLimits (command.Check topology) = Unit {0}
AsksWithinLimits (command.Show topology view) = Unit {0}
AsksWithinLimits (command.Text topology iface) = Unit {0}
AsksWithinLimits (command.Series words) = (1 ≤ words.step) × (words.step ≤ MAX_TIME)
AsksWithinLimits (command.Packets words) = words.source ≤ MAX_SOURCE
AsksWithinLimits (command.Path words) = Unit {0}
AsksWithinLimits (command.Run words) = (1 ≤ words.workers) × (words.workers ≤ MAX_WORKERS)
    × (1 ≤ words.replicas) × (words.replicas ≤ MAX_REPLICAS)
AsksWithinLimits (command.Node words) =
    (words.partition ≤ MAX_PARTITION) × (words.replica ≤ MAX_REPLICA)
AsksWithinLimits (command.Certify words) = (1 ≤ words.workers) × (words.workers ≤ MAX_WORKERS)

-- the words that write one trace file
abbrev pub form_of : List ℕ → Option (Form × Ways)
form_of word =
    if bytes_eq word (codes "one") then Some (Octets, Both)
    else (if bytes_eq word (codes "onehex") then Some (Hexadecimal, Both)
    else (if bytes_eq word (codes "sent") then Some (Octets, Sent)
    else (if bytes_eq word (codes "received") then Some (Octets, Received)
    else None)))

-- the number, one of these, that a word writes in decimal
abbrev pub asked_number : ℕ → ℕ → List ℕ → Option ℕ
asked_number low high word = least_below (high + 1) (λ n. leb low n && bytes_eq word (decimal n))

-- a trace file, if the first word has a form
abbrev pub trace_from : List ℕ → Option (List ℕ) → Option (Form × Ways) → Option CommandValue
trace_from topology iface None = None
trace_from topology iface (Some form) = Some (Trace form.0 form.1 topology iface)

-- the word asks for the help of the one before it
abbrev pub asks_help : List ℕ → Bool
asks_help word = bytes_eq word (codes "--help") || bytes_eq word (codes "-h")

-- `check TOPO`, `report TOPO`, `dot TOPO`, and else `one TOPO`, `onehex TOPO`, `sent TOPO` or
-- `received TOPO`, unless help is asked for
abbrev pub of_two : List ℕ → List ℕ → Option CommandValue
of_two word topology =
    if asks_help topology then None
    else (if bytes_eq word (codes "check") then Some (Check topology)
    else (if bytes_eq word (codes "report") then Some (Show topology Tables)
    else (if bytes_eq word (codes "dot") then Some (Show topology Graph)
    else trace_from topology None (form_of word))))

-- `text TOPO IFACE`, `report TOPO csv`, `report TOPO delays` and `dot TOPO load`; for other words
-- what else they are
abbrev pub shown_of : List ℕ → List ℕ → List ℕ → Option CommandValue → Option CommandValue
shown_of word topology third other =
    if bytes_eq word (codes "text") then Some (Text topology third)
    else
    (if bytes_eq word (codes "report") then
    (if bytes_eq third (codes "csv") then Some (Show topology Values) else
    (if bytes_eq third (codes "delays") then Some (Show topology Delays) else None))
    else
    (if bytes_eq word (codes "dot") then
    (if bytes_eq third (codes "load") then Some (Show topology Load) else None)
    else other))

-- `series`, if its number is such
abbrev pub series_of : List ℕ → Subject → Option ℕ → Option CommandValue
series_of topology subject step = option_map (λ n. Series topology n subject) step

-- `series TOPO STEP` and `packets TOPO SOURCE`; for other words what else they are
abbrev pub timed_of : List ℕ → List ℕ → List ℕ → Option CommandValue → Option CommandValue
timed_of word topology third other =
    if bytes_eq word (codes "series") then
    series_of topology Interfaces (asked_number 1 MAX_TIME third)
    else
    (if bytes_eq word (codes "packets") then
    option_map (λ n. Packets topology n) (asked_number 0 MAX_SOURCE third)
    else other)

-- `rounds TOPO MAX`, `script TOPO STEPS`, those above, and else a trace file, as `one TOPO IFACE`
abbrev pub of_three : List ℕ → List ℕ → List ℕ → Option CommandValue
of_three word topology third =
    if bytes_eq word (codes "rounds") then
    option_map (λ max. Rounds topology max) (asked_number 1 MAX_ROUNDS third)
    else (if bytes_eq word (codes "script") then Some (Script topology third)
    else timed_of word topology third
    (shown_of word topology third (trace_from topology (Some third) (form_of word))))

-- `series TOPO STEP flows`, `path TOPO NODE ADDRESS` and `report TOPO csv delays`
abbrev pub of_four : List ℕ → List ℕ → List ℕ → List ℕ → Option CommandValue
of_four word topology third fourth =
    if bytes_eq word (codes "series") && bytes_eq fourth (codes "flows") then
    series_of topology Sources (asked_number 1 MAX_TIME third)
    else (if bytes_eq word (codes "path") then Some (Path topology third fourth)
    else (if bytes_eq word (codes "report")
    && (bytes_eq third (codes "csv") && bytes_eq fourth (codes "delays"))
    then Some (Show topology Rows) else None))

-- `run`, if its two numbers are such
abbrev pub run_of : List ℕ → List ℕ → Option ℕ → Option ℕ → Bool → Option CommandValue
run_of topology folder None replicas keeps = None
run_of topology folder (Some workers) None keeps = None
run_of topology folder (Some workers) (Some replicas) keeps =
    Some (Run topology folder workers replicas keeps)

-- `node`, if its two numbers are such
abbrev pub node_of : List ℕ → List ℕ → Option ℕ → Option ℕ → List ℕ → Bool → Option CommandValue
node_of topology folder None replica addresses keeps = None
node_of topology folder (Some partition) None addresses keeps = None
node_of topology folder (Some partition) (Some replica) addresses keeps =
    Some (Node topology folder partition replica addresses keeps)

-- `run TOPO DIR WORKERS REPLICAS`
abbrev pub of_five : List ℕ → List ℕ → List ℕ → List ℕ → List ℕ → Option CommandValue
of_five word topology folder workers replicas =
    if bytes_eq word (codes "run") then
    run_of topology folder (asked_number 1 MAX_WORKERS workers)
    (asked_number 1 MAX_REPLICAS replicas) false
    else None

-- `run TOPO DIR WORKERS REPLICAS keep` and `node TOPO DIR PARTITION REPLICA ADDRESSES`
abbrev pub of_six : List ℕ → List ℕ → List ℕ → List ℕ → List ℕ → List ℕ → Option CommandValue
of_six word topology folder third fourth last =
    if bytes_eq word (codes "run") && bytes_eq last (codes "keep") then
    run_of topology folder (asked_number 1 MAX_WORKERS third) (asked_number 1 MAX_REPLICAS fourth)
    true
    else
    (if bytes_eq word (codes "node") then
    node_of topology folder (asked_number 0 MAX_PARTITION third)
    (asked_number 0 MAX_REPLICA fourth) last false
    else None)

-- `node TOPO DIR PARTITION REPLICA ADDRESSES keep`
abbrev pub of_seven : List ℕ → List ℕ → List ℕ → List ℕ → List ℕ → List ℕ → List ℕ
    → Option CommandValue
of_seven word topology folder partition replica addresses last =
    if bytes_eq word (codes "node") && bytes_eq last (codes "keep") then
    node_of topology folder (asked_number 0 MAX_PARTITION partition)
    (asked_number 0 MAX_REPLICA replica) addresses true
    else None

-- `certify`, if its number is such and there is a folder
abbrev pub certify_of : List ℕ → Option ℕ → List (List ℕ) → Option CommandValue
certify_of topology workers [] = None
certify_of topology workers (folder ∷ folders) =
    option_map (λ n. Certify topology n (folder ∷ folders)) workers

-- words of two to seven; no words are `onehex -`
abbrev pub of_number : List (List ℕ) → Option CommandValue
of_number [] = trace_from (codes "-") None (Some (Hexadecimal, Both))
of_number (word ∷ []) = None
of_number (word ∷ topology ∷ []) = of_two word topology
of_number (word ∷ topology ∷ third ∷ []) = of_three word topology third
of_number (word ∷ topology ∷ node ∷ address ∷ []) = of_four word topology node address
of_number (word ∷ topology ∷ folder ∷ workers ∷ replicas ∷ []) =
    of_five word topology folder workers replicas
of_number (word ∷ topology ∷ folder ∷ partition ∷ replica ∷ addresses ∷ []) =
    of_six word topology folder partition replica addresses
of_number (word ∷ topology ∷ folder ∷ partition ∷ replica ∷ addresses ∷ last ∷ []) =
    of_seven word topology folder partition replica addresses last
of_number (word ∷ topology ∷ folder ∷ partition ∷ replica ∷ addresses ∷ last ∷ more ∷ rest) = None

-- `certify TOPO WORKERS` with folders behind it; for other words what else they are
abbrev pub certify_or : List (List ℕ) → Option CommandValue → Option CommandValue
certify_or (word ∷ topology ∷ workers ∷ folders) other =
    if bytes_eq word (codes "certify") then
    certify_of topology (asked_number 1 MAX_WORKERS workers) folders
    else other
certify_or words other = other

-- `all TOPO DIR` and `verify TOPO DIR`, with or without names behind them; for other words what
-- else they are
abbrev pub files_or : List (List ℕ) → Option CommandValue → Option CommandValue
files_or (word ∷ topology ∷ folder ∷ ifaces) other =
    if bytes_eq word (codes "all") then Some (All topology folder ifaces)
    else (if bytes_eq word (codes "verify") then Some (Verify topology folder ifaces) else other)
files_or words other = other

unfoldable pub command_of : List (List ℕ) → Option CommandValue
command_of words = files_or words (certify_or words (of_number words))
