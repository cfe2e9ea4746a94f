-- The word `node`: one replica of a partition.
use Rattle.std.specs.Prelude.{◌≡◌, ◌⊎◌, ℕ, ◌==◌, Bool, if◌then◌else◌, List, [], ◌∷◌, ◌++◌, Option, Some, None, Ok, length}
use Rattle.std.specs.List.{enumerate_from, flat_map}
use Rattle.nm_base.specs.Sink.{SinkSeen}
use Rattle.nm_base.specs.declared.record.Record.{Record}
use Rattle.nm_pcap.specs.Format.{file_header}
use Rattle.nm_pcap.specs.Writer.{Writer}
use Rattle.nm_pcap.specs.declared.form.Form.TheVariants.{Octets}
use Rattle.nm_model.specs.Partition.{receiver_of}
use Rattle.nm_topology.specs.PartValues.{IfaceValue}
use Rattle.nm_topology.specs.Topology.{topology_of}
use Rattle.nm_topology.specs.TopologyValue.{TopologyValue}
use Rattle.nm_sim.specs.Network.{net_of}
use Rattle.nm_sim.specs.Totals.{totals_of}
use Rattle.nm_book.specs.Book.{BookValue, state_of}
use Rattle.nm_peers.specs.Listeners.{AreListeners}
use Rattle.nm_peers.specs.declared.listener.Listener.{Listener}
use Rattle.nm_base.specs.declared.fault.Fault.{Fault}
use Rattle.nm_base.specs.declared.fault.Fault.TheVariants as fault
use Rattle.nm_known.specs.Keeping.{known_file}
use Rattle.nm_process.specs.Process.{IsDoneReplica}
use Rattle.nm_process.specs.declared.fault.ProcessCause.{ProcessCause}
use Rattle.nm_process.specs.declared.fault.ProcessCause.TheVariants as cause
use Rattle.nm_replica.specs.declared.served.Served.{Served}
use Rattle.nm_replica.specs.declared.served.Served.TheVariants as served
use Rattle.nm_replica.specs.declared.served.Served.TheVariants.{Ended, Net}
use Rattle.nm_command.specs.declared.arguments.NodeArguments.{NodeArguments}
use Rattle.nm_command.specs.declared.status.Status.{Status}
use Rattle.nm_command.specs.declared.status.Status.TheVariants.{Done, Usage, File, Memory, Stalled}
use Rattle.nm_offline.specs.Input.{InputsSeen, IsInput, IsRefused}
use Rattle.nm_offline.specs.Lines.{iface_line}
use Rattle.nm_offline.specs.Output.{EndsWord, FailsOfInputs, FilesSeen, SaysOfInputs}
use Rattle.nm_program.specs.Surroundings.{Surroundings, files_of}
use Rattle.nm_files.specs.Files.{HoldsFiles}
use Rattle.nm_files.specs.Folder.{chosen_files}
use Rattle.nm_files.specs.Outputs.{Files, HasMade}
use Rattle.nm_files.specs.TraceFile.{trace_file}

-- the trace files of a partition's interfaces, with these records
abbrev pub own_files : TopologyValue → ℕ → List ℕ → List (Record (List ℕ)) → Files
own_files t partition folder records =
    chosen_files (λ n iface. receiver_of (net_of t) n == partition) folder
    (λ n. trace_file Octets n records) t.ifaces

-- the trace files of a partition's interfaces are open, each with its header alone
abbrev pub AreOwnOpened : {S : Type 0} → (S → SinkSeen) → (made : Option Files) → TopologyValue
    → (partition : ℕ) → List (Option (Writer S)) → Type 0
AreOwnOpened seen made t partition files =
    HoldsFiles seen made (λ n iface. receiver_of (net_of t) n == partition) t.ifaces
    (λ n. file_header) files
    × (length files ≡ length t.ifaces)

-- the file of what a replica knows, if it is asked for
abbrev pub asked_known : (keeps : Bool) → (folder : List ℕ) → BookValue → Files
asked_known keeps folder b = if keeps then known_file folder b ∷ [] else []

-- the files of a replica of this partition
abbrev pub node_files : TopologyValue → (partition : ℕ) → (folder : List ℕ) → (keeps : Bool)
    → BookValue → Files
node_files t partition folder keeps b =
    own_files t partition folder (state_of b).records ++ asked_known keeps folder b

-- the lines of the partition's interfaces
abbrev pub own_line : TopologyValue → ℕ → List (Record (List ℕ)) → ℕ × IfaceValue → List ℕ
own_line t partition records i =
    if receiver_of (net_of t) i.0 == partition then iface_line i.1 (totals_of i.0 records) else []

abbrev pub own_lines : TopologyValue → ℕ → List (Record (List ℕ)) → List ℕ
own_lines t partition records = flat_map (own_line t partition records) (enumerate_from 0 t.ifaces)

-- what `node` gets: the input with the topology, the folder, which replica, the input with the
-- addresses, and whether the file of what it knows is made too
pub record NodeAsked : Type 0 where
  pub topology : List ℕ
  pub folder : List ℕ
  pub partition : ℕ
  pub replica : ℕ
  pub addresses : List ℕ
  pub keeps : Bool

abbrev pub node_asked : NodeArguments → NodeAsked
node_asked w = record {
  topology = w.topology.now;
  folder = w.folder.now;
  partition = w.partition;
  replica = w.replica;
  addresses = w.addresses.now;
  keeps = w.keeps;
}

-- The replica of the partition is done. Its trace is in the files of the partition's interfaces,
-- and these are their lines. What it knows is in a file behind them, if that is asked for.
pub record IsNodeDone (asked : NodeAsked) (text addresses lines : List ℕ) (files : Files) : Type 0
  where
    pub network : TopologyValue
    pub read : topology_of text ≡ Ok network
    pub listeners : List Listener
    pub mean : AreListeners addresses network.partitions asked.partition asked.replica listeners
    pub book : BookValue
    pub done : IsDoneReplica network asked.partition asked.replica book
    pub made : files ≡ node_files network asked.partition asked.folder asked.keeps book
    pub lines_are : lines ≡ own_lines network asked.partition (state_of book).records

-- the status of a replica that is done, if serving it ended otherwise than as done: it was stalled,
-- the network or a file failed, or memory was refused
abbrev pub late_status : Served → Option Status
late_status Ended = None
late_status (served.Stalled polls) = Some Stalled
late_status Net = Some File
late_status (served.File iface written) = Some File
late_status served.Memory = Some Memory

-- the status of a replica that is not done
abbrev pub process_status : Fault ProcessCause → Status
process_status fault.Memory = Memory
process_status (fault.Refused cause.Net) = File
process_status (fault.Refused cause.Stalled) = Stalled
process_status (fault.Refused cause.Broken) = File

-- The lines are printed of a replica that is done, and with all links ended, too. Nothing is
-- printed if serving it ended otherwise.
abbrev pub SaysLines : List ℕ → Status → List ℕ → Type 0
SaysLines lines status octets = ((status ≡ Done) × (octets ≡ lines))
    ⊎ ((s : Served) × (late_status s ≡ Some status) × (octets ≡ []))

-- the topology is read, and the other text is not that of listeners, this replica's among them
pub record HasNoAddresses (text addresses : List ℕ) (partition replica : ℕ) : Type 0 where
  pub network : TopologyValue
  pub read : topology_of text ≡ Ok network
  pub none : (listeners : List Listener)
      → AreListeners addresses network.partitions partition replica listeners → ⊥

-- this is the topology of the text that the one input has, and these are the listeners of that of
-- the other
abbrev pub HasListeners : InputsSeen → NodeAsked → TopologyValue → List Listener → Type 0
HasListeners inputs asked network listeners =
    (text : List ℕ) × (addresses : List ℕ)
    × (IsInput (inputs.text asked.topology) text × IsInput (inputs.text asked.addresses) addresses)
    × (topology_of text ≡ Ok network)
    × AreListeners addresses network.partitions asked.partition asked.replica listeners

-- why no replica is served: the topology is refused, or the other text is not that of listeners
abbrev pub IsNotServed : (partition replica : ℕ) → (text addresses : List ℕ) → Status → Type 0
IsNotServed partition replica text addresses status = IsRefused text status
    ⊎ ((status ≡ Usage) × HasNoAddresses text addresses partition replica)

-- why a replica that was served has no files, or not all; one that was stalled before it was done
-- has none
abbrev pub StopsNode : (before after : Option Files) → Status → Type 0
StopsNode before after status =
    (status ≡ File) ⊎ (status ≡ Memory) ⊎ ((status ≡ Stalled) × (after ≡ before))

-- it is printed once its files are made: what was made before, and what is then
abbrev pub SaysServed : NodeAsked → (made : Option Files × Option Files) → (text addresses : List ℕ)
    → Status → List ℕ → Type 0
SaysServed asked made text addresses status octets =
    (lines : List ℕ) × (files : Files)
    × IsNodeDone asked text addresses lines files
    × HasMade made.0 made.1 files × SaysLines lines status octets

-- Why nothing is printed for two inputs: no replica was served, and no file was made; or they are a
-- network and its listeners, and the replica was served, and has no files, or not all.
abbrev pub FailsNode : (before after : FilesSeen) → NodeAsked → Status → Type 0
FailsNode before after asked status =
    (FailsOfInputs before.inputs after.inputs asked.topology asked.addresses
    (IsNotServed asked.partition asked.replica) status × (after.made ≡ before.made))
    ⊎ ((network : TopologyValue) × (listeners : List Listener)
    × HasListeners before.inputs asked network listeners
    × StopsNode before.made after.made status)

-- The meaning of each status. Files are made only once the replica is done, whether it was stalled
-- then or not; what files there are after a failure is not stated, nor if memory was refused.
module _ {S : Type 0} (before after : Surroundings S) (asked : NodeAsked) where
  abbrev pub EndsNode : Status → Type 0
  EndsNode status =
      EndsWord before.exchange after.exchange
      (SaysOfInputs before.exchange.inputs asked.topology asked.addresses
      (SaysServed asked (before.made, after.made)))
      (FailsNode (files_of before) (files_of after) asked) status
