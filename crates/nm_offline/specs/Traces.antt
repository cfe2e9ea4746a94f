-- The words `one`, `onehex`, `sent` and `received`: the trace file of one interface.
use Rattle.std.specs.Prelude.{◌≡◌, ◌⊎◌, Bool, true, false, ℕ, nat_lt, if◌then◌else◌, List, filter, length, option_map, position, Option, Some, None, Result, Ok, Err}
use Rattle.std.specs.Str.{bytes_eq}
use Rattle.nm_base.specs.declared.record.Dir.{Dir}
use Rattle.nm_base.specs.declared.record.Dir.TheVariants.{In, Out}
use Rattle.nm_base.specs.declared.record.Record.{Record}
use Rattle.nm_base.specs.declared.fault.Fault.TheVariants.{Refused, Memory as NoMemory}
use Rattle.nm_pcap.specs.declared.form.Form.{Form}
use Rattle.nm_topology.specs.Topology.{topology_of}
use Rattle.nm_topology.specs.PartValues.{IfaceValue}
use Rattle.nm_topology.specs.TopologyValue.{TopologyValue}
use Rattle.nm_sim.specs.Trace.{IsTraceBefore}
use Rattle.nm_command.specs.declared.arguments.TraceArguments.{TraceArguments}
use Rattle.nm_command.specs.declared.status.Status.{Status}
use Rattle.nm_command.specs.declared.status.Status.TheVariants.{Done, NoInterface, File, Memory}
use Rattle.nm_command.specs.declared.ways.Ways.{Ways}
use Rattle.nm_command.specs.declared.ways.Ways.TheVariants.{Both, Sent, Received}
use Rattle.nm_offline.specs.Input.{IsRefused}
use Rattle.nm_offline.specs.Output.{EndsWord, Exchange, FailsOfInput, IsPartWritten, SaysOfInput}
use Rattle.nm_files.specs.TraceFile.{trace_file}
use Rattle.nm_files.specs.Writing.{TraceFault}

-- the number of the interface that a command names, 0 if it names none
abbrev pub iface_named : List IfaceValue → Option (List ℕ) → Option ℕ
iface_named ifaces None = if nat_lt 0 (length ifaces) then Some 0 else None
iface_named ifaces (Some name) = position (λ i. bytes_eq i.name name) ifaces

-- a record is of a packet in one of these directions
abbrev pub goes : Ways → Dir → Bool
goes Both dir = true
goes Sent In = false
goes Sent Out = true
goes Received In = true
goes Received Out = false

-- the records of packets in these directions, in their order
abbrev pub going : Ways → List (Record (List ℕ)) → List (Record (List ℕ))
going ways records = filter (λ r. goes ways r.dir) records

-- the octets that are asked for, of the topology of this text: the trace file of the interface over
-- the whole run, with the packets in these directions
pub record IsAnswer (form : Form) (ways : Ways) (name : Option (List ℕ)) (text octets : List ℕ) :
    Type 0 where
  pub network : TopologyValue
  pub read : topology_of text ≡ Ok network
  pub iface : ℕ
  pub named : iface_named network.ifaces name ≡ Some iface
  pub records : List (Record (List ℕ))
  pub trace : IsTraceBefore network network.stop records
  pub file : octets ≡ trace_file form iface (going ways records)

-- it is printed once it is written
abbrev pub SaysTrace : Form → Ways → Option (List ℕ) → List ℕ → Status → List ℕ → Type 0
SaysTrace form ways name text status octets = (status ≡ Done) × IsAnswer form ways name text octets

-- why there is no such interface: the text is refused, or its topology has none
abbrev pub HasNoIface : Option (List ℕ) → List ℕ → Status → Type 0
HasNoIface name text status = IsRefused text status
    ⊎ ((status ≡ NoInterface)
    × ((network : TopologyValue) × (topology_of text ≡ Ok network)
    × (iface_named network.ifaces name ≡ None)))

-- what the words of a trace file get: its form, the directions of packets, the input with the
-- topology text, and the name of an interface, if there is one
pub record TraceAsked : Type 0 where
  pub form : Form
  pub ways : Ways
  pub topology : List ℕ
  pub iface : Option (List ℕ)

abbrev pub trace_asked : TraceArguments → TraceAsked
trace_asked words = record {
  form = words.form;
  ways = words.ways;
  topology = words.topology.now;
  iface = option_map (λ name. name.now) words.iface;
}

-- The meaning of each status. If memory was refused, it was before the sink took anything, or the
-- sink took a part of the answer.
module _ {S : Type 0} (before after : Exchange S) where
  abbrev pub EndsTrace : TraceAsked → Status → Type 0
  EndsTrace asked status =
      EndsWord before after
      (SaysOfInput before.inputs asked.topology (SaysTrace asked.form asked.ways asked.iface))
      (FailsOfInput before.inputs after.inputs asked.topology (HasNoIface asked.iface)) status
      ⊎ ((status ≡ Memory) × ((octets : List ℕ)
      × SaysOfInput before.inputs asked.topology
      (SaysTrace asked.form asked.ways asked.iface) Done octets
      × IsPartWritten before.output after.output octets))

-- the status of a command whose trace file was written, or was not
abbrev pub outcome_status : Result Unit TraceFault → Status
outcome_status (Ok _) = Done
outcome_status (Err (Refused _)) = File
outcome_status (Err NoMemory) = Memory
