-- The word `all`: the trace files of interfaces, by one event list.
use Rattle.std.specs.Prelude.{◌≡◌, ◌⊎◌, Bool, ◌||◌, ℕ, nat_eq, List, All, is_some, length, map, position, string_bytes, Some, None, Ok}
use Rattle.std.specs.Str.{bytes_eq}
use Rattle.nm_base.specs.declared.record.Record.{Record}
use Rattle.nm_pcap.specs.declared.form.Form.TheVariants.{Octets}
use Rattle.nm_topology.specs.PartValues.{IfaceValue}
use Rattle.nm_topology.specs.Topology.{topology_of}
use Rattle.nm_topology.specs.TopologyValue.{TopologyValue}
use Rattle.nm_sim.specs.Trace.{IsTraceBefore}
use Rattle.nm_command.specs.declared.arguments.AllArguments.{AllArguments}
use Rattle.nm_command.specs.declared.status.Status.{Status}
use Rattle.nm_command.specs.declared.status.Status.TheVariants.{Done, NoInterface, File, Memory}
use Rattle.nm_files.specs.Folder.{chosen_files}
use Rattle.nm_files.specs.Outputs.{Files, HasMade, HasMadeSome}
use Rattle.nm_files.specs.TraceFile.{trace_file}
use Rattle.nm_offline.specs.Input.{IsInput, IsRefused}
use Rattle.nm_offline.specs.Output.{FailsOfInput, FilesSeen}
use Rattle.nm_offline.specs.Traces.{iface_named}

-- the file of an interface is asked for: its name is one of these, or there are no names
abbrev pub is_asked_for : List (List ℕ) → IfaceValue → Bool
is_asked_for names iface =
    nat_eq (length names) 0 || is_some (position (λ name. bytes_eq name iface.name) names)

-- the files that are asked for: each is the trace file of its interface over these records; in the
-- order of the text
abbrev pub asked_files : TopologyValue → List (List ℕ) → List ℕ → List (Record (List ℕ)) → Files
asked_files t names folder records =
    chosen_files (λ n iface. is_asked_for names iface) folder (λ n. trace_file Octets n records) t.ifaces

-- these are all files that are asked for, of the topology of this text, over the whole run; each
-- name is that of an interface
pub record AreAsked (folder : List ℕ) (names : List (List ℕ)) (text : List ℕ) (files : Files)
    : Type 0 where
  pub network : TopologyValue
  pub read : topology_of text ≡ Ok network
  pub named : All (λ name. iface_named network.ifaces (Some name) ≡ None → ⊥) names
  pub records : List (Record (List ℕ))
  pub trace : IsTraceBefore network network.stop records
  pub all : files ≡ asked_files network names folder records

-- why no file is asked for: the text is refused, or one of the names is no interface's
abbrev pub HasNoIfaces : List (List ℕ) → List ℕ → Status → Type 0
HasNoIfaces names text status = IsRefused text status
    ⊎ ((status ≡ NoInterface)
    × ((network : TopologyValue) × (topology_of text ≡ Ok network)
    × (All (λ name. iface_named network.ifaces (Some name) ≡ None → ⊥) names → ⊥)))

-- what `all` gets: the input with the topology, the folder, and the names of interfaces
pub record AllAsked : Type 0 where
  pub topology : List ℕ
  pub folder : List ℕ
  pub names : List (List ℕ)

abbrev pub all_asked : AllArguments → AllAsked
all_asked w = record {
  topology = w.topology.now;
  folder = w.folder.now;
  names = map (λ n. string_bytes n) w.ifaces.now;
}

-- The meaning of each status. If a file failed or memory was refused, the files that were made are
-- the first of those asked for.
module _ (before after : FilesSeen) where
  abbrev pub MakesAll : AllAsked → Status → Type 0
  MakesAll asked status =
      ((status ≡ Done) × ((text : List ℕ) × (files : Files)
      × IsInput (before.inputs.text asked.topology) text
      × AreAsked asked.folder asked.names text files × HasMade before.made after.made files))
      ⊎ (FailsOfInput before.inputs after.inputs asked.topology (HasNoIfaces asked.names) status
      × (after.made ≡ before.made))
      ⊎ (((status ≡ File) ⊎ (status ≡ Memory))
      × ((text : List ℕ) × (files : Files) × IsInput (before.inputs.text asked.topology) text
      × AreAsked asked.folder asked.names text files × HasMadeSome before.made after.made files))
