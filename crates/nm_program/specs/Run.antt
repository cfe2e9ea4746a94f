-- The word `run`: all partitions at once.
use Rattle.std.specs.Prelude.{◌≡◌, ◌⊎◌, ℕ, List, ◌++◌, Option, Ok, codes}
use Rattle.nm_base.specs.declared.record.Record.{Record}
use Rattle.nm_topology.specs.Topology.{topology_of}
use Rattle.nm_topology.specs.TopologyValue.{TopologyValue}
use Rattle.nm_sim.specs.Totals.{totals_of}
use Rattle.nm_sim.specs.Trace.{IsTraceBefore}
use Rattle.nm_rounds.specs.Certify.{cert_fault_number}
use Rattle.nm_rounds.specs.declared.certify.CertFault.{CertFault}
use Rattle.nm_base.specs.declared.fault.Fault.{Fault}
use Rattle.nm_base.specs.declared.fault.Fault.TheVariants as fault
use Rattle.nm_run.specs.Files.{AreNamed, HaveFiles, Leaving}
use Rattle.nm_run.specs.Report.{IsCertifiedRun, IsNotCertified}
use Rattle.nm_run.specs.declared.report.IfaceTotals.{IfaceTotals}
use Rattle.nm_run.specs.declared.fault.RunCause.{RunCause}
use Rattle.nm_run.specs.declared.fault.RunCause.TheVariants as cause
use Rattle.nm_command.specs.declared.arguments.RunArguments.{RunArguments}
use Rattle.nm_command.specs.declared.status.Status.{Status}
use Rattle.nm_command.specs.declared.status.Status.TheVariants.{Done, File, Memory, NotCertified, Stalled}
use Rattle.nm_files.specs.Outputs.{Files}
use Rattle.nm_offline.specs.Input.{HasTopology, IsRefused}
use Rattle.nm_offline.specs.Lines.{iface_lines}
use Rattle.nm_offline.specs.Output.{EndsWord, FailsOfInput, FilesSeen, SaysOfInput}
use Rattle.nm_program.specs.Surroundings.{Surroundings, files_of}

-- this number is that of the first fault which the certificate finds in the books of the run
abbrev pub HasFault : TopologyValue → ℕ → ℕ → Type 0
HasFault network replicas n =
    (fault : CertFault) × IsNotCertified network replicas fault × (n ≡ cert_fault_number fault)

-- the status of a run that has no report
abbrev pub run_status : Fault RunCause → Status
run_status fault.Memory = Memory
run_status (fault.Refused (cause.File iface written)) = File
run_status (fault.Refused cause.Known) = File
run_status (fault.Refused cause.Net) = File
run_status (fault.Refused (cause.NotCertified found)) = NotCertified (cert_fault_number found)
run_status (fault.Refused (cause.Stalled polls)) = Stalled
run_status (fault.Refused cause.Broken) = File

-- what `run` gets: the input with the topology, and what is to be left in which folder
pub record RunAsked : Type 0 where
  pub topology : List ℕ
  pub leaving : Leaving

abbrev pub run_asked : RunArguments → RunAsked
run_asked w = record {
  topology = w.topology.now;
  leaving = record { folder = w.folder.now; replicas = w.replicas; keeps = w.keeps };
}

-- Books of all partitions were certified, and these totals are those of the one event list. The
-- files got their names. Each interface has what it has in the trace of the one event list, over the
-- whole run.
pub record SaysCertified (asked : RunAsked) (before after : Option Files) (text octets : List ℕ)
    : Type 0 where
  pub network : TopologyValue
  pub read : topology_of text ≡ Ok network
  pub totals : List IfaceTotals
  pub run : IsCertifiedRun network totals
  pub files : HaveFiles before after asked.leaving network totals
  pub records : List (Record (List ℕ))
  pub trace : IsTraceBefore network network.stop records
  pub said : octets ≡ codes "certified\n" ++ iface_lines (λ i. totals_of i records) network

-- How a run that was begun ends with no report. A file got its name only if the run is certified,
-- and one of them could not get it; one that is not certified, or stalled, leaves what the names
-- of its files had.
abbrev pub StopsRun : TopologyValue → RunAsked → (before after : Option Files) → Status → Type 0
StopsRun network asked before after status =
    AreNamed before after asked.leaving network
    × ((status ≡ File) ⊎ (status ≡ Memory)
    ⊎ ((n : ℕ) × (status ≡ NotCertified n) × HasFault network asked.leaving.replicas n × (after ≡ before))
    ⊎ ((status ≡ Stalled) × (after ≡ before)))

-- it is printed once it is certified: what was made before, and what is then
abbrev pub SaysRun : RunAsked → (made : Option Files × Option Files) → List ℕ → Status → List ℕ
    → Type 0
SaysRun asked made text status octets =
    (status ≡ Done) × SaysCertified asked made.0 made.1 text octets

-- Why nothing is printed for an input: there is no network, and no file was made; or it is that of
-- a network, whose run stopped.
module _ (before after : FilesSeen) where
  abbrev pub FailsRun : RunAsked → Status → Type 0
  FailsRun asked status =
      (FailsOfInput before.inputs after.inputs asked.topology IsRefused status
      × (after.made ≡ before.made))
      ⊎ ((network : TopologyValue) × HasTopology before.inputs asked.topology network
      × StopsRun network asked before.made after.made status)

-- The meaning of each status. Files are made once the books are certified; of trace files it is
-- stated how many octets they have, and not which.
module _ {S : Type 0} (before after : Surroundings S) where
  abbrev pub EndsRun : RunAsked → Status → Type 0
  EndsRun asked status =
      EndsWord before.exchange after.exchange
      (SaysOfInput before.exchange.inputs asked.topology
      (SaysRun asked (before.made, after.made)))
      (FailsRun (files_of before) (files_of after) asked) status
