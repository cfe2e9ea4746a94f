-- Why a run has no report.
use Rattle.std.specs.Prelude.{◌≡◌, ◌⊎◌, ℕ}
use Rattle.std.specs.declared.io.ErrorKind.{ErrorKind}
use Rattle.std.specs.declared.io.ErrorKind.TheVariants.{OutOfMemory}
use Rattle.nm_base.specs.declared.fault.Fault.{Fault}
use Rattle.nm_base.specs.declared.fault.Fault.TheVariants.{Memory, Refused}
use Rattle.nm_topology.specs.TopologyValue.{TopologyValue}
use Rattle.nm_files.specs.declared.outputs.OutputFault.{OutputFault}
use Rattle.nm_files.specs.declared.outputs.OutputFault.TheVariants as output
use Rattle.nm_files.specs.declared.trace_files.FileFault.{FileFault}
use Rattle.nm_run.specs.Report.{IsNotCertified}
use Rattle.nm_run.specs.declared.fault.RunCause.{RunCause}
use Rattle.nm_run.specs.declared.fault.RunCause.TheVariants as cause
use Rattle.nm_run.specs.declared.stop.Stop.{Stop}
use Rattle.nm_run.specs.declared.stop.Stop.TheVariants as stop

-- the fault of a run that stopped
abbrev pub run_fault : Stop → Fault RunCause
run_fault (stop.File iface written) = Refused (cause.File iface written)
run_fault stop.Known = Refused cause.Known
run_fault stop.Net = Refused cause.Net
run_fault stop.Memory = Memory
run_fault (stop.Stalled polls) = Refused (cause.Stalled polls)
run_fault stop.Broken = Refused cause.Broken

-- if books are not certified, the run's own books have that fault
abbrev pub HasReason : TopologyValue → ℕ → Fault RunCause → Type 0
HasReason t replicas Memory = Unit {0}
HasReason t replicas (Refused (cause.File iface written)) = Unit {0}
HasReason t replicas (Refused cause.Known) = Unit {0}
HasReason t replicas (Refused cause.Net) = Unit {0}
HasReason t replicas (Refused (cause.NotCertified fault)) = IsNotCertified t replicas fault
HasReason t replicas (Refused (cause.Stalled polls)) = Unit {0}
HasReason t replicas (Refused cause.Broken) = Unit {0}

-- an error of the system of this kind means that memory was refused, or else that the network
-- failed
abbrev pub IsToldAs : {A : Type 0} → ErrorKind → (memory net told : A) → Type 0
IsToldAs kind memory net told = ((kind ≡ OutOfMemory) × (told ≡ memory))
    ⊎ ((kind ≡ OutOfMemory → ⊥) × (told ≡ net))

-- why a run stops after a call of the system failed so
abbrev pub IsStopOf : ErrorKind → Stop → Type 0
IsStopOf kind s = IsToldAs kind stop.Memory stop.Net s

-- why a run stops after this fault of its trace files
abbrev pub files_stop : Fault FileFault → Stop
files_stop Memory = stop.Memory
files_stop (Refused fault) = stop.File fault.iface fault.written

-- why a run stops after this fault of a file of what a replica knows
abbrev pub output_stop : OutputFault → Stop
output_stop output.Failed = stop.Known
output_stop output.Memory = stop.Memory

-- it stops so for a fault of this kind
abbrev pub StopsFor : (Fault FileFault → Type 0) → Stop → Type 0
StopsFor Is s = (fault : Fault FileFault) × Is fault × (s ≡ files_stop fault)

-- a file may not have got its name: those before it have theirs then
abbrev pub IsOfFiles : Fault RunCause → Type 0
IsOfFiles fault = ((iface written : ℕ) × (fault ≡ Refused (cause.File iface written)))
    ⊎ (fault ≡ Refused cause.Known) ⊎ (fault ≡ Memory)
