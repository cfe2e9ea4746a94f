-- A run that does not come to its end.
use Rattle.std.proofs.Common.{◌≡◌, ℕ, sym, subst}
use Rattle.nm_base.specs.declared.fault.Fault.{Fault}
use Rattle.nm_topology.specs.TopologyValue.{TopologyValue}
use Rattle.nm_run.specs.Faults.{HasReason, run_fault}
use Rattle.nm_run.specs.declared.fault.RunCause.{RunCause}
use Rattle.nm_run.specs.declared.stop.Stop.{Stop}
use Rattle.nm_run.specs.declared.stop.Stop.TheVariants as stop

reason : (t : TopologyValue) (replicas : ℕ) (s : Stop) → HasReason t replicas (run_fault s)
reason t replicas (stop.File iface written) = tt
reason t replicas stop.Known = tt
reason t replicas stop.Net = tt
reason t replicas stop.Memory = tt
reason t replicas (stop.Stalled polls) = tt
reason t replicas stop.Broken = tt

pub stops_have_reason : (t : TopologyValue) (replicas : ℕ) (s : Stop) (f : Fault RunCause) → f ≡ run_fault s → HasReason t replicas f
stops_have_reason t replicas s f is = subst (HasReason t replicas) (sym is) (reason t replicas s)
