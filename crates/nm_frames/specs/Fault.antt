-- The numbers of faults.
use Rattle.std.specs.Prelude.{ℕ}
use Rattle.nm_frames.specs.declared.fault.FrameFault.{FrameFault}
use Rattle.nm_frames.specs.declared.fault.FrameFault.TheVariants.{BadLength, BadKind, BadBody, Failed, Memory}
use Rattle.nm_frames.specs.declared.session_fault.SessionFault.{SessionFault}
use Rattle.nm_frames.specs.declared.session_fault.SessionFault.TheVariants.{Order, Version, Topology, Peer, Channel}

abbrev pub frame_fault_number : FrameFault → ℕ
frame_fault_number BadLength = 1
frame_fault_number BadKind = 2
frame_fault_number BadBody = 3
frame_fault_number Failed = 4
frame_fault_number Memory = 5

abbrev pub session_fault_number : SessionFault → ℕ
session_fault_number Order = 1
session_fault_number Version = 2
session_fault_number Topology = 3
session_fault_number Peer = 4
session_fault_number Channel = 5
