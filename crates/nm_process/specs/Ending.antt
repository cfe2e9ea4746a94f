-- The result of a process after its replica was served.
use Rattle.std.specs.Prelude.{Option, None, Some, Result, Ok, Err}
use Rattle.nm_base.specs.declared.fault.Fault.{Fault}
use Rattle.nm_base.specs.declared.fault.Fault.TheVariants.{Memory, Refused}
use Rattle.nm_book.specs.Book.{BookValue}
use Rattle.nm_replica.specs.declared.served.Served.{Served}
use Rattle.nm_replica.specs.declared.served.Served.TheVariants as served
use Rattle.nm_process.specs.declared.ending.ProcessEnd.{ProcessEnd}
use Rattle.nm_process.specs.declared.fault.ProcessCause.{ProcessCause}
use Rattle.nm_process.specs.declared.fault.ProcessCause.TheVariants as cause

-- why a replica is not done, by how serving it ended
abbrev pub unfinished_fault : Served → Fault ProcessCause
unfinished_fault served.Ended = Refused cause.Stalled
unfinished_fault (served.Stalled polls) = Refused cause.Stalled
unfinished_fault served.Net = Refused cause.Net
unfinished_fault (served.File iface written) = Refused cause.Broken
unfinished_fault served.Memory = Memory

-- the book, if the replica is done, with how serving ended; or else why it is not
abbrev pub process_end : Option BookValue → Served → Result ProcessEnd (Fault ProcessCause)
process_end None s = Err (unfinished_fault s)
process_end (Some book) s = Ok (record { book = book; served = s })
