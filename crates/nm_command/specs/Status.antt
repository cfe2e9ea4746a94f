-- The line of each ending.
use Rattle.std.specs.Prelude.{ℕ, List, [], ◌++◌, Result, Ok, Err, codes, decimal}
use Rattle.nm_topology.specs.Fault.{refusal_number}
use Rattle.nm_command.specs.declared.status.Status.{Status}
use Rattle.nm_command.specs.declared.status.Status.TheVariants.{Done, Usage, NoInterface, ScriptLine, Step, Rows, Topology, File, Memory, NotCertified, Stalled, Differs}

-- the exit status
abbrev pub code_of : Status → ℕ
code_of Done = 0
code_of Usage = 2
code_of NoInterface = 2
code_of (ScriptLine n) = 2
code_of (Step n) = 2
code_of (Rows n) = 2
code_of (Topology r) = 3
code_of File = 4
code_of Memory = 5
code_of (NotCertified n) = 6
code_of Stalled = 7
code_of (Differs iface n) = 8

-- the line on standard error
abbrev pub line_of : Status → List ℕ
line_of Done = []
line_of Usage = codes "nullsim: usage\n"
line_of NoInterface = codes "nullsim: no interface\n"
line_of (ScriptLine n) = codes "nullsim: script line " ++ decimal n ++ codes "\n"
line_of (Step n) = codes "nullsim: step " ++ decimal n ++ codes "\n"
line_of (Rows n) = codes "nullsim: rows " ++ decimal n ++ codes "\n"
line_of (Topology r) = codes "nullsim: topology " ++ decimal (refusal_number r) ++ codes "\n"
line_of File = codes "nullsim: file\n"
line_of Memory = codes "nullsim: memory\n"
line_of (NotCertified n) = codes "nullsim: not certified " ++ decimal n ++ codes "\n"
line_of Stalled = codes "nullsim: stalled\n"
line_of (Differs iface n) =
    codes "nullsim: differs " ++ iface.bytes ++ codes " " ++ decimal n ++ codes "\n"

-- how the program ends: it is done, or has this status
abbrev pub ended : Result Unit Status → Status
ended (Ok _) = Done
ended (Err status) = status
