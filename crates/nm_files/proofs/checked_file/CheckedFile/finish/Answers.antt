use Rattle.std.proofs.Common.{◌<◌, length, [], rules}
use Rattle.nm_files.proofs.Checked.{more_left}
use Rattle.nm_files.proofs.checked_file.CheckedFile.finish.Goals as goal

pub returns-in-Err-clause-longer : goal.returns-in-Err-clause-longer
returns-in-Err-clause-longer g c = λ texts n octets read. (c.check_fault.ensures.unlike n texts octets []).1

pub returns-else-is_end-clause-longer : goal.returns-else-is_end-clause-longer
returns-else-is_end-clause-longer g c = λ texts n octets read.
    let some : 0 < length c.in-Ok.there.now = search rules in
    rw c.differs.ensures
    (read.own, more_left (texts n) (g.B.Read.remaining c.args.self.now.reader) octets c.in-Ok.there.now c.args.self.now.same read.same read.rest c.in-Ok.ensures.front some)
