use Rattle.nm_files.proofs.Checked.{unlike_next}
use Rattle.nm_files.proofs.checked_file.CheckedFile.read_same.Goals as goal

pub returns-clause-unlike : goal.returns-clause-unlike
returns-clause-unlike g c = λ texts n before read none.
    unlike_next (texts n) (g.B.Read.remaining c.args.self.now.reader) before c.in_ok-there.there.now c.args.octets.now c.same_front-count.result
    read.rest c.in_ok-there.ensures.front c.in_ok-there.ensures.end c.requires c.same_front-count.ensures.next none
