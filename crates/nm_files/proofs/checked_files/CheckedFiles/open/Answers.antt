use Rattle.nm_files.proofs.Checked.{one_opened}
use Rattle.nm_files.proofs.checked_files.CheckedFiles.open.Goals as goal

pub returns-clause-read : goal.returns-clause-read
returns-clause-read g c = λ texts told read.
    rw c.in_ok-push.ensures.items (one_opened texts g.B.Read.remaining c.args.self.now.files.items c.args.iface c.in_ok-file.file c.requires (c.in_ok-file.ensures.read texts told) c.in_ok-file.ensures.records read)
