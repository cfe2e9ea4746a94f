use Rattle.std.proofs.Common.{OnOk, subst}
use Rattle.nm_files.specs.Least.{AreReadBelow}
use Rattle.nm_certify.proofs.running.read_over.Goals as goal

pub returns : goal.returns
returns g c = λ texts begun before read.
    c.put_all.ensures texts begun before (subst (λ r. OnOk r (AreReadBelow texts g.B.Read.remaining begun before c.args.files.now)) c.in_ok-checked.was read)
