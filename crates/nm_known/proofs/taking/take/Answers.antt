use Rattle.std.proofs.Common.{subst}
use Rattle.nm_known.specs.Reading.{HasHeard}
use Rattle.nm_known.proofs.Refused.{end_refused}
use Rattle.nm_known.proofs.taking.take.Goals as goal

pub returns-in-End-clause-why : goal.returns-in-End-clause-why
returns-in-End-clause-why c = λ told heard. end_refused c.args.book.now told c.args.frame (subst (λ e. HasHeard c.args.book.now e told) c.in-End.is heard)
