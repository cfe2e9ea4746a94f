use Rattle.std.proofs.Common.{subst}
use Rattle.std.specs.Arc.{arc_value}
use Rattle.nm_book.specs.Book.{state_of}
use Rattle.nm_certify.specs.Checking.{EndsAs}
use Rattle.nm_certify.proofs.Ends.{is_end}
use Rattle.nm_certify.proofs.part.check_part.Goals as goal

pub returns-clause-end : goal.returns-clause-end
returns-clause-end g c =
    let job = c.args.job in
    let last = c.check_traces.new.book in
    is_end (arc_value c.args.topology.now) g.B.Read.remaining job c.in-Ok.book last c.in_ok-traces.traces c.in-Ok.ensures.fresh c.in_ok-traces.ensures.same c.in-Ok.ensures.known c.in_ok-traces.ensures.all
    (λ texts read. subst (λ t. EndsAs texts t job.partition (state_of last).records job.files.traces c.in_ok-traces.traces) c.deref.ensures (c.in_ok-traces.ensures.ends texts read))
