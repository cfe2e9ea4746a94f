use Rattle.nm_book.specs.Book.{state_of}
use Rattle.nm_certify.proofs.running.check_traces.Goals as goal

pub returns-clause-ends : goal.returns-clause-ends
returns-clause-ends g c = λ texts are.
    c.finish_own.ensures texts c.args.traces (state_of c.run_beside.new.book).records are (c.in_ok-checked.ensures.read texts are)
