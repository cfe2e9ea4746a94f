use Rattle.std.proofs.Common.{All, map, sym, ◌∙◌, subst}
use Rattle.std.specs.Arc.{arc_value}
use Rattle.nm_files.specs.Files.{AreCounted}
use Rattle.nm_files.specs.Outputs.{AreWhole}
use Rattle.nm_rounds.specs.Certify.{AreCertified}
use Rattle.nm_run.specs.Files.{AreClosed, kept_files}
use Rattle.nm_run.specs.Leaving.{leaving}
use Rattle.nm_run.specs.Replicas.{HaveDistinctNames}
use Rattle.nm_run.proofs.Dealing.{all_distinct}
use Rattle.nm_run.proofs.run.run_certified.Goals as goal

pub run_books-requires-clause-names : goal.run_books-requires-clause-names
run_books-requires-clause-names g c = λ κs bounds.
    subst (λ l. HaveDistinctNames (map (λ b. (b.partition, b.replica)) l)) (sym c.as_slice.ensures.value)
    (all_distinct _ _ _ c.in_ok-shared.ensures)

pub close_all-requires-clause-counted : goal.close_all-requires-clause-counted
close_all-requires-clause-counted g c =
    let made = g.F.Outputs.made in
    c.in_ok-books.ensures.files (made c.run_books.new.outputs)
    (subst (λ m. All (λ e. AreCounted g.F.File.Sink.seen m e.files.files.items) c.in_ok-ends.ends.items) (sym c.in_ok-ends.ensures.same) c.in_ok-ends.ensures.counted)

pub returns-clause-closed : goal.returns-clause-closed
returns-clause-closed g c =
    let closed = g.F.Outputs.closed in
    let made = g.F.Outputs.made in
    let folder = c.args.plan.now.folder.now in
    let t = arc_value c.args.plan.now.topology.now in
    let files = c.in_ok-traces.traces.files.items in
    subst (λ l. AreClosed closed (made c.args.outputs.now) folder t l files) c.as_slice-3.ensures.value
    (subst (λ m. AreClosed closed m folder t c.as_slice-3.result.now files) c.in_ok-ends.ensures.same c.in_ok-traces.ensures.closed)

pub returns-clause-kept : goal.returns-clause-kept
returns-clause-kept g c =
    let made = g.F.Outputs.made in
    let run = leaving c.args.plan.now in
    let t = arc_value c.args.plan.now.topology.now in
    let books = c.in_ok-books.books.items in
    let kept = subst (λ l. AreWhole (made c.close_all.new.outputs) (map g.F.Outputs.closed c.in_ok-known.known.items) (kept_files run l)) c.as_slice-4.ensures.value c.in_ok-known.ensures.kept in (
      books,
      (c.in_ok-books.ensures.books, subst (λ z. AreCertified z books) c.deref.ensures (subst (AreCertified c.deref.result.now) c.as_slice-2.ensures.value c.in_ok-report.ensures.books)),
      subst (λ m. AreWhole m (map g.F.Outputs.closed c.in_ok-known.known.items) (kept_files run books)) (c.in_ok-traces.ensures.same ∙ c.in_ok-ends.ensures.same) kept,
    )
