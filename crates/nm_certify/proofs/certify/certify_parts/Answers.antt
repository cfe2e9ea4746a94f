use Rattle.std.proofs.Common.{Err, None, Ok, Some, sym, subst}
use Rattle.std.specs.Arc.{arc_value}
use Rattle.std.specs.List.{AllZip}
use Rattle.std.proofs.lemmas.Result.{err_from_is_err_and}
use Rattle.nm_sim.specs.Network.{net_of}
use Rattle.nm_certify.specs.Certify.{AreBooksOf, ExplainsFault}
use Rattle.nm_certify.specs.Checking.{IsEnd, IsLeastOf, RefusesOne}
use Rattle.nm_certify.proofs.Certified.{books_are, files_are, no_book, not_as, not_certified, not_read, same_certificate}
use Rattle.nm_certify.proofs.certify.certify_parts.Goals as goal

pub returns-in_err-ends-clause-fault : goal.returns-in_err-ends-clause-fault
returns-in_err-ends-clause-fault g c =
    let p = err_from_is_err_and c.from_residual-in_err-ends.result c.from_residual-in_err-ends.ensures.1 in
    let t = arc_value c.args.topology.now in
    let left = g.B.Read.remaining in
    let f = c.in_err-ends.field-0.0 in
    rw (p.1, p.2) (no_book t left c.args.parts.items f (subst (λ jobs. RefusesOne t left jobs f) c.in_ok-jobs.ensures c.in_err-ends.ensures.fault))

pub returns-in-Err-clause-fault : goal.returns-in-Err-clause-fault
returns-in-Err-clause-fault g c =
    let t = arc_value c.args.topology.now in
    let left = g.B.Read.remaining in
    let ends = c.in_ok-ends.ends.items in
    let zip = subst (λ jobs. AllZip (IsEnd t left) jobs ends) c.in_ok-jobs.ensures c.in_ok-ends.ensures.ends in
    not_certified t left c.args.parts.items ends zip c.in-Err.fault
    (same_certificate t c.deref-2.result.now ends c.as_slice.result.now c.in_ok-fault.field-0 (Err c.in-Err.fault) c.deref-2.ensures c.as_slice.ensures.value c.in-Err.is c.in_ok-fault.ensures)

pub returns-in-Ok-Some-clause-fault : goal.returns-in-Ok-Some-clause-fault
returns-in-Ok-Some-clause-fault g c =
    let t = arc_value c.args.topology.now in
    let left = g.B.Read.remaining in
    let parts = c.args.parts.items in
    let ends = c.in_ok-ends.ends.items in
    let zip = subst (λ jobs. AllZip (IsEnd t left) jobs ends) c.in_ok-jobs.ensures c.in_ok-ends.ensures.ends in
    let certified =
    same_certificate t c.deref-2.result.now ends c.as_slice.result.now c.in_ok-fault.field-0 (Ok c.in_default.field-0) c.deref-2.ensures c.as_slice.ensures.value c.in_default.is c.in_ok-fault.ensures in
    let found = c.in-Ok-Some.found in
    subst (ExplainsFault t left parts) (sym c.differs.ensures)
    (not_as t left parts ends zip (c.interfaces_have_their_records.ensures (net_of t)) certified c.requires.headers found (subst (λ l. IsLeastOf l (Some found)) c.as_slice-2.ensures.value (subst (IsLeastOf c.as_slice-2.result.now) c.in-Ok-Some.field-0-is c.in-Ok-Some.ensures.least)))

pub returns-in-Err-least_difference-clause-fault : goal.returns-in-Err-least_difference-clause-fault
returns-in-Err-least_difference-clause-fault g c =
    let t = arc_value c.args.topology.now in
    let left = g.B.Read.remaining in
    let parts = c.args.parts.items in
    let ends = c.in_ok-ends.ends.items in
    let zip = subst (λ jobs. AllZip (IsEnd t left) jobs ends) c.in_ok-jobs.ensures c.in_ok-ends.ensures.ends in
    let certified =
    same_certificate t c.deref-2.result.now ends c.as_slice.result.now c.in_ok-fault.field-0 (Ok c.in_default.field-0) c.deref-2.ensures c.as_slice.ensures.value c.in_default.is c.in_ok-fault.ensures in
    subst (ExplainsFault t left parts) (sym c.unread.ensures)
    (not_read t left parts ends zip (c.interfaces_have_their_records.ensures (net_of t)) certified c.in-Err-least_difference.fault)

pub returns-in_ok-into_books-in-Ok-None-clause-books : goal.returns-in_ok-into_books-in-Ok-None-clause-books
returns-in_ok-into_books-in-Ok-None-clause-books g c =
    let t = arc_value c.args.topology.now in
    let left = g.B.Read.remaining in
    let ends = c.in_ok-ends.ends.items in
    let zip = subst (λ jobs. AllZip (IsEnd t left) jobs ends) c.in_ok-jobs.ensures c.in_ok-ends.ensures.ends in
    subst (AreBooksOf t left c.args.parts.items) (sym c.in_ok-into_books-in-Ok-None.ensures) (books_are t left c.args.parts.items ends zip)

pub returns-in_ok-into_books-in-Ok-None-clause-files : goal.returns-in_ok-into_books-in-Ok-None-clause-files
returns-in_ok-into_books-in-Ok-None-clause-files g c =
    let t = arc_value c.args.topology.now in
    let left = g.B.Read.remaining in
    let ends = c.in_ok-ends.ends.items in
    let zip = subst (λ jobs. AllZip (IsEnd t left) jobs ends) c.in_ok-jobs.ensures c.in_ok-ends.ensures.ends in
    let certified =
    same_certificate t c.deref-2.result.now ends c.as_slice.result.now c.in_ok-fault.field-0 (Ok c.in_default.field-0) c.deref-2.ensures c.as_slice.ensures.value c.in_default.is c.in_ok-fault.ensures in
    let fine = subst (λ l. IsLeastOf l None) c.as_slice-2.ensures.value (subst (IsLeastOf c.as_slice-2.result.now) c.in-Ok-None.field-0-is c.in-Ok-None.ensures.least) in
    files_are t left c.args.parts.items ends zip (c.interfaces_have_their_records.ensures (net_of t)) certified fine
