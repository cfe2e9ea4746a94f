use Rattle.std.proofs.Common.{◌≡◌, ◌∙◌, ◌++◌, [], length, Ok, take, ap, refl, sym, subst, arith}
use Rattle.std.proofs.lemmas.List.{take_all}
use Rattle.std.proofs.lemmas.Result.{err_from_is_err_and}
use Rattle.nm_files.specs.Checked.{DiffersInOne, HaveRead}
use Rattle.nm_files.proofs.Checked.{differs_later}
use Rattle.nm_sim.specs.Records.{cut}
use Rattle.nm_sim.specs.Tracing.{ShowsNext}
use Rattle.nm_offline.proofs.Showings.{all_shown, next_shown, shown}
use Rattle.nm_offline.proofs.verify.check_records.Goals as goal

pub loop-event-init : goal.loop-event-init
loop-event-init g c =
    let none = ap (λ k. k.handed) c.requires.keeping in
    let nothing = ap length c.requires.nothing in
    let zero : 0 ≡ shown c.args.tracer.now.records = omega (arith, none, nothing) in
    record {
      tracing = c.requires.tracing;
      wanted = ap (λ k. k.wanted) c.requires.keeping;
      looked = refl;
      read = λ texts records trace read. subst (λ k. HaveRead texts g.B.Read.remaining (take k records) c.args.files.now.files.items) zero read;
    }

pub loop-event-preserved : goal.loop-event-preserved
loop-event-preserved g c =
    let before = c.loop-event.tracer.records in
    let after = c.go_on.new.tracer.records in
    record {
      tracing = c.in_ok-is_there.ensures.tracing;
      wanted = c.in_ok-is_there.ensures.still ∙ c.loop-event.invariant.wanted;
      looked = c.in_ok-put_all.ensures.looked ∙ c.loop-event.invariant.looked;
      read = λ texts records trace read.
          let on = subst (λ b. ShowsNext records before (Ok b) after) c.if-not-is_there.false
          (subst (λ w. ShowsNext (cut w records) before (Ok c.in_ok-is_there.is_there) after) c.loop-event.invariant.wanted (c.in_ok-is_there.ensures.next records trace)) in
          subst (λ l. HaveRead texts g.B.Read.remaining l c.put_all.new.self.files.items)
          (ap (λ l. take (shown before) records ++ l) c.trace.ensures ∙ sym (next_shown records before after on))
          (c.in_ok-put_all.ensures.read texts (take (shown before) records) (c.loop-event.invariant.read texts records trace read));
    }

pub returns-then-not-is_there-clause-read : goal.returns-then-not-is_there-clause-read
returns-then-not-is_there-clause-read g c = λ texts records trace read.
    let before = c.loop-event.tracer.records in
    let on = subst (λ b. ShowsNext records before (Ok b) c.go_on.new.tracer.records) c.if-not-is_there.true
    (subst (λ w. ShowsNext (cut w records) before (Ok c.in_ok-is_there.is_there) c.go_on.new.tracer.records) c.loop-event.invariant.wanted (c.in_ok-is_there.ensures.next records trace)) in
    let all = all_shown records before c.go_on.new.tracer.records on in
    subst (λ l. HaveRead texts g.B.Read.remaining l c.loop-event.files.files.items) (take_all (shown before) records (omega (arith, all))) (c.loop-event.invariant.read texts records trace read)

pub returns-in_err-put_all-clause-looked : goal.returns-in_err-put_all-clause-looked
returns-in_err-put_all-clause-looked g c = c.in_err-put_all.ensures.looked ∙ c.loop-event.invariant.looked

pub returns-in_err-put_all-clause-unlike : goal.returns-in_err-put_all-clause-unlike
returns-in_err-put_all-clause-unlike g c = λ texts records trace read.
    let p = err_from_is_err_and c.from_residual-in_err-put_all.result c.from_residual-in_err-put_all.ensures.1 in
    let before = c.loop-event.tracer.records in
    let after = c.go_on.new.tracer.records in
    let on = subst (λ b. ShowsNext records before (Ok b) after) c.if-not-is_there.false
    (subst (λ w. ShowsNext (cut w records) before (Ok c.in_ok-is_there.is_there) after) c.loop-event.invariant.wanted (c.in_ok-is_there.ensures.next records trace)) in
    let part = next_shown records before after on ∙ ap (λ l. take (shown before) records ++ l) (sym c.trace.ensures) in
    rw (p.1, p.2) (λ own octet is.
    subst (DiffersInOne texts g.B.Read.remaining [] records c.args.files.now.files.items) is
    (differs_later texts g.B.Read.remaining records (take (shown before) records) c.trace.result.now (shown after) c.args.files.now.files.items c.loop-event.files.files.items c.in_err-put_all.field-0.0
    part c.loop-event.invariant.looked
    (c.in_err-put_all.ensures.unlike texts (take (shown before) records) (c.loop-event.invariant.read texts records trace read))))
