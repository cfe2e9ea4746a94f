use Rattle.std.proofs.Common.{◌≡◌, ◌∙◌, length, Ok, take, ap, sym, subst, arith}
use Rattle.std.proofs.lemmas.List.{take_all}
use Rattle.nm_files.specs.Files.{FilesTook}
use Rattle.nm_files.proofs.Files.{more_records, no_records}
use Rattle.nm_sim.specs.Records.{cut}
use Rattle.nm_sim.specs.Tracing.{ShowsNext}
use Rattle.nm_offline.proofs.Showings.{all_shown, next_shown, shown}
use Rattle.nm_offline.proofs.all.record_all.Goals as goal

pub loop-event-init : goal.loop-event-init
loop-event-init g c =
    let none = ap (λ k. k.handed) c.requires.keeping in
    let nothing = ap length c.requires.nothing in
    let zero : 0 ≡ shown c.args.tracer.now.records = omega (arith, none, nothing) in
    record {
      tracing = c.requires.tracing;
      wanted = ap (λ k. k.wanted) c.requires.keeping;
      took = λ records trace. subst (λ k. FilesTook g.S.Sink.seen (take k records) c.args.files.now.files.items c.args.files.now.files.items) zero
          (no_records g.S.Sink.seen c.args.files.now.files.items);
    }

pub loop-event-preserved : goal.loop-event-preserved
loop-event-preserved g c =
    let before = c.loop-event.tracer.records in
    let after = c.go_on.new.tracer.records in
    record {
      tracing = c.in_ok-is_there.ensures.tracing;
      wanted = c.in_ok-is_there.ensures.still ∙ c.loop-event.invariant.wanted;
      took = λ records trace.
          let on = subst (λ b. ShowsNext records before (Ok b) after) c.if-not-is_there.false
          (subst (λ w. ShowsNext (cut w records) before (Ok c.in_ok-is_there.is_there) after) c.loop-event.invariant.wanted (c.in_ok-is_there.ensures.next records trace)) in
          subst (λ l. FilesTook g.S.Sink.seen l c.args.files.now.files.items c.put_all.new.self.files.items) (sym (next_shown records before after on))
          (more_records g.S.Sink.seen (take (shown before) records) after.kept c.args.files.now.files.items c.loop-event.files.files.items c.put_all.new.self.files.items
          (c.loop-event.invariant.took records trace)
          (subst (λ l. FilesTook g.S.Sink.seen l c.loop-event.files.files.items c.put_all.new.self.files.items) c.trace.ensures c.in_ok-put_all.ensures.took));
    }

pub returns-then-not-is_there-clause-took : goal.returns-then-not-is_there-clause-took
returns-then-not-is_there-clause-took g c = λ records trace.
    let before = c.loop-event.tracer.records in
    let on = subst (λ b. ShowsNext records before (Ok b) c.go_on.new.tracer.records) c.if-not-is_there.true
    (subst (λ w. ShowsNext (cut w records) before (Ok c.in_ok-is_there.is_there) c.go_on.new.tracer.records) c.loop-event.invariant.wanted (c.in_ok-is_there.ensures.next records trace)) in
    let all = all_shown records before c.go_on.new.tracer.records on in
    subst (λ l. FilesTook g.S.Sink.seen l c.args.files.now.files.items c.loop-event.files.files.items) (take_all (shown before) records (omega (arith, all))) (c.loop-event.invariant.took records trace)
