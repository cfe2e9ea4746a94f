use Rattle.std.proofs.Common.{length, Err, Ok, refl, ap, ◌∙◌, subst, arith}
use Rattle.std.proofs.lemmas.Result.{err_from_is_err_and}
use Rattle.nm_base.specs.declared.wanted.Wanted.TheVariants.{One}
use Rattle.nm_sim.specs.Records.{cut}
use Rattle.nm_sim.specs.Tracing.{ShowsNext}
use Rattle.nm_files.proofs.Records.{all_records, last_records, next_records, no_record, some_records}
use Rattle.nm_files.specs.TraceFile.{written_at}
use Rattle.nm_files.specs.Writing.{WritesOn, WroteOn}
use Rattle.nm_offline.specs.Traces.{going}
use Rattle.nm_offline.proofs.Showings.{all_shown, next_shown, shown}
use Rattle.nm_offline.proofs.Ways.{going_both}
use Rattle.nm_offline.proofs.trace_file.write_all_of.Goals as goal

pub loop-event-init : goal.loop-event-init
loop-event-init g c =
    let none = ap (λ k. k.handed) c.requires.keeping in
    let nothing = ap length c.requires.nothing in
    record {
      tracing = c.requires.tracing;
      wanted = ap (λ k. k.wanted) c.requires.keeping;
      sound = c.requires.sound;
      front = λ records trace. no_record (going c.args.traced.now.ways) refl (going_both c.args.traced.now.ways) g.S.Sink.seen c.args.traced.now.iface (cut (One c.args.traced.now.iface) records) c.args.file.now (shown c.args.tracer.now.records) (omega (arith, none, nothing)) c.requires.sound;
    }

pub returns-in_err-is_there : goal.returns-in_err-is_there
returns-in_err-is_there g c records trace =
    let p = err_from_is_err_and c.from_residual.result c.from_residual.ensures.1 in
    rw (p.1, p.2) (some_records (going c.args.traced.now.ways) refl (going_both c.args.traced.now.ways) g.S.Sink.seen c.args.traced.now.iface (cut (One c.args.traced.now.iface) records) c.args.file.now c.loop-event.file (shown c.loop-event.tracer.records) (c.loop-event.invariant.front records trace))

pub returns-then-not-is_there : goal.returns-then-not-is_there
returns-then-not-is_there g c records trace =
    let before = c.loop-event.tracer.records in
    let after = c.go_on.new.tracer.records in
    let on = subst (λ b. ShowsNext (cut (One c.args.traced.now.iface) records) before (Ok b) after) c.if-not-is_there.true (subst (λ w. ShowsNext (cut w records) before (Ok c.in_ok-is_there.is_there) after) c.loop-event.invariant.wanted (c.in_ok-is_there.ensures.next records trace)) in
    all_records (going c.args.traced.now.ways) refl (going_both c.args.traced.now.ways) g.S.Sink.seen c.args.traced.now.iface (cut (One c.args.traced.now.iface) records) c.args.file.now c.loop-event.file (shown before) (all_shown (cut (One c.args.traced.now.iface) records) before after on) (c.loop-event.invariant.front records trace)

pub returns-in_err-write_some : goal.returns-in_err-write_some
returns-in_err-write_some g c records trace =
    let before = c.loop-event.tracer.records in
    let after = c.go_on.new.tracer.records in
    let on = subst (λ b. ShowsNext (cut (One c.args.traced.now.iface) records) before (Ok b) after) c.if-not-is_there.false (subst (λ w. ShowsNext (cut w records) before (Ok c.in_ok-is_there.is_there) after) c.loop-event.invariant.wanted (c.in_ok-is_there.ensures.next records trace)) in
    let p = err_from_is_err_and c.from_residual-in_err-write_some.result c.from_residual-in_err-write_some.ensures.1 in
    rw (p.1, p.2) (last_records (going c.args.traced.now.ways) refl (going_both c.args.traced.now.ways) g.S.Sink.seen c.args.traced.now.iface (cut (One c.args.traced.now.iface) records) c.args.file.now c.loop-event.file c.write_some.new.file c.in_err-write_some.field-0.0 (shown before) (shown after) after.kept
    (next_shown (cut (One c.args.traced.now.iface) records) before after on) (c.loop-event.invariant.front records trace)
    (subst (λ l. WritesOn g.S.Sink.seen c.loop-event.file c.write_some.new.file (Err c.in_err-write_some.field-0.0) (written_at c.loop-event.file.form c.args.traced.now.iface (going c.args.traced.now.ways l))) c.trace.ensures c.in_err-write_some.ensures))

pub loop-event-preserved : goal.loop-event-preserved
loop-event-preserved g c =
    let before = c.loop-event.tracer.records in
    let after = c.go_on.new.tracer.records in
    record {
      tracing = c.in_ok-is_there.ensures.tracing;
      wanted = c.in_ok-is_there.ensures.still ∙ c.loop-event.invariant.wanted;
      sound = c.in_ok-write_some.ensures.sound;
      front = λ records trace.
          let on = subst (λ b. ShowsNext (cut (One c.args.traced.now.iface) records) before (Ok b) after) c.if-not-is_there.false (subst (λ w. ShowsNext (cut w records) before (Ok c.in_ok-is_there.is_there) after) c.loop-event.invariant.wanted (c.in_ok-is_there.ensures.next records trace)) in
          next_records (going c.args.traced.now.ways) refl (going_both c.args.traced.now.ways) g.S.Sink.seen c.args.traced.now.iface (cut (One c.args.traced.now.iface) records) c.args.file.now c.loop-event.file c.write_some.new.file (shown before) (shown after) after.kept
          (next_shown (cut (One c.args.traced.now.iface) records) before after on) (c.loop-event.invariant.front records trace)
          (subst (λ l. WroteOn g.S.Sink.seen c.loop-event.file c.write_some.new.file (written_at c.loop-event.file.form c.args.traced.now.iface (going c.args.traced.now.ways l))) c.trace.ensures c.in_ok-write_some.ensures);
    }

pub returns : goal.returns
returns g c records trace =
    some_records (going c.args.traced.now.ways) refl (going_both c.args.traced.now.ways) g.S.Sink.seen c.args.traced.now.iface (cut (One c.args.traced.now.iface) records) c.args.file.now c.loop-event.file (shown c.loop-event.tracer.records) (c.loop-event.invariant.front records trace)
