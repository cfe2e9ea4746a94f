use Rattle.std.proofs.Common.{◌+◌, min, inl, inr, refl, ap, subst, ◌∙◌}
use Rattle.nm_base.specs.Sink.{WroteAll, WrotePrefix}
use Rattle.std.proofs.lemmas.Result.{err_from_is_err_and}
use Rattle.nm_offline.specs.Series.{IsStepOf, columns_of}
use Rattle.nm_offline.proofs.Stepping.{begins, goes_on, is_cut}
use Rattle.nm_offline.proofs.series.write_from_begin.Goals as goal

pub loop-init : goal.loop-init
loop-init g c =
    let t = c.args.topology.now in
    record {
      series = c.requires.series;
      step = refl;
      going = begins (IsStepOf c.args.subject t) (columns_of c.args.subject) c.args.series.now.step t.stop (g.S.Sink.seen c.args.sink.now) (g.S.Sink.seen c.put.new.sink) c.args.series.now.time
          (subst (λ l. WroteAll (g.S.Sink.seen c.args.sink.now) (g.S.Sink.seen c.put.new.sink) l) c.columns_of.ensures c.in_ok-put.ensures.whole) c.requires.begin;
    }

pub loop-preserved : goal.loop-preserved
loop-preserved g c =
    let t = c.args.topology.now in
    let next = rw c.in-Some.is at c.in_ok-text.ensures in
    record {
      series = next.0;
      step = next.3 ∙ c.loop.invariant.step;
      going = goes_on (IsStepOf c.args.subject t) (columns_of c.args.subject) c.args.series.now.step t.stop (g.S.Sink.seen c.args.sink.now) (g.S.Sink.seen c.loop.sink) (g.S.Sink.seen c.put-in-loop.new.sink)
          c.loop.series.time c.next.new.self.time c.in-Some.text.items c.loop.invariant.going next.1
          (next.2 ∙ ap (λ s. min (c.loop.series.time + s) t.stop) c.loop.invariant.step) (c.requires.tells _ _ _ next.4)
          (subst (λ l. WroteAll (g.S.Sink.seen c.loop.sink) (g.S.Sink.seen c.put-in-loop.new.sink) l) c.as_slice.ensures.value c.in_ok-put-2.ensures.whole);
    }

pub returns-in_err-put : goal.returns-in_err-put
returns-in_err-put g c =
    let p = err_from_is_err_and c.from_residual.result c.from_residual.ensures.1 in
    let cut = c.in_err-put.ensures.cut in
    rw (p.1, p.2, cut.0) (inr (inl (
      refl,
      (
        0,
        columns_of c.args.subject,
        refl,
        subst (λ l. WrotePrefix (g.S.Sink.seen c.args.sink.now) (g.S.Sink.seen c.put.new.sink) l) c.columns_of.ensures cut.1,
      ),
    )))

pub returns-in_err-text : goal.returns-in_err-text
returns-in_err-text g c =
    let p = err_from_is_err_and c.from_residual-in_err-text.result c.from_residual-in_err-text.ensures.1 in
    let so_far = c.loop.invariant.going in
    rw (p.1, p.2) (inr (inr (refl, inr (so_far.steps, so_far.octets, so_far.told, so_far.wrote))))

pub returns-in_err-put-2 : goal.returns-in_err-put-2
returns-in_err-put-2 g c =
    let t = c.args.topology.now in
    let p = err_from_is_err_and c.from_residual-in_err-put-2.result c.from_residual-in_err-put-2.ensures.1 in
    let next = rw c.in-Some.is at c.in_ok-text.ensures in
    let cut = c.in_err-put-2.ensures.cut in
    rw (p.1, p.2, cut.0) (inr (inl (
      refl,
      is_cut (IsStepOf c.args.subject t) (columns_of c.args.subject) c.args.series.now.step t.stop (g.S.Sink.seen c.args.sink.now) (g.S.Sink.seen c.loop.sink)
          (g.S.Sink.seen c.put-in-loop.new.sink) c.loop.series.time c.next.new.self.time c.in-Some.text.items c.loop.invariant.going
          (next.2 ∙ ap (λ s. min (c.loop.series.time + s) t.stop) c.loop.invariant.step) (c.requires.tells _ _ _ next.4)
          (subst (λ l. WrotePrefix (g.S.Sink.seen c.loop.sink) (g.S.Sink.seen c.put-in-loop.new.sink) l) c.as_slice.ensures.value cut.1),
    )))
