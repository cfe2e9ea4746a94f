use Rattle.std.proofs.Common.{◌≡◌, ◌≤◌, ◌<◌, inl, inr, refl, rules, true, arith}
use Rattle.std.proofs.lemmas.Bool.Decides.{nat_tests}
use Rattle.std.specs.Prelude.{nat_le}
use Rattle.nm_replica.specs.declared.limits.TheConstants.{MAX_HAND_OUTS, MAX_HANDED}
use Rattle.nm_replica.proofs.Recordings.{counted_more, counted_none, on_error, streamed_more, streams_more, streams_none}
use Rattle.nm_replica.proofs.recording.write_records.Goals as goal

pub returns-then-service-clause-streams : goal.returns-then-service-clause-streams
returns-then-service-clause-streams g c = streams_none g.C.Counts.exact g.C.Counts.home g.S.Sink.seen c.args.files.now.files.items

pub loop-turn-init : goal.loop-turn-init
loop-turn-init g c = record {
  streams = streams_none g.C.Counts.exact g.C.Counts.home g.S.Sink.seen c.args.files.now.files.items;
  wrote = counted_none g.C.Counts.exact g.C.Counts.home g.S.Sink.seen c.args.files.now.files.items;
  more = inl refl;
  many = omega arith;
  last = λ is. absurd cc;
}

pub returns-then-not-some-clause-streams : goal.returns-then-not-some-clause-streams
returns-then-not-some-clause-streams g c =
    streams_more g.C.Counts.exact g.C.Counts.home g.S.Sink.seen c.args.files.now.files.items c.loop-turn.files.files.items c.write_some.new.files.files.items c.loop-turn.invariant.streams (c.in_ok-some.some.written, c.in_ok-some.ensures.wrote)

pub loop-turn-preserved : goal.loop-turn-preserved
loop-turn-preserved g c =
    let more : c.in_ok-some.some.has_more ≡ true = search rules in
    let full : nat_le MAX_HANDED c.in_ok-some.some.written ≡ true = search rules in
    let one : MAX_HANDED ≤ c.in_ok-some.some.written = grind (arith, nat_tests, full) in
    let low : c.loop-turn.turn < MAX_HAND_OUTS = search rules in
    let so_far = c.loop-turn.invariant.many in
    record {
      many = omega (arith, one, low, so_far);
      streams =
          streams_more g.C.Counts.exact g.C.Counts.home g.S.Sink.seen c.args.files.now.files.items c.loop-turn.files.files.items c.write_some.new.files.files.items
          c.loop-turn.invariant.streams (c.in_ok-some.some.written, c.in_ok-some.ensures.wrote);
      wrote =
          counted_more g.C.Counts.exact g.C.Counts.home g.S.Sink.seen c.args.files.now.files.items c.loop-turn.files.files.items c.write_some.new.files.files.items c.loop-turn.all.written
          c.in_ok-some.some.written _ c.loop-turn.invariant.wrote c.in_ok-some.ensures.wrote (search rules);
      more = inr (search rules);
      last = c.in_ok-some.ensures.last;
    }

pub returns-then-service-clause-wrote : goal.returns-then-service-clause-wrote
returns-then-service-clause-wrote g c = counted_none g.C.Counts.exact g.C.Counts.home g.S.Sink.seen c.args.files.now.files.items

pub returns-then-not-some-clause-wrote : goal.returns-then-not-some-clause-wrote
returns-then-not-some-clause-wrote g c =
    counted_more g.C.Counts.exact g.C.Counts.home g.S.Sink.seen c.args.files.now.files.items c.loop-turn.files.files.items c.write_some.new.files.files.items c.loop-turn.all.written
    c.in_ok-some.some.written _ c.loop-turn.invariant.wrote c.in_ok-some.ensures.wrote (search rules)

pub returns-in_err-some-clause-so_far : goal.returns-in_err-some-clause-so_far
returns-in_err-some-clause-so_far g c =
    on_error c.from_residual.result
    (streamed_more g.C.Counts.exact g.C.Counts.home g.S.Sink.seen c.args.files.now.files.items c.loop-turn.files.files.items c.write_some.new.files.files.items
    c.loop-turn.invariant.streams c.in_err-some.ensures.so_far)
