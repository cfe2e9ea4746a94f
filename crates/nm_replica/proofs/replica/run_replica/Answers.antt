use Rattle.std.proofs.Common.{rules, ◌≡◌, ◌≤◌, ◌<◌, ◌+◌, Some, ap, refl, subst, sym, ◌∙◌, arith}
use Rattle.nm_replica.specs.Polls.{is_active}
use Rattle.nm_replica.proofs.Endings.{net_alone}
use Rattle.nm_base.specs.Count.{saturated}
use Rattle.nm_replica.specs.Polls.{ending_of}
use Rattle.nm_replica.specs.declared.limits.TheConstants.{MAX_POLLS}
use Rattle.nm_replica.specs.declared.served.Served.TheVariants.{Stalled}
use Rattle.nm_replica.proofs.Polls.{ends_after, idles_wait, stalled_polls}
use Rattle.nm_replica.proofs.Recordings.{streamed_all, streamed_more, streamed_none, streams_more, streams_none}
use Rattle.nm_replica.proofs.replica.run_replica.Goals as goal

pub loop-made-init : goal.loop-made-init
loop-made-init g c =
    let none : c.in-Ok.running.idle ≡ 0 = c.in-Ok.ensures.0 in
    record {
      seats = (refl, refl);
      passes = refl;
      idle = omega (arith, none);
      polls = c.in-Ok.ensures.1;
      waits = search rules;
      streams = streams_none g.C.Counts.exact g.C.Counts.home g.S.Sink.seen c.args.holdings.now.files.files.items;
    }

pub returns-in-Ok-Some-clause-streams : goal.returns-in-Ok-Some-clause-streams
returns-in-Ok-Some-clause-streams g c = λ _.
    streams_more g.C.Counts.exact g.C.Counts.home g.S.Sink.seen c.args.holdings.now.files.files.items c.loop-made.holdings.files.files.items
    c.poll_replica.new.holdings.files.files.items c.loop-made.invariant.streams c.in-Ok-Some.ensures.streams

pub returns-in-Ok-Some-clause-ends : goal.returns-in-Ok-Some-clause-ends
returns-in-Ok-Some-clause-ends g c =
    let start = g.T.Transport.elapsed_periods c.args.transport.now in
    let before = g.T.Transport.elapsed_periods c.loop-made.transport in
    let after = g.T.Transport.elapsed_periods c.poll_replica.new.transport in
    let one = c.in-Ok-Some.ensures.exact in
    let happened = one.4 in
    ends_after g.C.Counts.exact g.C.Counts.home c.args.service.now.keeps_records c.args.service.now.idle_limit start after _
    c.poll_replica.new.running.idle c.poll_replica.new.running.polls one.0.is_done c.in-Ok-Some.served happened.3
    (subst (λ i. start + i ≤ after) (sym one.1) (idles_wait c.loop-made.running.idle (is_active one.0.octets one.0.written one.0.was_run) one.0.ran_out start before after c.loop-made.invariant.idle one.2))
    (sym one.3 ∙ c.in-Ok-Some.field-0-is)

pub loop-made-preserved : goal.loop-made-preserved
loop-made-preserved g c =
    let start = g.T.Transport.elapsed_periods c.args.transport.now in
    let before = g.T.Transport.elapsed_periods c.loop-made.transport in
    let after = g.T.Transport.elapsed_periods c.poll_replica.new.transport in
    let one = c.in-Ok-None.ensures.exact in
    record {
      seats = (c.in-Ok-None.ensures.seats.0 ∙ c.loop-made.invariant.seats.0, c.in-Ok-None.ensures.seats.1 ∙ c.loop-made.invariant.seats.1);
      passes = c.in-Ok-None.ensures.passes ∙ c.loop-made.invariant.passes;
      idle = subst (λ i. start + i ≤ after) (sym one.1) (idles_wait c.loop-made.running.idle (is_active one.0.octets one.0.written one.0.was_run) one.0.ran_out start before after c.loop-made.invariant.idle one.2);
      polls = search rules;
      waits = search rules;
      streams = streams_more g.C.Counts.exact g.C.Counts.home g.S.Sink.seen c.args.holdings.now.files.files.items c.loop-made.holdings.files.files.items
          c.poll_replica.new.holdings.files.files.items c.loop-made.invariant.streams c.in-Ok-None.ensures.streams;
    }

pub returns-in_default-clause-so_far : goal.returns-in_default-clause-so_far
returns-in_default-clause-so_far g c = streamed_none g.C.Counts.exact g.C.Counts.home g.S.Sink.seen c.args.holdings.now.files.files.items

pub returns-in-Ok-Some-clause-so_far : goal.returns-in-Ok-Some-clause-so_far
returns-in-Ok-Some-clause-so_far g c =
    let before = c.args.holdings.now.files.files.items in
    let after = c.poll_replica.new.holdings.files.files.items in
    streamed_all g.C.Counts.exact g.C.Counts.home g.S.Sink.seen before after
    (streams_more g.C.Counts.exact g.C.Counts.home g.S.Sink.seen before c.loop-made.holdings.files.files.items after c.loop-made.invariant.streams c.in-Ok-Some.ensures.streams)

pub returns-in-Err-clause-so_far : goal.returns-in-Err-clause-so_far
returns-in-Err-clause-so_far g c =
    streamed_more g.C.Counts.exact g.C.Counts.home g.S.Sink.seen c.args.holdings.now.files.files.items c.loop-made.holdings.files.files.items
    c.poll_replica.new.holdings.files.files.items c.loop-made.invariant.streams c.in-Err.ensures.so_far

pub returns-in-Err-clause-streams : goal.returns-in-Err-clause-streams
returns-in-Err-clause-streams g c = λ is.
    net_alone c.in-Err.served is c.in-Err.ensures.early
    (λ net. streams_more g.C.Counts.exact g.C.Counts.home g.S.Sink.seen c.args.holdings.now.files.files.items c.loop-made.holdings.files.files.items
    c.poll_replica.new.holdings.files.files.items c.loop-made.invariant.streams (c.in-Err.ensures.net net))

pub returns-in-Ok-Some-clause-polls : goal.returns-in-Ok-Some-clause-polls
returns-in-Ok-Some-clause-polls g c = λ polls is.
    let one = c.in-Ok-Some.ensures.exact in
    let made = c.poll_replica.new.running.polls in
    let ending : ending_of one.0.is_done c.poll_replica.new.running.idle c.args.service.now.idle_limit made ≡ Some (Stalled polls) = sym one.3 ∙ c.in-Ok-Some.field-0-is ∙ ap Some is in
    let told : made ≡ polls = stalled_polls one.0.is_done c.poll_replica.new.running.idle c.args.service.now.idle_limit made polls ending in
    let before : c.loop-made.running.polls ≡ c.loop-made._made = c.loop-made.invariant.polls in
    let after : made ≡ saturated (c.loop-made.running.polls + 1) = c.in-Ok-Some.ensures.polls in
    let low : c.loop-made._made < MAX_POLLS = search rules in
    let waits = c.loop-made.invariant.waits in
    let wait = c.in-Ok-Some.ensures.waits in
    omega (arith, told, before, after, low, waits, wait)
