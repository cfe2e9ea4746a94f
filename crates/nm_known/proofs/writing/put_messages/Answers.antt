use Rattle.std.proofs.Common.{arith}
use Rattle.std.proofs.lemmas.Result.{err_from_is_err_and}
use Rattle.nm_frames.specs.Frame.{data_frame, frame_octets, stream_octets}
use Rattle.nm_known.specs.Known.{message_frames}
use Rattle.nm_known.proofs.Written.{Writes-cut, WroteAll-after, first_octets, fits_more, message_there, one_message_more, others_left}
use Rattle.nm_known.proofs.writing.put_messages.Goals as goal

pub returns-in_err-put_message-clause-octets : goal.returns-in_err-put_message-clause-octets
returns-in_err-put_message-clause-octets g c =
    let p = err_from_is_err_and c.from_residual.result c.from_residual.ensures.1 in
    let channel = c.args.channel in
    let list = c.args.know.now.list in
    let n = c.loop-number.number in
    let there = message_there list n (c.in-Some.message.0, c.in-Some.message.1.now) c.in-Some.ensures in
    let left = others_left channel list n c.in-Some.message.0 c.in-Some.message.1.now c.loop-number.invariant.within there.1 in
    rw (p.1, p.2) (Writes-cut (g.S.Sink.seen c.args.sink.now) (g.S.Sink.seen c.loop-number.sink) (g.S.Sink.seen c.put_message.new.sink) c.in_err-put_message.field-0.0 (first_octets channel list n)
    (frame_octets (data_frame channel n c.in-Some.message.0 c.in-Some.message.1.now)) left.0 (stream_octets (message_frames channel 0 list)) left.1 c.loop-number.invariant.front c.in_err-put_message.ensures.octets)

pub loop-number-preserved : goal.loop-number-preserved
loop-number-preserved g c =
    let channel = c.args.channel in
    let list = c.args.know.now.list in
    let n = c.loop-number.number in
    let there = message_there list n (c.in-Some.message.0, c.in-Some.message.1.now) c.in-Some.ensures in
    record {
      within = let low = there.0 in omega (arith, low);
      front = WroteAll-after (g.S.Sink.seen c.args.sink.now) (g.S.Sink.seen c.loop-number.sink) (g.S.Sink.seen c.put_message.new.sink) (first_octets channel list n) (frame_octets (data_frame channel n c.in-Some.message.0 c.in-Some.message.1.now)) _
          (one_message_more channel list n c.in-Some.message.0 c.in-Some.message.1.now c.loop-number.invariant.within there.1) c.loop-number.invariant.front c.in_ok-put_message.ensures.octets;
      fits = fits_more channel list n c.in-Some.message.0 c.in-Some.message.1.now c.loop-number.invariant.within there.1 c.loop-number.invariant.fits c.in_ok-put_message.ensures.fits;
    }
