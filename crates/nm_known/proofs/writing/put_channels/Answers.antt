use Rattle.std.proofs.Common.{◌≡◌, true, ◌<◌, Err, length, rules, subst}
use Rattle.std.proofs.lemmas.Result.{err_from_is_err_and}
use Rattle.std.specs.List.{AllByRecursion}
use Rattle.nm_base.specs.Sink.{WroteAll}
use Rattle.nm_model.specs.Knowledge.{IsKnow}
use Rattle.nm_book.specs.Book.{is_incoming}
use Rattle.nm_files.specs.Writing.{Writes}
use Rattle.nm_frames.specs.Frame.{IsFrame, stream_octets}
use Rattle.nm_known.specs.Known.{channel_known, frames_below, told_of}
use Rattle.nm_known.proofs.Written.{Writes-cut, WroteAll-after, channels_left, fits_channel_more, one_channel_more, one_known_more}
use Rattle.nm_known.proofs.writing.put_channels.Goals as goal

pub returns-in_err-put_if_incoming-clause-octets : goal.returns-in_err-put_if_incoming-clause-octets
returns-in_err-put_if_incoming-clause-octets g c =
    let p = err_from_is_err_and c.from_residual.result c.from_residual.ensures.1 in
    let b = c.args.book.now in
    let n = c.loop-number.number in
    let less : n < length b.topology.receivers = search rules in
    let left = channels_left b n (length b.topology.receivers) less in
    rw (p.1, p.2) (Writes-cut (g.S.Sink.seen c.args.sink.now) (g.S.Sink.seen c.loop-number.sink) (g.S.Sink.seen c.put_if_incoming.new.sink) c.in_err-put_if_incoming.field-0.0 (stream_octets (frames_below b n)) (stream_octets (told_of b n)) left.0 _ left.1
    c.loop-number.invariant.octets
    (subst (λ k. Writes (g.S.Sink.seen c.loop-number.sink) (g.S.Sink.seen c.put_if_incoming.new.sink) (Err c.in_err-put_if_incoming.field-0.0) (stream_octets (told_of b k))) c.channel_number-channel.ensures c.in_err-put_if_incoming.ensures.octets))

pub loop-number-preserved : goal.loop-number-preserved
loop-number-preserved g c =
    let b = c.args.book.now in
    let n = c.loop-number.number in
    let is = c.channel_number-channel.ensures in
    let one = c.in_ok-put_if_incoming.ensures in
    record {
      octets = WroteAll-after (g.S.Sink.seen c.args.sink.now) (g.S.Sink.seen c.loop-number.sink) (g.S.Sink.seen c.put_if_incoming.new.sink) (stream_octets (frames_below b n)) (stream_octets (told_of b n)) _ (one_channel_more b n)
          c.loop-number.invariant.octets (subst (λ k. WroteAll (g.S.Sink.seen c.loop-number.sink) (g.S.Sink.seen c.put_if_incoming.new.sink) (stream_octets (told_of b k))) is one.octets);
      fits = fits_channel_more b n c.loop-number.invariant.fits (subst (λ k. AllByRecursion IsFrame (told_of b k)) is one.fits);
      known = one_known_more b n c.loop-number.invariant.known (subst (λ k. is_incoming b k ≡ true → IsKnow (channel_known b k)) is one.known);
    }
