use Rattle.std.proofs.Common.{length}
use Rattle.std.proofs.lemmas.Result.{err_from_is_err_and}
use Rattle.nm_files.proofs.Pieces.{Writes-more}
use Rattle.nm_frames.specs.Frame.{frame_octets, stream_octets}
use Rattle.nm_known.specs.Known.{frames_below, replica_hello}
use Rattle.nm_known.proofs.Written.{Writes-after}
use Rattle.nm_known.proofs.writing.write_known.Goals as goal

pub returns-in_err-put_hello-clause-octets : goal.returns-in_err-put_hello-clause-octets
returns-in_err-put_hello-clause-octets g c =
    let p = err_from_is_err_and c.from_residual.result c.from_residual.ensures.1 in
    let b = c.args.book.now in
    rw (p.1, p.2) (Writes-more (g.S.Sink.seen c.args.sink.now) (g.S.Sink.seen c.put_hello.new.sink) c.in_err-put_hello.field-0.0 (frame_octets (replica_hello b)) (stream_octets (frames_below b (length b.topology.receivers))) c.in_err-put_hello.ensures.octets)

pub returns-clause-octets : goal.returns-clause-octets
returns-clause-octets g c =
    let b = c.args.book.now in
    Writes-after (g.S.Sink.seen c.args.sink.now) (g.S.Sink.seen c.put_hello.new.sink) (g.S.Sink.seen c.put_channels.new.sink) c.put_channels.result (frame_octets (replica_hello b)) (stream_octets (frames_below b (length b.topology.receivers)))
    c.in_ok-put_hello.ensures.octets c.put_channels.ensures.octets
