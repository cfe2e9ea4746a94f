use Rattle.std.proofs.Common.{ap₂, subst}
use Rattle.nm_files.specs.Writing.{Writes}
use Rattle.nm_frames.specs.Frame.{frame_octets, null_frame}
use Rattle.nm_known.proofs.Written.{channel_written}
use Rattle.nm_known.proofs.writing.put_channel.Goals as goal

pub returns-clause-octets : goal.returns-clause-octets
returns-clause-octets g c =
    channel_written (g.S.Sink.seen c.args.sink.now) (g.S.Sink.seen c.put_messages.new.sink) (g.S.Sink.seen c.put.new.sink) c.put.result c.args.channel c.args.know.now c.in_ok-put_messages.ensures.octets
    (subst (λ f. Writes (g.S.Sink.seen c.put_messages.new.sink) (g.S.Sink.seen c.put.new.sink) c.put.result (frame_octets f)) (ap₂ (null_frame c.args.channel) c.len.ensures.value c.clock.ensures.value) c.put.ensures.octets)
