use Rattle.std.proofs.Common.{subst}
use Rattle.nm_files.specs.Writing.{Writes}
use Rattle.nm_frames.specs.Frame.{data_frame, frame_octets}
use Rattle.nm_known.proofs.writing.put_message.Goals as goal

pub returns-clause-octets : goal.returns-clause-octets
returns-clause-octets g c =
    subst (λ p. Writes (g.S.Sink.seen c.args.sink.now) (g.S.Sink.seen c.put.new.sink) c.put.result (frame_octets (data_frame c.args.channel c.args.number c.args.message.0 p)))
    c.in_ok-clone.ensures.cases
    c.put.ensures.octets
