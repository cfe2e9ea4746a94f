use Rattle.std.proofs.Common.{◌∙◌, ap, subst}
use Rattle.nm_files.specs.Writing.{Writes}
use Rattle.nm_frames.specs.Frame.{frame_octets}
use Rattle.nm_known.proofs.Written.{hello_is}
use Rattle.nm_known.proofs.writing.put_hello.Goals as goal

pub returns-clause-octets : goal.returns-clause-octets
returns-clause-octets g c =
    subst (λ f. Writes (g.S.Sink.seen c.args.sink.now) (g.S.Sink.seen c.put.new.sink) c.put.result (frame_octets f))
    (hello_is c.args.book.now c.number.result c.partition.result c.replica.result c.digest.result c.number.ensures c.partition.ensures c.replica.ensures (c.digest.ensures ∙ ap (λ t. t.digest) c.topology.ensures))
    c.put.ensures.octets
