use Rattle.std.specs.List.{AllByRecursion}
use Rattle.nm_base.specs.Sink.{WroteAll}
use Rattle.nm_frames.specs.Frame.{IsFrame, stream_octets}
use Rattle.nm_known.specs.Known.{AreKnown, frames_below}
use Rattle.nm_known.proofs.writing.put_channels.Given as goal

abbrev pub invariant-loop-number : goal.invariant-loop-number
invariant-loop-number g l = record {
  octets : WroteAll (g.S.Sink.seen l.fn.sink) (g.S.Sink.seen l.sink) (stream_octets (frames_below l.book l.number));
  fits : AllByRecursion IsFrame (frames_below l.book l.number);
  known : AreKnown l.book l.number;
}
