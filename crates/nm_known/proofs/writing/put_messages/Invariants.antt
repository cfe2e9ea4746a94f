use Rattle.std.proofs.Common.{◌≤◌, length, take}
use Rattle.std.specs.List.{AllByRecursion}
use Rattle.nm_base.specs.Sink.{WroteAll}
use Rattle.nm_frames.specs.Frame.{IsFrame}
use Rattle.nm_known.specs.Known.{message_frames}
use Rattle.nm_known.proofs.Written.{first_octets}
use Rattle.nm_known.proofs.writing.put_messages.Given as goal

abbrev pub invariant-loop-number : goal.invariant-loop-number
invariant-loop-number g l = record {
  within : l.number ≤ length l.know.list;
  front : WroteAll (g.S.Sink.seen l.fn.sink) (g.S.Sink.seen l.sink) (first_octets l.channel l.know.list l.number);
  fits : AllByRecursion IsFrame (message_frames l.channel 0 (take l.number l.know.list));
}
