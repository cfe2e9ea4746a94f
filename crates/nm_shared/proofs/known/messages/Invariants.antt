use Rattle.std.proofs.Common.{◌≡◌, ◌*◌, ◌^◌, ◌≤◌}
use Rattle.nm_shared.specs.Known.{messages_below}
use Rattle.nm_shared.proofs.known.messages.Given as goal

abbrev pub invariant-loop-channel : goal.invariant-loop-channel
invariant-loop-channel l = record {
  value : l.sum ≡ messages_below l.book.topology l.book.partition l.book.knows l.channel;
  most : l.sum ≤ l.channel * 2 ^ 50;
}
