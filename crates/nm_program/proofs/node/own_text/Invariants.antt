use Rattle.std.proofs.Common.{[], ◌≤◌, length}
use Rattle.nm_book.specs.Book.{state_of}
use Rattle.nm_program.specs.Node.{own_line}
use Rattle.nm_offline.proofs.InterfaceLines.{HasGiven}
use Rattle.nm_program.proofs.node.own_text.Given as goal

abbrev pub invariant-loop-number : goal.invariant-loop-number
invariant-loop-number l = record {
  within : l.number ≤ length l.topology.ifaces;
  so_far : HasGiven (own_line l.topology l.partition (state_of l.book).records) l.topology.ifaces l.number [] l.text.items;
}
