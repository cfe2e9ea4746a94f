use Rattle.nm_book.specs.Merging.{AreTold}
use Rattle.nm_book.specs.Telling.{Follow, told_each}
use Rattle.nm_book.proofs.merging.new_messages.Given as goal

abbrev pub invariant-loop-number : goal.invariant-loop-number
invariant-loop-number l = record {
  follow : Follow l.topology l.partition l.knows l.messages.items;
  below : AreTold l.topology l.partition l.knows l.others.knows l.number (told_each l.knows l.messages.items);
}
