use Rattle.std.proofs.Common.{◌≡◌, ◌≤◌, ℕ, List, length}
use Rattle.std.specs.Vec.Iter.{into_iter_items}
use Rattle.nm_model.specs.Knowledge.{Know}
use Rattle.nm_book.specs.BookPart.{IsBook, room_in}
use Rattle.nm_book.specs.Telling.{Follow, told_each}
use Rattle.nm_book.proofs.learning.put_messages.Given as goal

abbrev pub invariant-loop-message : goal.invariant-loop-message
invariant-loop-message l = record {
  steps : l.part.steps ≡ l.fn.part.steps;
  keeping : l.part.records.keeping ≡ l.fn.part.records.keeping;
  room : length (into_iter_items l.message-iterator) ≤ room_in l.part.timeline.events;
  book : (knows : List (Know (List ℕ))) → IsBook l.topology l.partition knows l.fn.part → Follow l.topology l.partition knows l.fn.messages.items
      → (now : List (Know (List ℕ))) × IsBook l.topology l.partition now l.part × Follow l.topology l.partition now (into_iter_items l.message-iterator)
      × (told_each now (into_iter_items l.message-iterator) ≡ told_each knows l.fn.messages.items);
}
