use Rattle.std.proofs.Common.{◌≡◌, ◌+◌, ◌-◌, ◌≤◌, ℕ, List}
use Rattle.nm_model.specs.Knowledge.{Know}
use Rattle.nm_model.specs.Replica.{safe_time}
use Rattle.nm_sim.specs.Network.{net_of}
use Rattle.nm_book.specs.Book.{knowledge_of}
use Rattle.nm_book.specs.BookPart.{IsBook}
use Rattle.nm_book.proofs.running.run_part.Given as goal

abbrev pub invariant-loop-done : goal.invariant-loop-done
invariant-loop-done l = record {
  steps : l.part.steps ≡ l.fn.part.steps + l.done;
  keeping : l.part.records.keeping ≡ l.fn.part.records.keeping;
  most : l.done ≤ l.fn.limit;
  book : (p : ℕ) (knows : List (Know (List ℕ))) → IsBook l.topology p knows l.fn.part
      → l.fn.safe ≡ safe_time (net_of l.topology) p (knowledge_of l.topology knows) → IsBook l.topology p knows l.part;
}

abbrev pub decreases-loop-done : goal.decreases-loop-done
decreases-loop-done l = l.limit - l.done
