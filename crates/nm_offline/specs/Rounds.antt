-- The word `rounds`: all partitions in rounds.
use Rattle.std.specs.Prelude.{◌≡◌, ◌⊎◌, ℕ, List, ◌++◌, Ok, codes, decimal}
use Rattle.nm_base.specs.declared.record.Record.{Record}
use Rattle.nm_topology.specs.Topology.{topology_of}
use Rattle.nm_topology.specs.TopologyValue.{TopologyValue}
use Rattle.nm_sim.specs.Totals.{totals_of}
use Rattle.nm_sim.specs.Trace.{IsTraceBefore}
use Rattle.nm_book.specs.Book.{BookValue}
use Rattle.nm_rounds.specs.Rounds.{AreDoneWithin, AreUnfinished}
use Rattle.nm_command.specs.declared.status.Status.{Status}
use Rattle.nm_command.specs.declared.status.Status.TheVariants.{Done, Stalled}
use Rattle.nm_offline.specs.Input.{IsRefused}
use Rattle.nm_offline.specs.Lines.{AreTotals, iface_lines}
use Rattle.nm_offline.specs.Output.{EndsWord, Exchange, FailsOfInput, SaysOfInput}

-- All was first done in this round, one of at most so many. Each interface has what it has in the
-- trace of the one event list, over the whole run.
pub record SaysDone (max : ℕ) (text octets : List ℕ) : Type 0 where
  pub network : TopologyValue
  pub read : topology_of text ≡ Ok network
  pub rounds : ℕ
  pub books : List BookValue
  pub done : AreDoneWithin network max rounds books
  pub records : List (Record (List ℕ))
  pub trace : IsTraceBefore network network.stop records
  pub said : octets ≡ codes "done " ++ decimal rounds ++ codes "\n"
      ++ iface_lines (λ i. totals_of i records) network

-- Something is left to do after so many rounds. Each interface has what the replica of its
-- partition has made of it.
pub record SaysUnfinished (max : ℕ) (text octets : List ℕ) : Type 0 where
  pub network : TopologyValue
  pub read : topology_of text ≡ Ok network
  pub books : List BookValue
  pub left : AreUnfinished network max max books
  pub totals : ℕ → ℕ × ℕ
  pub are : AreTotals network books totals
  pub said : octets ≡ codes "unfinished " ++ decimal max ++ codes "\n" ++ iface_lines totals network

-- either is printed with its own status
abbrev pub SaysRounds : ℕ → List ℕ → Status → List ℕ → Type 0
SaysRounds max text status octets =
    ((status ≡ Done) × SaysDone max text octets)
    ⊎ ((status ≡ Stalled) × SaysUnfinished max text octets)

-- the meaning of each status
module _ {S : Type 0} (before after : Exchange S) where
  abbrev pub EndsRounds : List ℕ → ℕ → Status → Type 0
  EndsRounds topology max status =
      EndsWord before after (SaysOfInput before.inputs topology (SaysRounds max))
      (FailsOfInput before.inputs after.inputs topology IsRefused) status
