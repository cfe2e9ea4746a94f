-- What holds of rounds.
use Rattle.std.specs.Prelude.{◌≡◌, ℕ, suc, ◌*◌, ◌≤◌, true, false}
use Rattle.nm_model.specs.Network.{Net}
use Rattle.nm_model.specs.Run.{pends_before}
use Rattle.nm_model.specs.Partition.{comes_in}
use Rattle.nm_model.specs.Replica.{safe_time}
use Rattle.nm_model.specs.Promise.{Promising, lookahead}
use Rattle.nm_model.specs.Before.{IsKnowledge}
use Rattle.nm_model.specs.World.{Replica, state_of}
use Rattle.nm_model.specs.WorldLaws.{HasWholeTrace}

module _ {P N : Type 0} (net : Net P N) (kind : Promising) where
  -- each channel's lookahead is at least this
  abbrev pub IsLead : ℕ → Type 0
  IsLead lead = (p c : ℕ) → comes_in net p c ≡ true → lead ≤ lookahead net kind c

  -- of the books b of rounds: b j p is that of partition p after j of them
  module _ (b : ℕ → ℕ → Replica P) where
    -- the book of partition p, once it has run in the round after j of them
    abbrev pub has_run : ℕ → ℕ → Replica P
    has_run j p = record { knowledge = (b j p).knowledge; ran = (b (suc j) p).ran }

    pub record RoundsBound : Type 0 where
      -- all that is known is true of the network
      pub valid : (j p : ℕ) → IsKnowledge net p (b j p).knowledge
      -- a partition whose safe time is `stop` has its whole trace once it has run
      pub early : (j p : ℕ) → safe_time net p (b j p).knowledge ≡ net.stop
          → HasWholeTrace net p (has_run j p)
      -- all is done in the round after j of them, once j times the lookahead reaches `stop`
      pub done : (lead : ℕ) → IsLead lead → (j p : ℕ) → net.stop ≤ j * lead
          → (safe_time net p (b j p).knowledge ≡ net.stop)
          × (pends_before net.stop (state_of net p (has_run j p)) ≡ false)
      pub traces : (lead : ℕ) → IsLead lead → (j p : ℕ) → net.stop ≤ j * lead
          → HasWholeTrace net p (has_run j p)
