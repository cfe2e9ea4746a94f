-- The calls that are made of a replica, one after another, by whomever.
use Rattle.std.specs.Prelude.{◌≡◌, ℕ, ◌≤◌, List, [], ◌∷◌, slice_index_or, Result}
use Rattle.nm_base.specs.declared.fault.Fault.{Fault}
use Rattle.nm_knowledge.specs.declared.answer.Accepted.{Accepted}
use Rattle.nm_model.specs.Knowledge.{IsKnow, Know, nothing_known}
use Rattle.nm_book.specs.Book.{BookValue, message_channel}
use Rattle.nm_book.specs.Accepting.{Takes, message_taken}
use Rattle.nm_book.specs.Merging.{BookMerges, KnowledgeValue}
use Rattle.nm_book.specs.Running.{Runs}
use Rattle.nm_book.specs.declared.fault.AcceptFault.{AcceptFault}
use Rattle.nm_book.specs.declared.fault.MergeRefusal.{MergeRefusal}
use Rattle.nm_book.specs.declared.message.ChannelMessage.{ChannelMessage}
use Rattle.nm_book.specs.declared.running.Ran.{Ran}

-- it gets a message or a null message, merges what another one knows, does events up to a limit, or
-- has handed out so many records; and what it answers
pub data Call : Type 0 where
  Accepts : ChannelMessage → Result Accepted AcceptFault → Call
  Merges : KnowledgeValue → Result Unit (Fault MergeRefusal) → Call
  RunsFor : ℕ → Ran → Call
  HandsOut : ℕ → Call

-- what the call does
abbrev pub IsCalled : Call → BookValue → BookValue → Type 0
IsCalled (Accepts m r) b c = Takes b c (message_channel m) (message_taken b.knows m) r
IsCalled (Merges k r) b c = BookMerges b c k r
IsCalled (RunsFor limit r) b c = Runs b c limit r
IsCalled (HandsOut n) b c = (b.handed ≤ n) × (c ≡ record b { handed = n })

-- of each channel the times that are known rise, up to the clock
abbrev pub AreInOrder : List (Know (List ℕ)) → Type 0
AreInOrder knows = (c : ℕ) → IsKnow (slice_index_or knows c nothing_known)

-- what it merges is in order too, as that of every replica is
abbrev pub IsFit : Call → Type 0
IsFit (Accepts m r) = Unit {0}
IsFit (Merges k r) = AreInOrder k.knows
IsFit (RunsFor limit r) = Unit {0}
IsFit (HandsOut n) = Unit {0}

-- call by call, each with the replica after it
abbrev pub GoesOn : BookValue → List (Call × BookValue) → BookValue → Type 0
GoesOn b [] last = last ≡ b
GoesOn b (x ∷ more) last = IsFit x.0 × IsCalled x.0 b x.1 × GoesOn x.1 more last
