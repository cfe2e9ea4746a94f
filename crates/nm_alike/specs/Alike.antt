-- When two replicas are the same in all that they answer.
use Rattle.std.specs.Prelude.{◌≡◌, ℕ, ◌<◌, drop, length, slice_index_or, List, Option}
use Rattle.nm_model.specs.Certificate.{is_done}
use Rattle.nm_model.specs.Knowledge.{Know, nothing_known}
use Rattle.nm_model.specs.Promise.{Promising, Plain, Tight}
use Rattle.nm_sim.specs.Network.{net_of}
use Rattle.nm_book.specs.Book.{BookValue, is_incoming, is_outgoing, only_if, promise_on}
use Rattle.nm_book.specs.Book.{replica_of, safe_of, sent_over, state_of}

-- what a replica knows of channel c, if that comes in
abbrev pub known_on : BookValue → ℕ → Option (Know (List ℕ))
known_on b c = only_if (is_incoming b c) (slice_index_or b.knows c nothing_known)

-- what it promises of it, if that goes out
abbrev pub promised_on : Promising → BookValue → ℕ → Option ℕ
promised_on kind b c = only_if (is_outgoing b c) (promise_on kind b c)

-- Two know the same of channel c, sent the same on it, and promise the same of it.
pub record AgreeOn (a b : BookValue) (c : ℕ) : Type 0 where
  pub know : known_on a c ≡ known_on b c
  pub sent : only_if (is_outgoing a c) (sent_over a c)
      ≡ only_if (is_outgoing b c) (sent_over b c)
  pub promise : promised_on Tight a c ≡ promised_on Tight b c
  pub old_promise : promised_on Plain a c ≡ promised_on Plain b c

-- They agree on the channels below a number, are as far, and have the same trace.
pub record AnswerAlike (a b : BookValue) (channels : ℕ) : Type 0 where
  pub agree : (c : ℕ) → c < channels → AgreeOn a b c
  pub safe : safe_of a ≡ safe_of b
  pub events : a.events ≡ b.events
  pub done : is_done (net_of a.topology) a.partition (replica_of a)
      ≡ is_done (net_of b.topology) b.partition (replica_of b)
  pub handed : a.handed ≡ b.handed
  pub records : length (state_of a).records ≡ length (state_of b).records
  pub trace : drop a.handed (state_of a).records ≡ drop b.handed (state_of b).records
