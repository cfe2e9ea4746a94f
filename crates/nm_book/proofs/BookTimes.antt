-- The times of the records of a replica.
use Rattle.std.proofs.Common.{◌≡◌, ℕ, ◌<◌, ◌≤◌, refl, All, arith}
use Rattle.std.proofs.lemmas.List.Elements.{All-weaker}
use Rattle.nm_base.specs.declared.limits.TheConstants.{MAX_TIME}
use Rattle.nm_model.specs.Knowledge.{Knowledge}
use Rattle.nm_model.specs.Network.{Net}
use Rattle.nm_model.specs.Partition.{in_part}
use Rattle.nm_model.specs.Replica.{IsWithin, from_scratch, inbox_events, safe_time}
use Rattle.nm_model.specs.Run.{start}
use Rattle.nm_model.proofs.Cut.{safe_stop}
use Rattle.nm_model.proofs.RecordTimes.{run_before}
use Rattle.nm_sim.specs.Network.{net_of}
use Rattle.nm_book.specs.Book.{BookValue, knowledge, state_of}

module _ {P N : Type 0} (net : Net P N) (p : ℕ) (K : Knowledge P) where
  scratch_before : (k : ℕ) → IsWithin net p K k → All (λ r. r.time < safe_time net p K) (from_scratch net p K k).records
  scratch_before k within = run_before net (in_part net p) (safe_time net p K) (start net (in_part net p) (inbox_events net p K)) k refl within

stops : (b : BookValue) → (net_of b.topology).stop ≡ b.topology.stop
unfolding net_of
stops b = refl

-- a replica's trace has no time past the greatest
pub book_times : (b : BookValue) → b.topology.stop ≤ MAX_TIME → IsWithin (net_of b.topology) b.partition (knowledge b) b.events → All (λ r. r.time ≤ MAX_TIME) (state_of b).records
book_times b short within =
    let net = net_of b.topology in
    let low = safe_stop net b.partition (knowledge b) net.ifaces in
    let same = stops b in
    All-weaker (λ r. r.time < safe_time net b.partition (knowledge b)) (λ r. r.time ≤ MAX_TIME) (λ r h. omega (arith, h, low, same, short)) (state_of b).records
    (scratch_before net b.partition (knowledge b) b.events within)
