-- The times of the records of a run.
use Rattle.std.proofs.Common.{ℕ, ◌<◌, ◌≤◌, min, All, List, sym, subst, arith}
use Rattle.std.proofs.lemmas.List.Elements.{All-weaker}
use Rattle.nm_base.specs.declared.record.Record.{Record}
use Rattle.nm_base.specs.declared.limits.TheConstants.{MAX_TIME}
use Rattle.nm_model.specs.Run.{one_list}
use Rattle.nm_model.proofs.RecordTimes.{records_before}
use Rattle.nm_topology.specs.TopologyValue.{TopologyValue}
use Rattle.nm_sim.specs.Network.{net_of}
use Rattle.nm_sim.specs.Trace.{IsTraceBefore}

-- a trace has no time past the greatest
pub trace_times : (t : TopologyValue) (until : ℕ) (records : List (Record (List ℕ))) → t.stop ≤ MAX_TIME → IsTraceBefore t until records → All (λ r. r.time ≤ MAX_TIME) records
trace_times t until records short trace =
    subst (All (λ r. r.time ≤ MAX_TIME)) (sym trace.2)
    (All-weaker (λ r. r.time < min until t.stop) (λ r. r.time ≤ MAX_TIME) (λ r h. omega (arith, h, short)) (one_list (net_of t) trace.0).records
    (records_before (net_of t) (min until t.stop) trace.0 trace.1.first))
