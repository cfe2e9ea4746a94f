-- The laws of nodes, over the network of a topology.
use Rattle.std.proofs.Common.{◌≡◌, ℕ, ◌+◌, ◌≤◌, ◌<◌, ◌^◌, Bool, true, cond, ◌==◌, List, [], ◌∷◌, length, slice_index, sym, ◌∙◌, arith}
use Rattle.nm_topology.specs.TopologyValue.{TopologyValue}
use Rattle.nm_base.specs.declared.event.Origin.{Origin}
use Rattle.nm_base.specs.declared.event.Origin.TheVariants.{Arrival, Source}
use Rattle.nm_model.specs.Network.{IsNet}
use Rattle.nm_model.specs.Orderly.{IsOrderly}
use Rattle.nm_model.specs.Run.{one_list}
use Rattle.nm_forward.specs.State.{NodeStateValue, table_of}
use Rattle.nm_sim.specs.Network.{net_of}
use Rattle.nm_laws.specs.Offered.{offered_by, offers}
use Rattle.nm_laws.specs.Counted.{arrival_counters, arrivals_at, arrivals_raising, sending_counters, total_of}
use Rattle.nm_forward.specs.declared.row.Row.{Row}
use Rattle.nm_forward.specs.Counter.{counter_number}
use Rattle.nm_forward.specs.Row.{arrival_row, row_counter}
use Rattle.nm_laws.proofs.Counting.{arrivals_are, arrivals_where, gained_few, offers_are, one_arrival, one_arrival_small, one_sent, one_sent_small, total_is}
use Rattle.nm_laws.proofs.Reactions.{IsWhole, all_of_arrivals, arrival_counts, first_arrivals, first_row, first_sendings, first_whole, reaction_sends, reaction_whole, row_counts, row_of_arrivals, source_counts, weight}

module _ (t : TopologyValue) where
  whole_first : (v : ℕ) → IsWhole ((net_of t).first v)
  unfolding net_of
  whole_first v = first_whole t v

  whole_keeps : (v : ℕ) (n : NodeStateValue) (o : Origin) (x : List ℕ) → IsWhole n → IsWhole ((net_of t).react v n o x).0
  unfolding net_of
  whole_keeps v n o x w = reaction_whole t v n x w o

  none_arrived : (v : ℕ) → total_of arrival_counters ((net_of t).first v) ≡ 0
  unfolding net_of
  none_arrived v = first_arrivals t v

  none_sent : (v : ℕ) → total_of sending_counters ((net_of t).first v) ≡ 0
  unfolding net_of
  none_sent v = first_sendings t v

  none_of_row : (r : Row) (v : ℕ) → total_of (row_counter r ∷ []) ((net_of t).first v) ≡ 0
  unfolding net_of
  none_of_row r v = first_row t v r

  arrival_rises : (v : ℕ) (n : NodeStateValue) (o : Origin) (x : List ℕ) → IsWhole n → total_of arrival_counters n + one_arrival (net_of t) (λ u y. true) v n o x < 2 ^ 64
      → total_of arrival_counters ((net_of t).react v n o x).0 ≡ total_of arrival_counters n + one_arrival (net_of t) (λ u y. true) v n o x
  unfolding net_of
  arrival_rises v n (Arrival i) x w below =
      let a = row_counts (arrival_row (table_of t v) x) in
      let b = arrival_counts t v n x w arrival_counters all_of_arrivals i (omega arith) in
      omega arith
  arrival_rises v n (Source j) x w below = source_counts t v n x w arrival_counters all_of_arrivals j below

  -- the test for the counter of a row
  abbrev raises : Row → ℕ → List ℕ → Bool
  raises r v x = counter_number (row_counter r) == counter_number (row_counter (arrival_row (table_of t v) x))

  row_rises : (r : Row) (v : ℕ) (n : NodeStateValue) (o : Origin) (x : List ℕ) → IsWhole n → total_of (row_counter r ∷ []) n + one_arrival (net_of t) (raises r) v n o x < 2 ^ 64
      → total_of (row_counter r ∷ []) ((net_of t).react v n o x).0 ≡ total_of (row_counter r ∷ []) n + one_arrival (net_of t) (raises r) v n o x
  unfolding net_of
  row_rises r v n (Arrival i) x w below =
      let a : weight (row_counter r ∷ []) (row_counter (arrival_row (table_of t v) x)) ≡ cond (raises r v x) 1 0 = omega arith in
      let b = arrival_counts t v n x w (row_counter r ∷ []) (row_of_arrivals r) i (omega arith) in
      omega arith
  row_rises r v n (Source j) x w below = source_counts t v n x w (row_counter r ∷ []) (row_of_arrivals r) j below

  sending_rises : (v : ℕ) (n : NodeStateValue) (o : Origin) (x : List ℕ) → IsWhole n → total_of sending_counters n + one_sent (net_of t) v n o x < 2 ^ 64
      → total_of sending_counters ((net_of t).react v n o x).0 ≡ total_of sending_counters n + one_sent (net_of t) v n o x
  unfolding net_of
  sending_rises v n o x w below = reaction_sends t v n x w o below

  pub arrivals_total : ((n : ℕ) → IsOrderly (net_of t) (λ q. true) (one_list (net_of t) n)) → (v n : ℕ) → length (arrivals_at (net_of t) v (one_list (net_of t) n).records) < 2 ^ 64
      → total_of arrival_counters ((one_list (net_of t) n).node v) ≡ length (arrivals_at (net_of t) v (one_list (net_of t) n).records)
  arrivals_total orderly v n below =
      let e = arrivals_are (net_of t) v n in
      total_is (net_of t) (one_arrival (net_of t) (λ u y. true)) IsWhole whole_first whole_keeps (total_of arrival_counters) none_arrived (2 ^ 64) arrival_rises orderly v n (omega arith) ∙ sym e

  pub row_total : ((n : ℕ) → IsOrderly (net_of t) (λ q. true) (one_list (net_of t) n)) → (r : Row) (v n : ℕ) → length (arrivals_raising t v (row_counter r) (one_list (net_of t) n).records) < 2 ^ 64
      → slice_index ((one_list (net_of t) n).node v).counters (counter_number (row_counter r)) ≡ length (arrivals_raising t v (row_counter r) (one_list (net_of t) n).records)
  row_total orderly r v n below =
      let e = arrivals_where (net_of t) (raises r) v n in
      let f = total_is (net_of t) (one_arrival (net_of t) (raises r)) IsWhole whole_first whole_keeps (total_of (row_counter r ∷ [])) (none_of_row r) (2 ^ 64) (row_rises r) orderly v n (omega arith) in
      omega arith

  pub sendings_total : IsNet (net_of t) → ((n : ℕ) → IsOrderly (net_of t) (λ q. true) (one_list (net_of t) n)) → (v n : ℕ) → length (offered_by (net_of t) v (offers (net_of t) n)) < 2 ^ 64
      → total_of sending_counters ((one_list (net_of t) n).node v) ≡ length (offered_by (net_of t) v (offers (net_of t) n))
  sendings_total ok orderly v n below =
      let e = offers_are (net_of t) ok v n in
      total_is (net_of t) (one_sent (net_of t)) IsWhole whole_first whole_keeps (total_of sending_counters) none_sent (2 ^ 64) sending_rises orderly v n (omega arith) ∙ sym e

  pub arrivals_few : (v n : ℕ) → length (arrivals_at (net_of t) v (one_list (net_of t) n).records) ≤ n
  arrivals_few v n =
      let e = arrivals_are (net_of t) v n in
      let f = gained_few (net_of t) (one_arrival (net_of t) (λ u y. true)) (one_arrival_small (net_of t) (λ u y. true)) v n in
      omega arith

  pub sendings_few : IsNet (net_of t) → (v n : ℕ) → length (offered_by (net_of t) v (offers (net_of t) n)) ≤ n
  sendings_few ok v n =
      let e = offers_are (net_of t) ok v n in
      let f = gained_few (net_of t) (one_sent (net_of t)) (one_sent_small (net_of t)) v n in
      omega arith
