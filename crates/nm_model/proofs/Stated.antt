-- The laws as the functions state them.
use Rattle.std.proofs.Common.{◌≡◌, ℕ, ◌<◌, ◌≤◌, Bool, true, refl, None, [], length, Some, sym, ◌∙◌, arith, true≢false, ⊎_elim}
use Rattle.std.proofs.lemmas.Bool.{cases_lt}
use Rattle.nm_base.specs.declared.key.Place.TheVariants.{Arrive}
use Rattle.nm_base.specs.declared.key.Key.{Key}
use Rattle.nm_model.specs.EventList.{least}
use Rattle.nm_model.specs.Replica.{inbox_events, from_scratch, safe_time, IsWithin, Agrees}
use Rattle.nm_model.specs.Knowledge.{Knowledge}
use Rattle.nm_model.specs.Partition.{in_part}
use Rattle.nm_model.specs.Promise.{Promising, promise}
use Rattle.nm_model.specs.Lists.{nth, IsPrefix, IsRising}
use Rattle.nm_model.specs.Network.{Net, IsNet}
use Rattle.nm_model.specs.Before.{events_at, IsBefore, IsCount, IsKnowledge, history, trace}
use Rattle.nm_model.specs.Run.{State, step, one_list, start, made}
use Rattle.nm_model.proofs.Invariants.{arrival_number}
use Rattle.nm_model.proofs.Runs.{invariant_run}
use Rattle.nm_model.proofs.Traces.{ordered_run}
use Rattle.nm_base.specs.declared.record.Record.{Record}
use Rattle.nm_base.specs.declared.key.Place.{Place}
use Rattle.std.specs.FinMap.{get, remove}
use Rattle.nm_model.specs.Orderly.{IsByNode, IsOrderly}
use Rattle.nm_model.proofs.Keys.{least_has}
use Rattle.nm_model.proofs.Orders.{all_by_node, part_by_node, orderly_whole, orderly_step, fresh_key}
use Rattle.nm_model.proofs.Begin.{orderly_part}
use Rattle.nm_model.proofs.Ends.{drains, made_after, made_new}
use Rattle.nm_model.proofs.CutLaw.{cut_of, meets, trace_prefix, trace_exact, out_prefix}
use Rattle.nm_model.proofs.Promises.{out_later}
use Rattle.nm_base.specs.declared.event.Event.{Event}

module _ {P N : Type 0} (net : Net P N) (ok : IsNet net) where
  pub before : (t : ℕ) → (n : ℕ) × IsBefore net t n
  before t = drains net ok (λ q. true) (all_by_node net) (start net (λ q. true) []) (orderly_whole net ok 0) t

  pub times : (n c : ℕ) → IsRising ((one_list net n).sent c)
  times n c = (invariant_run net ok n).1.rising c

  pub numbers : (n c : ℕ) (e : Key × Event P) → least (one_list net n).pending ≡ Some e → e.0.place ≡ Arrive c → e.0.number ≡ (one_list net n).arrived c
  numbers n c e m pl = let g = invariant_run net ok n in (arrival_number net ok (one_list net n) g.0 g.1 e.0 e.1 m c pl).2

  pub makes_later : (n : ℕ) (e : Key × Event P) → least (one_list net n).pending ≡ Some e → (m : ℕ) (f : Key × Event P) → nth (made net (one_list net n) e) m ≡ Some f → e.0.time < f.0.time
  makes_later n e l m f a = made_after net ok (λ q. true) (all_by_node net) (one_list net n) (orderly_whole net ok n) e l m f a

  pub in_order : (n m k : ℕ) (a b : Record P) → m ≤ k → nth (one_list net n).records m ≡ Some a → nth (one_list net n).records k ≡ Some b → a.time ≤ b.time
  in_order n m k a b le e f = (ordered_run net ok (λ q. true) (all_by_node net) n [] (orderly_whole net ok 0)).order m k a b le e f

  module _ (p : ℕ) (K : Knowledge P) where
    pub makes_later_there : (k : ℕ) (e : Key × Event P) → least (from_scratch net p K k).pending ≡ Some e → (m : ℕ) (f : Key × Event P) → nth (made net (from_scratch net p K k) e) m ≡ Some f → e.0.time < f.0.time
    makes_later_there k e l m f a = made_after net ok (in_part net p) (part_by_node net p) (from_scratch net p K k) (orderly_part net ok p K k) e l m f a

    pub in_order_there : (k m n : ℕ) (a b : Record P) → m ≤ n → nth (from_scratch net p K k).records m ≡ Some a → nth (from_scratch net p K k).records n ≡ Some b → a.time ≤ b.time
    in_order_there k m n a b le e f = (ordered_run net ok (in_part net p) (part_by_node net p) k (inbox_events net p K) (orderly_part net ok p K 0)).order m n a b le e f

    pub count : (k : ℕ) × IsCount net p K k
    count = drains net ok (in_part net p) (part_by_node net p) (start net (in_part net p) (inbox_events net p K)) (orderly_part net ok p K 0) (safe_time net p K)

    pub within : (j k : ℕ) → IsCount net p K k → j ≤ k → IsWithin net p K j
    within j k c le m lt = c.first m (omega arith)

    pub within_only : (j k : ℕ) → IsCount net p K k → IsWithin net p K j → j ≤ k
    within_only j k c w = ⊎_elim (λ lt. absurd (true≢false (sym (w k lt) ∙ c.over))) (λ le. le) (cases_lt k j)

    module _ (valid : IsKnowledge net p K) where
      pub agrees : (k n : ℕ) → IsWithin net p K k → events_at net (in_part net p) n ≡ k → Agrees net p (one_list net n) (from_scratch net p K k)
      agrees k n w e = let l = before net.stop in (cut_of net ok p K l.0 l.1.over (valid l.0 l.1) n k w e).agrees

      pub reached : (k last : ℕ) → IsWithin net p K k → IsBefore net net.stop last → (n : ℕ) × (n ≤ last) × (events_at net (in_part net p) n ≡ k)
      reached k last w b = meets net ok p K last b.over (valid last b) k w

      pub prefix : (k last : ℕ) → IsWithin net p K k → IsBefore net net.stop last → IsPrefix (from_scratch net p K k).records (trace net p last)
      prefix k last w b = trace_prefix net ok p K last b.over (valid last b) k w

      pub exact : (k n : ℕ) → IsCount net p K k → IsBefore net (safe_time net p K) n → (from_scratch net p K k).records ≡ trace net p n
      exact k n c b = let l = before net.stop in trace_exact net ok p K l.0 l.1.over (valid l.0 l.1) k n c.first c.over b.over b.first

      pub out_begins : (k last c : ℕ) → IsWithin net p K k → IsBefore net net.stop last → in_part net p (Arrive (net.far_end c)) ≡ true → IsPrefix ((from_scratch net p K k).sent c) (history net last c)
      out_begins k last c w b mc = out_prefix net ok p K last b.over (valid last b) k c w mc

      pub out_goes_on : (k last c : ℕ) → IsWithin net p K k → IsBefore net net.stop last → in_part net p (Arrive (net.far_end c)) ≡ true → (i : ℕ) (b : ℕ × P) → length ((from_scratch net p K k).sent c) ≤ i → nth (history net last c) i ≡ Some b → (kind : Promising) → promise net kind p K k c ≤ b.0
      out_goes_on k last c w d mc i b le e kind = out_later net ok p K last d.over (valid last d) k c w mc i b le e kind

-- every state is orderly
module _ {P N : Type 0} (net : Net P N) where
  module _ (ok : IsNet net) where
    pub orderly_next : (here : Place → Bool) → IsByNode net here → (s : State P N) → IsOrderly net here s → IsOrderly net here (step net here s)
    orderly_next here by s h = orderly_step net ok here by s h (least s.pending) refl

    pub made_fresh : (here : Place → Bool) → IsByNode net here → (s : State P N) → IsOrderly net here s → (e : Key × Event P) → least s.pending ≡ Some e → (m : ℕ) (f : Key × Event P) → nth (made net s e) m ≡ Some f → get (remove s.pending e.0) f.0 ≡ None
    made_fresh here by s h e l m f a = fresh_key net ok here by s h e (least_has s.pending e l) f.0 f.1 (made_new net s e m f a)
