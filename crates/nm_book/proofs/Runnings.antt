-- Runs of a replica.
use Rattle.std.proofs.Common.{◌≡◌, ◌⊎◌, inl, inr, ℕ, suc, ◌+◌, ◌<◌, ◌≤◌, min, true, List, Some, sym, ap, ◌∙◌, subst, arith}
use Rattle.nm_topology.specs.TopologyValue.{TopologyValue}
use Rattle.nm_forward.specs.State.{NodeStateValue}
use Rattle.nm_model.specs.Before.{IsCount}
use Rattle.nm_model.specs.Knowledge.{Know, Knowledge}
use Rattle.nm_model.specs.Replica.{IsWithin, from_scratch, safe_time}
use Rattle.nm_model.specs.Run.{State, pends_before, step}
use Rattle.nm_model.specs.World.{advance}
use Rattle.nm_model.proofs.ListLemmas.{below_or_at}
use Rattle.nm_events.specs.Held.{Held}
use Rattle.nm_sim.specs.Network.{here_of, net_of}
use Rattle.nm_sim.specs.Part.{PartValue, Represents}
use Rattle.nm_book.specs.Book.{knowledge_of}
use Rattle.nm_book.specs.BookPart.{IsBook, pending_in}

module _ (t : TopologyValue) (p : ℕ) (knows : List (Know (List ℕ))) (part new : PartValue Held) where
  -- a part that represents the same stands for the same replica
  pub still_book : IsBook t p knows part → ((s : State (List ℕ) NodeStateValue) → Represents pending_in t (Some p) part s → Represents pending_in t (Some p) new s)
      → new.steps ≡ part.steps → new.records.keeping ≡ part.records.keeping → IsBook t p knows new
  still_book book same steps keeping = record {
    count = book.count;
    represents = subst (λ k. Represents pending_in t (Some p) new (from_scratch (net_of t) p (knowledge_of t knows) k)) (sym steps) (same _ book.represents);
    within = subst (IsWithin (net_of t) p (knowledge_of t knows)) (sym steps) book.within;
    all = ap (λ k. k.wanted) keeping ∙ book.all;
  }

  -- one more event before the safe time
  pub one_more : IsBook t p knows part → pends_before (safe_time (net_of t) p (knowledge_of t knows)) (from_scratch (net_of t) p (knowledge_of t knows) part.steps) ≡ true
      → Represents pending_in t (Some p) new (step (net_of t) (here_of t (Some p)) (from_scratch (net_of t) p (knowledge_of t knows) part.steps))
      → new.steps ≡ part.steps + 1 → new.records.keeping ≡ part.records.keeping → IsBook t p knows new
  one_more book pends represents steps keeping =
      let more : new.steps ≡ suc part.steps = omega (arith, steps) in
      record {
        count = book.count;
        represents = subst (λ k. Represents pending_in t (Some p) new (from_scratch (net_of t) p (knowledge_of t knows) k)) (sym more) represents;
        within = subst (IsWithin (net_of t) p (knowledge_of t knows)) (sym more) (λ m h. at m (below_or_at m part.steps h));
        all = ap (λ k. k.wanted) keeping ∙ book.all;
      }
    where
      at : (m : ℕ) → (m < part.steps) ⊎ (m ≡ part.steps) → pends_before (safe_time (net_of t) p (knowledge_of t knows)) (from_scratch (net_of t) p (knowledge_of t knows) m) ≡ true
      at m (inl lt) = book.within m lt
      at m (inr same) = subst (λ k. pends_before (safe_time (net_of t) p (knowledge_of t knows)) (from_scratch (net_of t) p (knowledge_of t knows) k) ≡ true) (sym same) pends

-- n further events that are all before the safe time are those of a run that is asked for as many; asked for more, it does as many where these are all
module _ (t : TopologyValue) (p : ℕ) (K : Knowledge (List ℕ)) (count : (k : ℕ) × IsCount (net_of t) p K k)
    (only : (j k : ℕ) → IsCount (net_of t) p K k → IsWithin (net_of t) p K j → j ≤ k)
    (runs : (count n k : ℕ) → IsCount (net_of t) p K count → k ≤ count → advance (net_of t) p K n k ≡ min (k + n) count) where
  pub ran_whole : (k m n : ℕ) → m ≡ k + n → IsWithin (net_of t) p K m → m ≡ advance (net_of t) p K n k
  ran_whole k m n e within =
      let most = only m count.0 count.1 within in
      let run = runs count.0 n k count.1 (omega (arith, most, e)) in
      omega (arith, run, most, e)

  pub ran_all : (k m n limit : ℕ) → m ≡ k + n → n ≤ limit → IsCount (net_of t) p K m → m ≡ advance (net_of t) p K limit k
  ran_all k m n limit e le is =
      let run = runs m limit k is (omega (arith, e)) in
      omega (arith, run, e, le)
