-- The safe time is the least of the clocks of the channels that come in.
use Rattle.std.proofs.Common.{◌≡◌, ◌⊎◌, inl, inr, ℕ, suc, ◌+◌, ◌<◌, ◌≤◌, ◌==◌, Bool, true, false, cond, if◌then◌else◌, List, length, slice_index_or, slice_set, Some, refl, sym, ◌∙◌, ap, subst, arith}
use Rattle.std.proofs.lemmas.Bool.{cases_lt}
use Rattle.std.proofs.lemmas.Bool.Decides.{nat_tests}
use Rattle.nm_topology.specs.Topology.{channel_from, receiving_iface}
use Rattle.nm_topology.specs.TopologyValue.{TopologyValue}
use Rattle.nm_model.specs.Knowledge.{Know, Knowledge, nothing_known}
use Rattle.nm_model.specs.Lists.{set_at}
use Rattle.nm_model.specs.Partition.{comes_in}
use Rattle.nm_model.specs.Replica.{safe_time}
use Rattle.nm_model.proofs.ListLemmas.{below_or_at}
use Rattle.nm_sim.specs.Network.{net_of}
use Rattle.nm_book.specs.Book.{knowledge_of}
use Rattle.nm_book.proofs.Tellings.{known_here, known_set}

-- what holds below n and at n holds below n + 1
pub next_case : (Q : ℕ → Type 0) (d n : ℕ) → d < n + 1 → (d < n → Q d) → Q n → Q d
next_case Q d n h below at = go (below_or_at d n (omega (arith, h)))
  where
    go : (d < n) ⊎ (d ≡ n) → Q d
    go (inl lt) = below lt
    go (inr same) = subst Q (sym same) at

pub above_case : (b : Bool) (s k stop r : ℕ) → (b ≡ true → s ≤ k) → s ≤ stop → r ≡ (if b then k else stop) → s ≤ r
above_case true s k stop r f g e = let h = f refl in omega (arith, h, e)
above_case false s k stop r f g e = omega (arith, g, e)

pub pick_case : (b : Bool) (k stop r : ℕ) → b ≡ true → r ≡ (if b then k else stop) → r ≡ k
pick_case true k stop r h e = e
pick_case false k stop r h e = let w : false ≡ true = h in absurd cc

-- a clock past the safe time doesn't hold it back, nor does it once it rose
module _ (t : TopologyValue) (p : ℕ) (stop : (K : Knowledge (List ℕ)) → safe_time (net_of t) p K ≤ (net_of t).stop)
    (clocks : (K : Knowledge (List ℕ)) (i : ℕ) → comes_in (net_of t) p i ≡ true → safe_time (net_of t) p K ≤ (K i).clock)
    (greatest : (K : Knowledge (List ℕ)) (s : ℕ) → s ≤ (net_of t).stop → ((i : ℕ) → comes_in (net_of t) p i ≡ true → s ≤ (K i).clock) → s ≤ safe_time (net_of t) p K) where
  rose_at : (K : Knowledge (List ℕ)) (i : ℕ) (a : Know (List ℕ)) → safe_time (net_of t) p K < (K i).clock → (K i).clock ≤ a.clock
      → safe_time (net_of t) p K ≡ safe_time (net_of t) p (set_at K i a)
  unfolding set_at
  rose_at K i a past later =
      let up : safe_time (net_of t) p K ≤ safe_time (net_of t) p (set_at K i a) = greatest (set_at K i a) (safe_time (net_of t) p K) (stop K) above in
      let down : safe_time (net_of t) p (set_at K i a) ≤ safe_time (net_of t) p K = below (cases_lt (safe_time (net_of t) p K) (safe_time (net_of t) p (set_at K i a))) in
      omega (arith, up, down)
    where
      is_same : (m n : ℕ) → (m == n) ≡ true → m ≡ n
      is_same m n h = grind (arith, nat_tests, h)

      at : (j : ℕ) → comes_in (net_of t) p j ≡ true → (b : Bool) → (j == i) ≡ b → safe_time (net_of t) p K ≤ (cond b a (K j)).clock
      at j comes true e = omega (arith, past, later)
      at j comes false e = clocks K j comes

      above : (j : ℕ) → comes_in (net_of t) p j ≡ true → safe_time (net_of t) p K ≤ (set_at K i a j).clock
      above j comes = at j comes (j == i) refl

      next : (j : ℕ) → suc (safe_time (net_of t) p K) ≤ safe_time (net_of t) p (set_at K i a) → (b : Bool) → (j == i) ≡ b → safe_time (net_of t) p (set_at K i a) ≤ (cond b a (K j)).clock
          → suc (safe_time (net_of t) p K) ≤ (K j).clock
      next j more true e le = let same : (K j).clock ≡ (K i).clock = ap (λ n. (K n).clock) (is_same j i e) in omega (arith, past, same)
      next j more false e le = omega (arith, more, le)

      below : (safe_time (net_of t) p K < safe_time (net_of t) p (set_at K i a)) ⊎ (safe_time (net_of t) p (set_at K i a) ≤ safe_time (net_of t) p K)
          → safe_time (net_of t) p (set_at K i a) ≤ safe_time (net_of t) p K
      below (inr le) = le
      below (inl more) =
          let most = stop (set_at K i a) in
          let wrong = greatest K (suc (safe_time (net_of t) p K)) (omega (arith, more, most)) (λ j comes. next j (omega (arith, more)) (j == i) refl (clocks (set_at K i a) j comes)) in
          absurd (omega (arith, wrong))

  pub rose : (old : List (Know (List ℕ))) (c : ℕ) (a : Know (List ℕ)) → channel_from 0 t.receivers (receiving_iface t c) ≡ Some c → c < length old
      → safe_time (net_of t) p (knowledge_of t old) < (slice_index_or old c nothing_known).clock → (slice_index_or old c nothing_known).clock ≤ a.clock
      → safe_time (net_of t) p (knowledge_of t old) ≡ safe_time (net_of t) p (knowledge_of t (slice_set old c a))
  rose old c a here within past later =
      let at_here = ap (λ (k : Know (List ℕ)). k.clock) (known_here t old c here) in
      rose_at (knowledge_of t old) (receiving_iface t c) a (omega (arith, past, at_here)) (omega (arith, later, at_here))
      ∙ ap (safe_time (net_of t) p) (sym (known_set t old c here a within))
