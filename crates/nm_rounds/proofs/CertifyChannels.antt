-- Channels of a topology, one after another by their numbers.
use Rattle.std.proofs.Common.{◌≡◌, ℕ, ◌<◌, ◌≤◌, ◌==◌, ◌&&◌, not, true, false, List, length, slice_index_or, Option, Some, None, sym, ap, ◌∙◌, subst, arith, ⊎_elim, true≢false}
use Rattle.std.specs.List.Sorted.{IsStrictlyIncreasing}
use Rattle.std.proofs.lemmas.Bool.{cases_lt}
use Rattle.std.proofs.lemmas.Bool.Decides.{nat_tests}
use Rattle.std.proofs.lemmas.List.Kept.{AllPairs-from_increasing}
use Rattle.nm_topology.specs.Topology.{channel_from, receiving_iface}
use Rattle.nm_topology.specs.TopologyValue.{TopologyValue}
use Rattle.nm_model.specs.Certificate.{CertificateFault, first_below}
use Rattle.nm_model.specs.Knowledge.{Know, nothing_known}
use Rattle.nm_model.specs.Network.{Net}
use Rattle.nm_model.specs.Partition.{comes_in, goes_out, sender_of}
use Rattle.nm_model.proofs.ListLemmas.{bool_cases}
use Rattle.nm_sim.specs.Network.{net_of}
use Rattle.nm_book.specs.Book.{BookValue, is_incoming, knowledge, known_at}
use Rattle.nm_rounds.specs.SameTopology.{SaysSame}
use Rattle.nm_rounds.proofs.CertifySteps.{first_is, none_below, same_net, same_receiver}

-- of a channel that comes in somewhere: who sends on it is whom it goes out of
pub sends : {P N : Type 0} (net : Net P N) (p q i : ℕ) → comes_in net q i ≡ true → goes_out net p i ≡ (p == sender_of net i)
sends net p q i comes = apart (net.part (net.owner (net.far_end i))) (net.part (net.owner i)) comes
  where
    apart : (a b : ℕ) → ((b == q) && not (a == q)) ≡ true → ((a == p) && not (b == p)) ≡ (p == a)
    apart a b h = grind (arith, nat_tests, h)

-- what comes into a book of this topology comes in by this topology
pub comes_here : (t : TopologyValue) (b : BookValue) (d : ℕ) → ((s : TopologyValue) (digest : List ℕ) → net_of (record s { digest = digest }) ≡ net_of s)
    → SaysSame b.topology t → is_incoming b d ≡ true → comes_in (net_of t) b.partition (receiving_iface t d) ≡ true
comes_here t b d law same h =
    subst (λ i. comes_in (net_of t) b.partition i ≡ true) (same_receiver b.topology t same d)
    (subst (λ net. comes_in net b.partition (receiving_iface b.topology d) ≡ true) (same_net law b.topology t same) h)

-- what a book of this topology knows of a channel that comes in
pub knows_of : (t : TopologyValue) (b : BookValue) (d : ℕ) (k : Know (List ℕ)) → SaysSame b.topology t
    → ((c : ℕ) → c < length t.receivers → channel_from 0 t.receivers (receiving_iface t c) ≡ Some c)
    → ((p c : ℕ) → length t.receivers ≤ c → comes_in (net_of t) p (receiving_iface t c) ≡ false)
    → comes_in (net_of t) b.partition (receiving_iface t d) ≡ true → k ≡ slice_index_or b.knows d nothing_known → knowledge b (receiving_iface t d) ≡ k
knows_of t b d k same numbered none comes is =
    let receivers : b.topology.receivers ≡ t.receivers = ap (λ z. z.receivers) same in
    let below : d < length t.receivers = ⊎_elim (λ h. h) (λ past. absurd (true≢false (sym comes ∙ none b.partition d past))) (cases_lt d (length t.receivers)) in
    ap (λ l. known_at b.knows (channel_from 0 l (receiving_iface t d))) receivers ∙ ap (known_at b.knows) (numbered d below) ∙ sym is

-- receivers rise
pub receivers_rise : (t : TopologyValue) → IsStrictlyIncreasing t.receivers → (c d : ℕ) → c < d → d < length t.receivers → receiving_iface t c < receiving_iface t d
receivers_rise t rises c d lt there = AllPairs-from_increasing t.receivers rises c d (length t.ifaces) lt there

module _ (t : TopologyValue) (p : ℕ) (f : ℕ → Option CertificateFault)
    (numbered : (i : ℕ) → comes_in (net_of t) p i ≡ true → (c : ℕ) × (c < length t.receivers) × (receiving_iface t c ≡ i) × (1 ≤ (net_of t).delay i))
    (elsewhere : (i : ℕ) → comes_in (net_of t) p i ≡ false → f i ≡ None) where
  -- the channels below number n have no fault
  none_at : (n : ℕ) → ((d : ℕ) → d < n → f (receiving_iface t d) ≡ None) → (i : ℕ) → ((d : ℕ) → d < length t.receivers → receiving_iface t d ≡ i → d < n) → f i ≡ None
  none_at n none i below = ⊎_elim
      (λ comes. let r = numbered i comes in ap f (sym r.2) ∙ none r.0 (below r.0 r.1 r.2))
      (λ h. elsewhere i h)
      (bool_cases (comes_in (net_of t) p i))

  -- no channel has
  pub no_channel : (n m : ℕ) → length t.receivers ≤ n → ((d : ℕ) → d < n → f (receiving_iface t d) ≡ None) → first_below f m ≡ None
  no_channel n m past none = none_below f m (λ i h. none_at n none i (λ d lt e. omega (arith, past, lt)))

  -- channel n has the first
  pub this_channel : ((c d : ℕ) → c < d → d < length t.receivers → receiving_iface t c < receiving_iface t d)
      → (n m : ℕ) (x : CertificateFault) → receiving_iface t n < m → ((d : ℕ) → d < n → f (receiving_iface t d) ≡ None)
      → n < length t.receivers → f (receiving_iface t n) ≡ Some x → first_below f m ≡ Some x
  this_channel rising n m x inside none there here =
      first_is f m (receiving_iface t n) x inside (none_below f (receiving_iface t n) (λ i h. none_at n none i (λ d lt e. earlier i h d lt e))) here
    where
      earlier : (i : ℕ) → i < receiving_iface t n → (d : ℕ) → d < length t.receivers → receiving_iface t d ≡ i → d < n
      earlier i h d lt e = ⊎_elim (λ y. y)
          (λ past. ⊎_elim (λ z. let r = rising n d z lt in absurd (omega (arith, r, e, h))) (λ z. let s : n ≡ d = omega (arith, z, past) in let u = ap (receiving_iface t) s in absurd (omega (arith, u, e, h))) (cases_lt n d))
          (cases_lt d n)
