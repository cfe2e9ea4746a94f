-- Two replicas of one partition.
use Rattle.std.proofs.Common.{◌≡◌, ℕ, ◌<◌, true, List, Some, length, slice_index_or, sym, ◌∙◌, ap, subst}
use Rattle.nm_topology.specs.Topology.{channel_from, receiving_iface}
use Rattle.nm_topology.specs.TopologyValue.{TopologyValue}
use Rattle.nm_model.specs.Knowledge.{IsUnder, Know, nothing_known}
use Rattle.nm_model.specs.Partition.{comes_in}
use Rattle.nm_model.specs.Replica.{IsUnderAll}
use Rattle.nm_sim.specs.Network.{net_of}
use Rattle.nm_book.specs.Book.{BookValue, knowledge, knowledge_of}
use Rattle.nm_book.specs.Sisters.{AreSisters, IsUnderOf, KnowTheSame}
use Rattle.nm_book.proofs.Tellings.{known_here}

-- what holds of the one's topology and partition holds of the other's
pub over : (a b : BookValue) (Q : TopologyValue → ℕ → Type 0) → AreSisters a b → Q a.topology a.partition → Q b.topology b.partition
over a b Q s x = subst (λ q. Q b.topology q) s.partition (subst (λ z. Q z a.partition) s.topology x)

pub back : (a b : BookValue) (Q : TopologyValue → ℕ → Type 0) → AreSisters a b → Q b.topology b.partition → Q a.topology a.partition
back a b Q s x = subst (λ q. Q a.topology q) (sym s.partition) (subst (λ z. Q z b.partition) (sym s.topology) x)

module _ (a b : BookValue) (here : (c : ℕ) → c < length a.topology.receivers → channel_from 0 a.topology.receivers (receiving_iface a.topology c) ≡ Some c)
    (numbered : (i : ℕ) → comes_in (net_of a.topology) a.partition i ≡ true
    → (c : ℕ) × (c < length a.topology.receivers) × (receiving_iface a.topology c ≡ i)) where
  read_at : (knows : List (Know (List ℕ))) (i : ℕ) (comes : comes_in (net_of a.topology) a.partition i ≡ true)
      → knowledge_of a.topology knows i ≡ slice_index_or knows (numbered i comes).0 nothing_known
  read_at knows i comes = let found = numbered i comes in ap (knowledge_of a.topology knows) (sym found.2) ∙ known_here a.topology knows found.0 (here found.0 found.1)

  pub same_at : KnowTheSame a b → (i : ℕ) → comes_in (net_of a.topology) a.partition i ≡ true → knowledge a i ≡ knowledge_of a.topology b.knows i
  same_at h i comes =
      let found = numbered i comes in
      read_at a.knows i comes ∙ h.same found.0 (ap (comes_in (net_of a.topology) a.partition) found.2 ∙ comes) ∙ sym (read_at b.knows i comes)

  pub under_at : IsUnderOf a b → IsUnderAll (net_of a.topology) a.partition (knowledge a) (knowledge_of a.topology b.knows)
  under_at h i comes =
      let found = numbered i comes in
      subst (λ z. IsUnder z (knowledge_of a.topology b.knows i)) (sym (read_at a.knows i comes))
      (subst (λ z. IsUnder (slice_index_or a.knows found.0 nothing_known) z) (sym (read_at b.knows i comes))
      (h.under found.0 (ap (comes_in (net_of a.topology) a.partition) found.2 ∙ comes)))
