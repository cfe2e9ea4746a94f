-- The words of the channels that come into a partition, one after another.
use Rattle.std.proofs.Common.{◌≡◌, inl, inr, ℕ, ◌+◌, ◌*◌, ◌<◌, true, false, List, [], ◌∷◌, ◌++◌, refl, sym, ◌∙◌, subst, below_more}
use Rattle.nm_model.specs.Partition.{comes_in}
use Rattle.nm_sim.specs.Network.{net_of}
use Rattle.nm_topology.specs.Topology.{receiving_iface}
use Rattle.nm_topology.specs.TopologyValue.{TopologyValue}
use Rattle.nm_run.specs.Replicas.{IsAmong}

-- the words of the channels below this number
abbrev pub HaveWords : TopologyValue → (partition replicas n : ℕ) → List ℕ → Type 0
HaveWords t partition replicas n words =
    (channel : ℕ) → channel < n → (replica : ℕ) → comes_in (net_of t) partition (receiving_iface t channel) ≡ true → replica < replicas
    → IsAmong words (2 * channel + replica)

-- those of the replicas below this number of one channel
abbrev pub HaveOf : (channel n : ℕ) → List ℕ → Type 0
HaveOf channel n words = (replica : ℕ) → replica < n → IsAmong words (2 * channel + replica)

among_more : (words : List ℕ) (last word : ℕ) → IsAmong words word → IsAmong (words ++ last ∷ []) word
among_more [] last word none = absurd none
among_more (w ∷ words) last word (inl is) = inl is
among_more (w ∷ words) last word (inr is) = inr (among_more words last word is)

among_last : (words : List ℕ) (last : ℕ) → IsAmong (words ++ last ∷ []) last
among_last [] last = inl refl
among_last (w ∷ words) last = inr (among_last words last)

module _ (words more : List ℕ) (last : ℕ) (is : more ≡ words ++ last ∷ []) where
  still : (word : ℕ) → IsAmong words word → IsAmong more word
  still word there = subst (λ l. IsAmong l word) (sym is) (among_more words last word there)

  -- one word more, and one that is a channel's
  pub words_more : (t : TopologyValue) (partition replicas n : ℕ) → HaveWords t partition replicas n words → HaveWords t partition replicas n more
  words_more t partition replicas n have channel low replica comes below = still (2 * channel + replica) (have channel low replica comes below)

  pub of_more : (channel n : ℕ) → last ≡ 2 * channel + n → HaveOf channel n words → HaveOf channel (n + 1) more
  of_more channel n word have replica low =
      below_more (λ r. IsAmong more (2 * channel + r)) n (λ r below. still (2 * channel + r) (have r below))
      (subst (IsAmong more) word (subst (λ l. IsAmong l last) (sym is) (among_last words last))) replica low

module _ (t : TopologyValue) (partition replicas n : ℕ) (words : List ℕ) (have : HaveWords t partition replicas n words) where
  -- one channel more, which does not come in, or all of whose words are there
  pub words_skip : comes_in (net_of t) partition (receiving_iface t n) ≡ false → HaveWords t partition replicas (n + 1) words
  words_skip out channel low =
      below_more (λ c. (replica : ℕ) → comes_in (net_of t) partition (receiving_iface t c) ≡ true → replica < replicas → IsAmong words (2 * c + replica)) n have
      (λ replica comes below. absurd (let wrong : true ≡ false = sym comes ∙ out in cc)) channel low

  pub words_all : HaveOf n replicas words → HaveWords t partition replicas (n + 1) words
  words_all all channel low =
      below_more (λ c. (replica : ℕ) → comes_in (net_of t) partition (receiving_iface t c) ≡ true → replica < replicas → IsAmong words (2 * c + replica)) n have
      (λ replica comes below. all replica below) channel low
