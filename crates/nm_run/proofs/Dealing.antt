-- The seats of a board, dealt to the replicas of a run one after another.
use Rattle.std.proofs.Common.{◌≡◌, ℕ, ◌+◌, ◌/◌, ◌%◌, ◌==◌, ◌≤◌, ◌&&◌, Bool, true, false, not, cond, nat_lt, List, [], ◌∷◌, length, slice_get, Some, refl, sym, ◌∙◌, ap, arith}
use Rattle.std.specs.List.{filter}
use Rattle.std.proofs.lemmas.Bool.{and_parts, eqb-true}
use Rattle.nm_base.specs.declared.key.Place.TheVariants.{Arrive}
use Rattle.nm_model.specs.Partition.{goes_out, in_part, sender_of}
use Rattle.nm_sim.specs.Network.{net_of}
use Rattle.nm_topology.specs.Topology.{receiving_iface}
use Rattle.nm_topology.specs.TopologyValue.{TopologyValue}
use Rattle.nm_replica.specs.Words.{is_word_of}
use Rattle.nm_run.specs.Replicas.{AreAllReplicas, HaveDistinctNames}
use Rattle.nm_run.proofs.Replicas.{named}

-- all replicas of a run are distinct
pub all_distinct : (partitions replicas : ℕ) (names : List (ℕ × ℕ)) → AreAllReplicas partitions replicas names → HaveDistinctNames names
all_distinct partitions replicas names all i j name one other = (all.each i name one).number_is ∙ sym (all.each j name other).number_is

-- where all that pass p pass q, those that pass p are the same of those that pass q
module _ {X : Type 0} (p q : X → Bool) (both : (x : X) → p x ≡ true → q x ≡ true) where
  one_filtered : (x : X) (ys xs : List X) (b c : Bool) → q x ≡ b → p x ≡ c → filter p ys ≡ filter p xs → filter p (cond b (x ∷ ys) ys) ≡ cond c (x ∷ filter p xs) (filter p xs)
  one_filtered x ys xs true c there here same = ap (λ b. cond b (x ∷ filter p ys) (filter p ys)) here ∙ ap (λ l. cond c (x ∷ l) l) same
  one_filtered x ys xs false true there here same = absurd (let wrong : false ≡ true = sym there ∙ both x here in cc)
  one_filtered x ys xs false false there here same = same

  filtered : (xs : List X) → filter p (filter q xs) ≡ filter p xs
  filtered [] = refl
  filtered (x ∷ xs) = one_filtered x (filter q xs) xs (q x) (p x) refl refl (filtered xs)

module _ (t : TopologyValue) where
  -- a word is of one replica: that which sends on its channel
  sends : (partition replica word : ℕ) → is_word_of t partition replica word ≡ true → (sender_of (net_of t) (receiving_iface t (word / 2)) ≡ partition) × (word % 2 ≡ replica)
  sends partition replica word is =
      let channel = receiving_iface t (word / 2) in
      let goes = goes_out (net_of t) partition channel in
      let both = and_parts (nat_lt (word / 2) (length t.receivers) && goes) (word % 2 == replica) is in
      let out = and_parts (nat_lt (word / 2) (length t.receivers)) goes both.0 in
      let from = and_parts (in_part (net_of t) partition (Arrive ((net_of t).far_end channel))) (not (in_part (net_of t) partition (Arrive channel))) out.1 in
      (eqb-true (sender_of (net_of t) channel) partition from.0, eqb-true (word % 2) replica both.1)

  apart : (p r q s : ℕ) → ((p ≡ q) → (r ≡ s) → ⊥) → (word : ℕ) → is_word_of t p r word ≡ true → not (is_word_of t q s word) ≡ true
  apart p r q s other word is = pick (is_word_of t q s word) refl
    where
      pick : (b : Bool) → is_word_of t q s word ≡ b → not b ≡ true
      pick false not_its = refl
      pick true its =
          let one = sends p r word is in
          let two = sends q s word its in
          absurd (other (sym one.0 ∙ two.0) (sym one.1 ∙ two.1))

-- of the words are left those of each replica from this number on
abbrev pub AreLeft : TopologyValue → List (ℕ × ℕ) → ℕ → (rest words : List ℕ) → Type 0
AreLeft t names n rest words = (k : ℕ) (name : ℕ × ℕ) → n ≤ k → slice_get names k ≡ Some name → filter (is_word_of t name.0 name.1) rest ≡ filter (is_word_of t name.0 name.1) words

-- once one more replica has those of its own
pub left_more : (t : TopologyValue) (names : List (ℕ × ℕ)) (n p r : ℕ) (rest others words : List ℕ) → HaveDistinctNames names → slice_get names n ≡ Some (p, r) → others ≡ filter (λ w. not (is_word_of t p r w)) rest
    → AreLeft t names n rest words → AreLeft t names (n + 1) others words
left_more t names n p r rest others words distinct there dealt left k name above at =
    ap (filter (is_word_of t name.0 name.1)) dealt
    ∙ filtered (is_word_of t name.0 name.1) (λ w. not (is_word_of t p r w)) (apart t name.0 name.1 p r (λ first second.
    let same : n ≡ k = distinct n k (p, r) there (at ∙ ap (λ x. Some x) (named name.0 name.1 p r first second)) in omega (arith, same, above))) rest
    ∙ left k name (omega (arith, above)) at

-- a replica finds its own among those that are left
pub own_left : (t : TopologyValue) (names : List (ℕ × ℕ)) (n p r : ℕ) (rest words : List ℕ) → slice_get names n ≡ Some (p, r) → AreLeft t names n rest words → filter (is_word_of t p r) rest ≡ filter (is_word_of t p r) words
own_left t names n p r rest words there left = left n (p, r) (omega arith) there

-- the words of a replica, however it is named
pub same_words : (s t : TopologyValue) (p q r u : ℕ) → s ≡ t → p ≡ q → r ≡ u → is_word_of s p r ≡ is_word_of t q u
same_words s t p q r u network partition replica =
    ap (λ z. is_word_of z p r) network ∙ ap (λ z. is_word_of t z r) partition ∙ ap (λ z. is_word_of t q z) replica
