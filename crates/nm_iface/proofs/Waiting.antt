-- The octets of packets that wait, as one comes and as one goes.
use Rattle.std.proofs.Common.{◌≡◌, ℕ, ◌+◌, ◌*◌, ◌≤◌, All, List, [], ◌∷◌, ◌++◌, length, map, sum_by, ap, subst, ◌∙◌}
use Rattle.std.proofs.lemmas.List.{length-map, map_push}
use Rattle.std.proofs.lemmas.List.Elements.{All-map}
use Rattle.std.proofs.lemmas.List.Sums.{sum_by_push, sum_by-cons, sum_by-le}
use Rattle.nm_base.specs.declared.limits.TheConstants.{MAX_PACKET_OCTETS}

module _ {X : Type 0} (packet : X → List ℕ) where
  abbrev pub octets_of : List X → ℕ
  octets_of xs = sum_by length (map packet xs)

  pub one_comes : (xs : List X) (x : X)
      → octets_of (xs ++ x ∷ []) ≡ octets_of xs + length (packet x)
  one_comes xs x =
      ap (sum_by length) (map_push packet xs x) ∙ sum_by_push length (map packet xs) (packet x)

  pub one_goes : (x : X) (xs : List X) → octets_of (x ∷ xs) ≡ length (packet x) + octets_of xs
  one_goes x xs = sum_by-cons length (packet x) (map packet xs)

  -- no packet has more octets than a packet may have
  pub few_octets : (xs : List X) → All (λ x. length (packet x) ≤ MAX_PACKET_OCTETS) xs
      → octets_of xs ≤ length xs * MAX_PACKET_OCTETS
  few_octets xs each =
      subst (λ n. octets_of xs ≤ n * MAX_PACKET_OCTETS) (length-map xs packet)
      (sum_by-le length MAX_PACKET_OCTETS (map packet xs)
      (All-map (λ p. length p ≤ MAX_PACKET_OCTETS) packet xs each))
