-- The replicas of a run, one after another.
use Rattle.std.proofs.Common.{◌≡◌, ℕ, ◌+◌, ◌*◌, ◌<◌, List, [], ◌∷◌, ◌++◌, length, map, slice_get, Some, sym, ap, ◌∙◌, subst, length-append, arith}
use Rattle.std.proofs.lemmas.List.{map-append}
use Rattle.nm_shared.proofs.Pools.{all_more}
use Rattle.nm_run.specs.Replicas.{AreAllReplicas, IsAt}

-- the first so many of them
pub record AreFirst (count replicas : ℕ) (names : List (ℕ × ℕ)) : Type 0 where
  pub count_is : length names ≡ count
  pub each : (i : ℕ) (name : ℕ × ℕ) → slice_get names i ≡ Some name → IsAt replicas i name

pub one_first : (partition replica replicas : ℕ) (names more : List (ℕ × ℕ)) → replica < replicas → more ≡ names ++ (partition, replica) ∷ []
    → AreFirst (partition * replicas + replica) replicas names → AreFirst (partition * replicas + (replica + 1)) replicas more
one_first partition replica replicas names more low last before =
    let count = before.count_is in
    let longer = ap length last ∙ length-append names ((partition, replica) ∷ []) in
    record {
      count_is = omega (arith, count, longer);
      each = subst (λ l. (i : ℕ) (name : ℕ × ℕ) → slice_get l i ≡ Some name → IsAt replicas i name) (sym last)
          (all_more (IsAt replicas) names (partition, replica) before.each (record { replica = low; number_is = count }));
    }

pub are_replicas : (partitions replicas : ℕ) (names : List (ℕ × ℕ)) → AreFirst (partitions * replicas) replicas names → AreAllReplicas partitions replicas names
are_replicas partitions replicas names all = record { count = all.count_is; each = all.each }

-- one more, which has this name
pub named_more : {X : Type 0} (old new : List X) (x : X) (f : X → ℕ × ℕ) (p r : ℕ) → new ≡ old ++ x ∷ [] → f x ≡ (p, r) → map f new ≡ map f old ++ (p, r) ∷ []
named_more old new x f p r last is = ap (map f) last ∙ map-append f old (x ∷ []) ∙ ap (λ n. map f old ++ n ∷ []) is

pub named : (a b p r : ℕ) → a ≡ p → b ≡ r → ◌≡◌ {A = ℕ × ℕ} (a, b) (p, r)
named a b p r first second = ap {A = ℕ} (λ z. (z, b)) first ∙ ap {A = ℕ} (λ z. (p, z)) second
