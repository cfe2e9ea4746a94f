-- What an event list has after an event is put or taken.
use Rattle.std.proofs.Common.{◌≡◌, ◌≢◌, ℕ, Some, None, sym, ap, ◌∙◌, subst, ⊎_elim}
use Rattle.std.specs.FinMap.{FinMap, get, insert, remove}
use Rattle.nm_base.specs.declared.key.Key.{Key}
use Rattle.nm_base.specs.declared.key.Place.TheVariants.{Arrive, Complete}
use Rattle.nm_base.specs.Key.{key_of, key_cmp}
use Rattle.nm_model.proofs.Keys.{insert_other, insert_same, key_decides, remove_other, same_events}

module _ {X : Type 0} (m : FinMap key_cmp X) where
  -- an event that is taken and put back
  pub put_back : (k : Key) (v : X) → get m k ≡ Some v → insert (remove m k) k v ≡ m
  put_back k v e = same_events _ _ (λ q. ⊎_elim
      (λ h. subst (λ p. get (insert (remove m k) k v) p ≡ get m p) (sym h) (insert_same (remove m k) k v ∙ sym e))
      (λ h. insert_other (remove m k) k v q h ∙ remove_other m k q h)
      (key_decides q k))

-- an arrival has no completion's key
pub other_place : (s t i j m n : ℕ) → key_of s (Complete i) m ≢ key_of t (Arrive j) n
other_place s t i j m n e = let p : Complete i ≡ Arrive j = ap (λ k. k.place) e in absurd cc

pub still_none : {X : Type 0} (m after : FinMap key_cmp X) (k : Key) (v : X) (q : Key) → q ≢ k → after ≡ insert m k v → get m q ≡ None → get after q ≡ None
still_none m after k v q h e n = ap (λ l. get l q) e ∙ insert_other m k v q h ∙ n
