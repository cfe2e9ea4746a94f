-- Numbers that no key of a list has yet.
use Rattle.std.proofs.Common.{◌≡◌, ◌+◌, ◌≤◌, Bool, true, false, cond, Option, Some, None, refl, ap, ◌∙◌, arith}
use Rattle.std.proofs.Common.{Ordering, Less, Equal, Greater}
use Rattle.std.specs.Ordering.{is_eq, eq_by_cmp}
use Rattle.std.specs.FinMap.{FinMap, get, insert, remove, get-insert, get-remove}
use Rattle.nm_base.specs.declared.key.Key.{Key}
use Rattle.nm_base.specs.Key.{key_cmp, key_cmp_total, key_cmp-IsAntisymmetric}

equal : (r : Ordering) → is_eq r ≡ true → r ≡ Equal
equal Less e = absurd (cc)
equal Equal e = refl
equal Greater e = absurd (cc)

-- a key of a greater number is another key
apart : (q k : Key) → k.number + 1 ≤ q.number → eq_by_cmp key_cmp q k ≡ false
apart q k h = go (eq_by_cmp key_cmp q k) refl
  where
    go : (b : Bool) → eq_by_cmp key_cmp q k ≡ b → b ≡ false
    go true t = let same = ap (λ (z : Key). z.number) (key_cmp-IsAntisymmetric q k (equal (key_cmp q k) t)) in absurd (omega (arith, same, h))
    go false t = refl

pub not_yet : {X : Type 0} (m : FinMap key_cmp X) (k q : Key) (v : X) → get m q ≡ None → k.number + 1 ≤ q.number → get (insert m k v) q ≡ None
not_yet m k q v none h = get-insert key_cmp_total m k v q ∙ ap (λ b. cond b (Some v) (get m q)) (apart q k h) ∙ none

none_both : {X : Type 0} (b : Bool) → cond {A = Option X} b None None ≡ None
none_both true = refl
none_both false = refl

pub still_not : {X : Type 0} (m : FinMap key_cmp X) (k q : Key) → get m q ≡ None → get (remove m k) q ≡ None
still_not m k q none = get-remove key_cmp_total m k q ∙ ap (cond (eq_by_cmp key_cmp q k) None) none ∙ none_both (eq_by_cmp key_cmp q k)
