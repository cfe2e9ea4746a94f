-- Octets that a sink takes in two calls.
use Rattle.std.proofs.Common.{ℕ, ◌+◌, List, ◌++◌, Option, Some, None, take, drop, sym, ap, ◌∙◌, subst, append_assoc}
use Rattle.std.proofs.Math.Seq.{take-add}
use Rattle.std.specs.Io.KnownBytes.{Appends}

-- one after another
pub Appends-append : (a b c : Option (List ℕ)) (x y : List ℕ) → Appends a b x → Appends b c y → Appends a c (x ++ y)
Appends-append None b c x y first second = tt
Appends-append (Some k) None c x y first second = absurd first
Appends-append (Some k) (Some l) None x y first second = absurd second
Appends-append (Some k) (Some l) (Some m) x y first second =
    second ∙ ap (λ f. f ++ y) first ∙ append_assoc k x y

-- the first n of a list, and then k more
pub Appends-take : (a b c : Option (List ℕ)) (l : List ℕ) (n k : ℕ) → Appends a b (take n l) → Appends b c (take k (drop n l)) → Appends a c (take (n + k) l)
Appends-take a b c l n k first second = subst (Appends a c) (sym (take-add n k l)) (Appends-append a b c (take n l) (take k (drop n l)) first second)
