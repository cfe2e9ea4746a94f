use Rattle.std.proofs.Common.{◌≡◌, ℕ, Bool, true, false, ◌&&◌, ◌==◌, refl, arith}
use Rattle.std.proofs.lemmas.Bool.Decides.{nat_tests}
use Rattle.nm_book.proofs.laws.only_sisters_are_merged.Goals as goal

three : (a b c : Bool) → (a && b && c) ≡ true → (a ≡ true) × (b ≡ true) × (c ≡ true)
three true true true e = (refl, refl, refl)
three true true false e = cc
three true false c e = cc
three false b c e = cc

same_number : (m n : ℕ) → (m == n) ≡ true → m ≡ n
same_number m n e = grind (arith, nat_tests)

pub returns : goal.returns
returns c = λ old new other merged.
    let ours = three _ _ _ merged.merges.0 in
    (c.packets_are_told_apart.ensures.apart _ _ ours.0, same_number _ _ ours.1, same_number _ _ ours.2)
