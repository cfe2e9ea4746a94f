-- The number that a word writes, from one to another.
use Rattle.std.proofs.Common.{◌≡◌, ℕ, ◌+◌, ◌<◌, ◌≤◌, Bool, ◌&&◌, true, false, leb, refl, List, Option, Some, None, IfSome, decimal, arith}
use Rattle.std.specs.Str.{bytes_eq}
use Rattle.std.proofs.lemmas.Slice.Eq.{bytes_eq-Decides}
use Rattle.nm_topology.proofs.Searches.{least_below-is}
use Rattle.nm_command.specs.Command.{asked_number}

passes : (low : ℕ) (word : List ℕ) (n : ℕ) → low ≤ n → word ≡ decimal n → (leb low n && bytes_eq word (decimal n)) ≡ true
passes low word n some same = let e = (bytes_eq-Decides word (decimal n)).1 same in grind (arith, some, e)

both : (a b : Bool) → (a && b) ≡ true → (a ≡ true) × (b ≡ true)
both true b h = (refl, h)
both false b h = absurd (cc)

passed : (low : ℕ) (word : List ℕ) (n : ℕ) → (leb low n && bytes_eq word (decimal n)) ≡ true → (low ≤ n) × (word ≡ decimal n)
passed low word n h = let b = both (leb low n) (bytes_eq word (decimal n)) h in let e = b.0 in (grind (arith, e), (bytes_eq-Decides word (decimal n)).0 b.1)

pub number_is : (low high : ℕ) (word : List ℕ) (r : Option ℕ) → IfSome r (λ n. (low ≤ n) × (n ≤ high) × (word ≡ decimal n))
    → ((n : ℕ) → low ≤ n → n ≤ high → word ≡ decimal n → r ≡ Some n) → r ≡ asked_number low high word
number_is low high word r found only =
    least_below-is (high + 1) (λ n. leb low n && bytes_eq word (decimal n)) r (finds r found)
    (λ n h q. let p = passed low word n q in only n p.0 (omega (arith, h)) p.1)
  where
    finds : (o : Option ℕ) → IfSome o (λ n. (low ≤ n) × (n ≤ high) × (word ≡ decimal n)) → IfSome o (λ n. (n < high + 1) × ((leb low n && bytes_eq word (decimal n)) ≡ true))
    finds None h = tt
    finds (Some n) h = (omega (arith, h.1), passes low word n h.0 h.2)
