-- Numbers in network byte order, written and read, and octets one by one.
use Rattle.std.proofs.Common.{◌≡◌, ℕ, zero, suc, ◌+◌, ◌/◌, ◌%◌, ◌≤◌, List, ◌∷◌, ◌++◌, length, drop, slice_index, refl, ap, ◌∙◌, arith}
use Rattle.std.proofs.lemmas.List.{drop_more}
use Rattle.nm_packet.specs.Octets.{IsOctets, word, long_word, word_at, long_word_at}

pub word_at-word : (n : ℕ) (rest : List ℕ) → word_at (word n ++ rest) 0 ≡ n
word_at-word n rest = omega arith

pub long_word_at-long_word : (n : ℕ) (rest : List ℕ) → long_word_at (long_word n ++ rest) 0 ≡ n
long_word_at-long_word n rest = omega arith

-- two octets are the high and the low one of their word
pub octets_of_word : (xs : List ℕ) → IsOctets xs → (i : ℕ) → (slice_index xs i ≡ word_at xs i / 256) × (slice_index xs (i + 1) ≡ word_at xs i % 256)
octets_of_word xs small i = (omega (arith, small i, small (i + 1)), omega (arith, small i, small (i + 1)))

-- so many octets from one on, one by one, and the rest
abbrev pub one_by_one : ℕ → ℕ → List ℕ → List ℕ
one_by_one zero i xs = drop i xs
one_by_one (suc n) i xs = slice_index xs i ∷ one_by_one n (i + 1) xs

pub one_by_one_is : (n i : ℕ) (xs : List ℕ) → i + n ≤ length xs → drop i xs ≡ one_by_one n i xs
one_by_one_is zero i xs h = refl
one_by_one_is (suc n) i xs h = drop_more xs i 0 (omega arith) ∙ ap (λ l. slice_index xs i ∷ l) (one_by_one_is n (i + 1) xs (omega arith))
