-- The Internet checksum (RFC 1071).
use Rattle.std.specs.Prelude.{ℕ, zero, suc, ◌+◌, ◌-◌, ◌*◌, ◌%◌, List, [], ◌∷◌}

-- The sum, a whole number, of the octets taken as 16-bit words, each with its high octet first.
-- An odd last octet is the high octet of a word whose low octet is zero.
abbrev pub word_sum : List ℕ → ℕ
word_sum [] = 0
word_sum (high ∷ []) = high * 256
word_sum (high ∷ low ∷ rest) = high * 256 + low + word_sum rest

-- The one's complement sum that a sum folds to: 0 if it is 0, and else the number of 1..65535 that
-- differs from it by a multiple of 65535.
abbrev pub folded : ℕ → ℕ
folded zero = 0
folded (suc n) = n % 65535 + 1

-- the checksum that is written if all other words have this sum
abbrev pub checksum_of : ℕ → ℕ
checksum_of sum = 65535 - folded sum

-- the checksum after one word of the octets changed (RFC 1624, equation 3)
abbrev pub updated_checksum : ℕ → ℕ → ℕ → ℕ
updated_checksum checksum old new = checksum_of (65535 - checksum + (65535 - old) + new)
