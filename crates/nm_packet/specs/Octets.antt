-- Numbers in network byte order, the high octet first (RFC 791, appendix B).
use Rattle.std.specs.Prelude.{ℕ, ◌+◌, ◌*◌, ◌/◌, ◌%◌, ◌<◌, List, [], ◌∷◌, slice_index, slice_set}

-- the two octets of a number of 16 bits
abbrev pub word : ℕ → List ℕ
word n = n / 256 ∷ n % 256 ∷ []

-- the four octets of a number of 32 bits
abbrev pub long_word : ℕ → List ℕ
long_word n = n / 16777216 ∷ n / 65536 % 256 ∷ n / 256 % 256 ∷ n % 256 ∷ []

-- the number of 16 bits in the two octets from this place
abbrev pub word_at : List ℕ → ℕ → ℕ
word_at octets place = slice_index octets place * 256 + slice_index octets (place + 1)

-- the number of 32 bits in the four octets from this place
abbrev pub long_word_at : List ℕ → ℕ → ℕ
long_word_at octets place = word_at octets place * 65536 + word_at octets (place + 2)

-- the octets with the two of a number of 16 bits from this place
abbrev pub with_word : List ℕ → ℕ → ℕ → List ℕ
with_word octets place n = slice_set (slice_set octets place (n / 256)) (place + 1) (n % 256)

-- the octets with the four of a number of 32 bits from this place
abbrev pub with_long_word : List ℕ → ℕ → ℕ → List ℕ
with_long_word octets place n = slice_set (slice_set (slice_set (slice_set octets
    place (n / 16777216)) (place + 1) (n / 65536 % 256)) (place + 2) (n / 256 % 256))
    (place + 3) (n % 256)

-- each is an octet
abbrev pub IsOctets : List ℕ → Type 0
IsOctets octets = (place : ℕ) → slice_index octets place < 256
