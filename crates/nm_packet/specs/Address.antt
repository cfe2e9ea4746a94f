-- IPv4 addresses, each a number of 32 bits.
use Rattle.std.specs.Prelude.{ℕ, ◌/◌, ◌%◌, Bool, ◌||◌, ◌==◌, List, ◌++◌, codes, decimal}

-- a martian (RFC 1812, section 5.3.7): 0.0.0.0/8, 127.0.0.0/8, 224.0.0.0/4 or 240.0.0.0/4
abbrev pub is_martian : ℕ → Bool
is_martian address = (address / 16777216 == 0) || (address / 16777216 == 127)
    || (address / 268435456 == 14) || (address / 268435456 == 15)

-- the four octets in decimal with no leading zeros, joined by dots
abbrev pub address_text : ℕ → List ℕ
address_text address = decimal (address / 16777216) ++ codes "."
    ++ decimal (address / 65536 % 256) ++ codes "."
    ++ decimal (address / 256 % 256) ++ codes "." ++ decimal (address % 256)
