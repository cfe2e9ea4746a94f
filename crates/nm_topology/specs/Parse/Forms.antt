-- The forms of texts in a topology: names, addresses, prefixes.
use Rattle.std.specs.Prelude.{ℕ, zero, suc, ◌-◌, ◌%◌, ◌^◌, Bool, true, false, ◌&&◌, ◌||◌, not, ◌==◌}
use Rattle.std.specs.Prelude.{nat_le, if◌then◌else◌, List, [], ◌∷◌, length, Option, Some, None}
use Rattle.std.specs.Prelude.{codes, decimal}
use Rattle.std.specs.List.{list_all, before_first, after_first}
use Rattle.std.specs.Option.{option_and_then}
use Rattle.std.specs.Str.{bytes_eq}
use Rattle.nm_topology.specs.declared.node.NodeKind.{NodeKind}
use Rattle.nm_topology.specs.declared.node.NodeKind.TheVariants.{Host, Router}
use Rattle.nm_topology.specs.declared.prefix.Prefix.{Prefix}
use Rattle.nm_packet.specs.Address.{address_text, is_martian}

abbrev pub or_this : Option ℕ → ℕ → Bool → Option ℕ
or_this (Some k) n passes = Some k
or_this None n true = Some n
or_this None n false = None

-- the least number below a bound that passes
unfoldable pub least_below : ℕ → (ℕ → Bool) → Option ℕ
least_below zero p = None
least_below (suc n) p = or_this (least_below n p) n (p n)

-- a to z, 0 to 9, or a hyphen
abbrev pub is_name_character : ℕ → Bool
is_name_character c = (nat_le 97 c && nat_le c 122) || (nat_le 48 c && nat_le c 57) || (c == 45)

-- 1 to 32 such characters, the first of them no hyphen
abbrev pub is_name : List ℕ → Bool
is_name [] = false
is_name (c ∷ cs) =
    not (c == 45) && nat_le (length (c ∷ cs)) 32 && list_all is_name_character (c ∷ cs)

abbrev pub name_of : List ℕ → Option (List ℕ)
name_of text = if is_name text then Some text else None

-- the address in a text
abbrev pub address_of : List ℕ → Option ℕ
address_of text = least_below (2 ^ 32) (λ a. bytes_eq text (address_text a))

-- the same, but for martians
abbrev pub usable_address_of : List ℕ → Option ℕ
usable_address_of text =
    option_and_then (λ a. if is_martian a then None else Some a) (address_of text)

-- the length of a prefix in a text, 0 to 32
abbrev pub length_of : List ℕ → Option ℕ
length_of text = least_below 33 (λ n. bytes_eq text (decimal n))

-- the prefix of these bits and this length, if the bits past the length are 0
abbrev pub prefix_at : ℕ → ℕ → Option Prefix
prefix_at bits n =
    if bits % 2 ^ (32 - n) == 0 then Some (record { address = bits; length = n }) else None

abbrev pub is_slash : ℕ → Bool
is_slash c = c == 47

-- an address, a slash and a length, if the bits of the address past that length are 0
abbrev pub prefix_of : List ℕ → Option Prefix
prefix_of text =
    option_and_then
    (λ a. option_and_then (λ n. prefix_at a n) (length_of (after_first is_slash text)))
    (address_of (before_first is_slash text))

abbrev pub node_kind_of : List ℕ → Option NodeKind
node_kind_of text =
    if bytes_eq text (codes "host") then Some Host
    else (if bytes_eq text (codes "router") then Some Router else None)
