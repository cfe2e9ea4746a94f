-- Texts of format 1, and the same texts in format 2.
use Rattle.std.specs.Prelude.{◌≡◌, ℕ, List, true, Bool, is_none, if◌then◌else◌, pos, Some}
use Rattle.std.specs.Prelude.{Result, Ok, Err, codes}
use Rattle.std.specs.Str.{bytes_eq}
use Rattle.toml.specs.Data.{Data, integer, array, table, Items, Members, no_members, member}
use Rattle.toml.specs.Data.{get_member}
use Rattle.nm_topology.specs.declared.fault.Refusal.{Refusal}
use Rattle.nm_topology.specs.Parse.Arrays.{all_fit}
use Rattle.nm_topology.specs.TopologyValue.{TopologyValue}

abbrev pub IsFormatOne : Members → Type 0
IsFormatOne t = get_member (codes "format") t ≡ Some (integer (pos 1))

-- the same document with `format = 2`
abbrev pub with_format_two : Members → Members
with_format_two no_members = no_members
with_format_two (member k d ms) =
    member k (if bytes_eq (codes "format") k then integer (pos 2) else d) (with_format_two ms)

-- no table that has the key
abbrev pub is_without : List ℕ → Data → Bool
is_without k (table ms) = is_none (get_member k ms)
is_without k _ = true

-- no table of `iface` has the key `queue_octets`
abbrev pub LimitsNoOctets : Members → Type 0
LimitsNoOctets t =
    (ds : Items) → get_member (codes "iface") t ≡ Some (array ds)
    → all_fit (is_without (codes "queue_octets")) ds ≡ true

-- a network with another digest
abbrev pub with_digest : List ℕ → Result TopologyValue Refusal → Result TopologyValue Refusal
with_digest digest (Ok t) = Ok (record t { digest = digest })
with_digest digest (Err r) = Err r
