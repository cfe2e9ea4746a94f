-- The first member of an array that is refused.
use Rattle.std.specs.Prelude.{◌≡◌, ℕ, ◌+◌, ◌<◌, Option, Some, None, Result, Ok, Err}
use Rattle.toml.specs.Data.{Data, Items, get_item, item, no_items}
use Rattle.nm_topology.specs.declared.fault.Refusal.{Refusal}
use Rattle.nm_check.specs.declared.first.MemberFault.{MemberFault}

-- the member of this number if it is refused, and else what the others give
abbrev pub or_later : ℕ → Result Unit Refusal → Option MemberFault → Option MemberFault
or_later n (Ok u) others = others
or_later n (Err r) others = Some (record { number = n; refusal = r })

-- the first that is refused, of members that are numbered from n on
abbrev pub first_from : (Data → Result Unit Refusal) → ℕ → Items → Option MemberFault
first_from read n no_items = None
first_from read n (item d ds) = or_later n (read d) (first_from read (n + 1) ds)

-- the members before this number are read
abbrev pub AreRead : (Data → Result Unit Refusal) → Items → ℕ → Type 0
AreRead read ds n = (k : ℕ) (d : Data) → k < n → get_item k ds ≡ Some d → read d ≡ Ok tt
