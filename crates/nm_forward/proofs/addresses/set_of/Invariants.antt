use Rattle.std.proofs.Common.{◌≡◌, ℕ, take}
use Rattle.std.specs.Prelude.{nat_eq}
use Rattle.std.specs.List.{list_any}
use Rattle.std.specs.HashSet as bag
use Rattle.nm_forward.proofs.addresses.set_of.Given as goal

abbrev pub invariant-loop-address : goal.invariant-loop-address
invariant-loop-address l =
    (q : ℕ) → bag.contains nat_eq l.set q ≡ list_any (nat_eq q)
    (take l.address-index l.list)
