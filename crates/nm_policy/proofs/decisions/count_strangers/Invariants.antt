use Rattle.std.proofs.Common.{◌≡◌, take}
use Rattle.std.specs.Prelude.{count_by}
use Rattle.nm_policy.specs.Contact.{is_stranger}
use Rattle.nm_policy.specs.Contacts.{is_slot}
use Rattle.nm_policy.proofs.decisions.count_strangers.Given as goal

abbrev pub invariant-loop-slot : goal.invariant-loop-slot
invariant-loop-slot l = l.count ≡ count_by (is_slot is_stranger) (take l.slot-index l.connections)
