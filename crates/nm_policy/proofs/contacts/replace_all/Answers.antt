use Rattle.std.proofs.Common.{arith}
use Rattle.std.specs.Prelude.{option_map}
use Rattle.nm_policy.specs.Contact.{replaced_by}
use Rattle.nm_policy.proofs.Changing.{one_changed}
use Rattle.nm_policy.proofs.contacts.replace_all.Goals as goal

pub loop-slot-preserved : goal.loop-slot-preserved
loop-slot-preserved c =
    one_changed (option_map (replaced_by c.args.name.now)) c.args.connections.now c.loop-slot.connections c.loop-slot.slot-index c.slot-item.result _ (omega arith)
    c.slot-item.is c.replaced_by.ensures c.loop-slot.invariant
