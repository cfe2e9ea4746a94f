use Rattle.std.proofs.Common.{◌<◌, length, arith}
use Rattle.std.proofs.lemmas.List.{length-map}
use Rattle.std.proofs.lemmas.Bool.Decides.{nat_tests}
use Rattle.nm_iface.specs.declared.queue_item.QueueItem.{QueueItem}
use Rattle.nm_iface.proofs.Waiting.{few_octets}
use Rattle.nm_iface.proofs.port.Port.wait.Goals as goal

pub overflow_add-self : goal.overflow_add-self
overflow_add-self c =
    let I = c.self.invariant in
    let ws = c.self.inside.waiting.items in
    let most = few_octets (λ w. w.packet) ws I.5 in
    let few : length ws < c.self.inside.limit = grind (arith, nat_tests, c.requires.limit, c.requires.busy, c.self.view_is, length-map ws (λ (w : QueueItem). w.packet)) in
    omega (arith, most, few, I.4, c.self.ranges, c.requires.small)
