use Rattle.std.proofs.Common.{◌≤◌, ◌<◌, length, rules, subst, arith}
use Rattle.nm_measure.specs.Interfaces.{HasQueue, queue_in}
use Rattle.nm_measure.proofs.Lists.{none_set, one_set, read_at}
use Rattle.nm_measure.proofs.interfaces.Interfaces.change.Goals as goal

pub returns-then-place-len : goal.returns-then-place-len
returns-then-place-len c = λ t s represents count.
    let old = c.args.self.now.all.items in
    let x = c.index_mut.result.now in
    let low : c.index-place.result < length old = search rules in
    let same = c.index-place.ensures in
    let there : c.args.iface < length t.ifaces = omega (arith, low, same, count) in
    one_set (HasQueue c.args.now (queue_in c.args.iface s)) old c.args.iface c.index-place.result x c.change.new.self same
    (read_at old c.args.iface c.index-place.result x same low c.index_mut.ensures.value)
    (subst (λ w. HasQueue c.args.now w x c.change.new.self) (c.queue_of-waits.ensures t s represents there) c.change.ensures)

pub returns-else-place-len : goal.returns-else-place-len
returns-else-place-len c = λ t s represents count.
    let old = c.args.self.now.all.items in
    let past : length old ≤ c.index-place.result = search rules in
    let same = c.index-place.ensures in
    none_set (HasQueue c.args.now (queue_in c.args.iface s)) old c.args.iface (omega (arith, past, same))
