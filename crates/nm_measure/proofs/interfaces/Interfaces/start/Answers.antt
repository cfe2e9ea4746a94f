use Rattle.std.proofs.Common.{◌≡◌, ◌≤◌, ◌<◌, length, max, rules, subst, arith}
use Rattle.nm_measure.specs.Interfaces.{HasStarted}
use Rattle.nm_measure.proofs.Lists.{none_set, one_set, read_at}
use Rattle.nm_measure.proofs.interfaces.Interfaces.start.Goals as goal

pub returns-then-place-len : goal.returns-then-place-len
returns-then-place-len c =
    let old = c.args.self.now.all.items in
    let z = c.args.started.now in
    let x = c.index_mut.result.now in
    let y = c.start.new.self in
    let low : c.index-place.result < length old = search rules in
    let same = c.index-place.ensures in
    let octets : c.max-octets.result ≡ max 1 z.octets = search rules in
    one_set (HasStarted (max 1 z.octets) c.args.now c.args.left) old z.iface c.index-place.result x y same
    (read_at old z.iface c.index-place.result x same low c.index_mut.ensures.value)
    (subst (λ n. HasStarted n c.args.now c.args.left x y) octets c.start.ensures)

pub returns-else-place-len : goal.returns-else-place-len
returns-else-place-len c =
    let old = c.args.self.now.all.items in
    let z = c.args.started.now in
    let past : length old ≤ c.index-place.result = search rules in
    let same = c.index-place.ensures in
    none_set (HasStarted (max 1 z.octets) c.args.now c.args.left) old z.iface (omega (arith, past, same))
