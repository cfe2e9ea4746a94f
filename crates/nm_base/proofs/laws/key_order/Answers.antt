use Rattle.nm_base.specs.Key.{key_cmp_total}
use Rattle.nm_base.proofs.Order.{order_is}
use Rattle.nm_base.proofs.laws.key_order.Goals as goal

pub returns : goal.returns
returns c = record { total = key_cmp_total; lexicographic = λ ifaces a b here there. order_is ifaces a b here there }
