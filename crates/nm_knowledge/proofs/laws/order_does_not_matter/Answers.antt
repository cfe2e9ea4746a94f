use Rattle.nm_knowledge.proofs.Orders.{any_order}
use Rattle.nm_knowledge.proofs.laws.order_does_not_matter.Goals as goal

pub returns : goal.returns
returns g c = λ same tells a h k l f m both.
    let laws = c.accept_laws.ensures in
    any_order same tells (laws.data_adds same) laws.null_adds (laws.data_keeps same) laws.null_keeps a h k l f m (λ x. (both x).0) (λ x. (both x).1)
