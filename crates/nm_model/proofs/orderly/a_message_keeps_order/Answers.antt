use Rattle.nm_model.proofs.Orders.{orderly_put}
use Rattle.nm_model.proofs.orderly.a_message_keeps_order.Goals as goal

pub returns : goal.returns
returns g c = λ net here s h d t n x mn far. orderly_put net here s h d t n x mn far
