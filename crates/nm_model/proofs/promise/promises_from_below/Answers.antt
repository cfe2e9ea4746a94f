use Rattle.std.proofs.Common.{rules}
use Rattle.nm_model.specs.EventList.{least}
use Rattle.nm_model.specs.Replica.{from_scratch, safe_time}
use Rattle.nm_model.proofs.NeverFalling.{cause_is}
use Rattle.nm_model.proofs.promise.promises_from_below.Goals as goal

pub returns : goal.returns
returns g c = λ net p K k. record {
  plain = λ i. search rules;
  caused = λ i. search rules;
  under_way = λ i. search rules;
  cause = cause_is net.stop (safe_time net p K) (least (from_scratch net p K k).pending);
}
