use Rattle.std.proofs.Common.{◌<◌, ◌∙◌, map, rules}
use Rattle.nm_run.proofs.Replicas.{named, named_more, one_first}
use Rattle.nm_run.proofs.run.share_all.Goals as goal

pub loop-replica-preserved : goal.loop-replica-preserved
loop-replica-preserved c =
    let p = c.loop-partition.partition in
    let r = c.loop-replica.replica in
    let old = c.loop-replica.books.items in
    let new = c.push.new.self.items in
    let book = c.in_ok-share_one.field-0 in
    let is = c.in_ok-share_one.ensures.named in
    let low : r < c.args.plan.now.replicas = search rules in
    one_first p r c.args.plan.now.replicas (map (λ b. (b.partition, b.replica)) old) (map (λ b. (b.partition, b.replica)) new) low
    (named_more old new book (λ b. (b.partition, b.replica)) p r c.in_ok-push.ensures.items (named book.partition book.replica p r (is.0 ∙ c.new.ensures) is.1))
    c.loop-replica.invariant
