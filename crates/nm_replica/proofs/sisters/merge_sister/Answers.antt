use Rattle.std.proofs.Common.{◌<◌, length, rules, ◌∙◌}
use Rattle.nm_replica.specs.Sisters.{replica_name}
use Rattle.nm_replica.proofs.Merging.{merges_sister}
use Rattle.nm_replica.proofs.sisters.merge_sister.Goals as goal

pub returns-clause-merged : goal.returns-clause-merged
returns-clause-merged g c =
    let own = c.args.service.now.book.now in
    let books = c.args.service.now.books.now in
    let sister = c.index-service-number.result in
    let low : c.in-Some.number < length c.args.holdings.now.passes.items = search rules in
    merges_sister (λ b. replica_name b.partition b.replica) (replica_name own.partition own.replica) books _ c.in-Some.number sister c.merge_into.result c.sister_in.result
    c.sister_in.ensures c.in-Some.is low c.merge_into.ensures.0 (c.merge_into.ensures.1 ∙ c.in_ok-copied.ensures)
