use Rattle.std.proofs.Common.{◌≤◌, length, rules, of_calls}
use Rattle.std.proofs.lemmas.Fn.{always_returns_same}
use Rattle.std.specs.Ordering.{is_lt}
use Rattle.nm_base.specs.Key.{key_cmp}
use Rattle.nm_events.specs.Entries.{entry_key}
use Rattle.nm_events.proofs.Sorted.{parted, partitioned_entries}
use Rattle.nm_events.proofs.sorted_list.SortedList.place_of.Goals as goal

pub returns-clause-parted : goal.returns-clause-parted
returns-clause-parted c =
    let items = c.self.inside.entries.items in
    let bound : c.partition_point.result ≤ length items = search rules in
    let point = c.partition_point.ensures.partitioned (λ e. is_lt (key_cmp (entry_key e) c.args.key.now)) (always_returns_same _ _ _ (λ a r f k. search (rules, of_calls))) (partitioned_entries c.args.key.now items c.self.invariant) in
    rw (← c.self.view_is) (parted c.args.key.now items c.partition_point.result bound point)
