use Rattle.nm_measure.specs.Ways.{tagged_net}
use Rattle.nm_measure.proofs.Passages.{time_passes}
use Rattle.nm_measure.proofs.ways.time_passes_along_ways.Goals as goal

pub returns : goal.returns
returns c = time_passes c.args.topology.now (c.records_in_order.ensures (tagged_net c.args.topology.now) c.tags_change_no_run.ensures.network)
