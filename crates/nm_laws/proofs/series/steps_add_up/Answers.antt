use Rattle.nm_laws.proofs.Growing.{came_add, dropped_add, octets_came_add, octets_went_add, went_add}
use Rattle.nm_laws.proofs.series.steps_add_up.Goals as goal

pub returns : goal.returns
returns c = λ step events begins. let t = c.args.topology.now in record {
  came = came_add t step events begins;
  octets_came = octets_came_add t step events begins;
  went = went_add t step events begins;
  octets_went = octets_went_add t step events begins;
  dropped = dropped_add t step events begins;
}
