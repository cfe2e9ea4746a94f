use Rattle.nm_model.specs.Port.{idle_port}
use Rattle.nm_model.proofs.Queues.{in_turn, counted}
use Rattle.nm_model.proofs.port.packets_start_in_turn.Goals as goal

pub returns : goal.returns
returns g c = record {
  from_idle = λ room tx events. in_turn room tx events idle_port;
  from_any = λ room tx events w. in_turn room tx events w;
  dropped = λ room tx events w. counted room tx events w;
}
