use Rattle.nm_model.proofs.Cut.{safe_clock, safe_stop}
use Rattle.nm_model.proofs.RoundLemmas.{safe_at_least}
use Rattle.nm_model.proofs.replica.safe_time_is_the_least.Goals as goal

pub returns-clause-stop : goal.returns-clause-stop
returns-clause-stop g c = λ net p K. safe_stop net p K net.ifaces

pub returns-clause-clocks : goal.returns-clause-clocks
returns-clause-clocks g c = λ net p K i below comes. safe_clock net p K i net.ifaces below comes

pub returns-clause-greatest : goal.returns-clause-greatest
returns-clause-greatest g c = λ net p K t stop clocks. safe_at_least net p K t net.ifaces stop clocks
