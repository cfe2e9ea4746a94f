use Rattle.nm_sim.specs.Network.{net_of}
use Rattle.nm_laws.proofs.Ports.{offered_is, offers_few}
use Rattle.nm_laws.proofs.Turns.{in_turn}
use Rattle.nm_laws.proofs.offers.offers_are_accounted_for.Goals as goal

pub returns : goal.returns
returns c = λ n i. let net = net_of c.args.topology.now in record { few = offers_few net n; all = offered_is net i n; in_turn = in_turn net i n }
