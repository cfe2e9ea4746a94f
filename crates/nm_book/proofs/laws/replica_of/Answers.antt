use Rattle.std.proofs.Common.{subst}
use Rattle.nm_book.specs.Laws.{IsNetOfChannels}
use Rattle.nm_book.proofs.laws.replica_of.Goals as goal

pub returns-clause-topology : goal.returns-clause-topology
returns-clause-topology c = subst IsNetOfChannels c.topology.ensures c.network_of.ensures
