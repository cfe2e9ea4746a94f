use Rattle.nm_forward.proofs.Standing.{stands}
use Rattle.nm_forward.proofs.laws.every_counter_stands_at_its_number.Goals as goal

pub returns-clause-every : goal.returns-clause-every
returns-clause-every c = stands
