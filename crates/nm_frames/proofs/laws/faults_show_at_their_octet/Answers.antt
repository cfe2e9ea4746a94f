use Rattle.nm_frames.proofs.Deciding.{decided, stays}
use Rattle.nm_frames.proofs.laws.faults_show_at_their_octet.Goals as goal

pub returns-clause-decided : goal.returns-clause-decided
returns-clause-decided c = decided

pub returns-clause-stays : goal.returns-clause-stays
returns-clause-stays c = stays
