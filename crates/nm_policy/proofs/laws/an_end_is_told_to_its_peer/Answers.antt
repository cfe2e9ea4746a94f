use Rattle.nm_policy.proofs.Events.{told_broke, told_ended}
use Rattle.nm_policy.proofs.laws.an_end_is_told_to_its_peer.Goals as goal

pub returns : goal.returns
returns c = λ s key peer other was_there leads ne. (told_ended s key peer other leads ne, told_broke s key peer other leads ne was_there)
