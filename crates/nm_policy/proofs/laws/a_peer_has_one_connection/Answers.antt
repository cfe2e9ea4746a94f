use Rattle.nm_policy.proofs.Events.{after_all_sound}
use Rattle.nm_policy.proofs.laws.a_peer_has_one_connection.Goals as goal

pub returns : goal.returns
returns c = λ peers callers events may one other peer leads leads'. let sound = after_all_sound peers callers events may in sound.one one other peer leads leads'
