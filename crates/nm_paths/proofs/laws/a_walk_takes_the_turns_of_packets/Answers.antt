use Rattle.std.proofs.Common.{refl}
use Rattle.nm_forward.specs.Row.{packet_row}
use Rattle.nm_paths.proofs.laws.a_walk_takes_the_turns_of_packets.Goals as goal

pub returns : goal.returns
unfolding packet_row
returns c = λ table h payload usable other. rw usable (rw other refl)
