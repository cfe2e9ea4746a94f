use Rattle.nm_frames.proofs.Consecutive.{consecutive, from_cursor}
use Rattle.nm_frames.proofs.laws.messages_are_consecutive.Goals as goal

pub returns : goal.returns
returns c channel steps last = record {
  first = λ t me replica peer lives. consecutive t me replica peer steps last channel lives;
  later = λ s cursor has lives. from_cursor s last steps channel cursor has lives;
}
