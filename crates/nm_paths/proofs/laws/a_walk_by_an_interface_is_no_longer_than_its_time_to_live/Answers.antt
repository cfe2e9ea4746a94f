use Rattle.nm_paths.proofs.Lengths.{walk_by_length}
use Rattle.nm_paths.proofs.laws.a_walk_by_an_interface_is_no_longer_than_its_time_to_live.Goals as goal

pub returns : goal.returns
returns c = walk_by_length
