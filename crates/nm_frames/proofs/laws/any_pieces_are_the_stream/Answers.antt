use Rattle.nm_frames.proofs.Feeding.{any_pieces}
use Rattle.nm_frames.proofs.laws.any_pieces_are_the_stream.Goals as goal

pub returns : goal.returns
returns c = any_pieces
