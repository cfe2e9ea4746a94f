use Rattle.nm_frames.proofs.Splitting.{splits}
use Rattle.nm_frames.proofs.Streams.{one_splitting}
use Rattle.nm_frames.proofs.laws.one_stream.Goals as goal

pub returns-clause-splits : goal.returns-clause-splits
returns-clause-splits c = splits

pub returns-clause-once : goal.returns-clause-once
returns-clause-once c = one_splitting
