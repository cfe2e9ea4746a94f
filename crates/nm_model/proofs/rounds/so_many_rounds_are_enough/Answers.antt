use Rattle.nm_model.proofs.RoundLemmas.{ceil_reaches}
use Rattle.nm_model.proofs.rounds.so_many_rounds_are_enough.Goals as goal

pub returns : goal.returns
returns c = λ stop lead h. ceil_reaches stop lead h
