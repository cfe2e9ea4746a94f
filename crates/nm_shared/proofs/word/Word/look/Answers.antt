use Rattle.std.proofs.Common.{rules}
use Rattle.nm_shared.proofs.Clocks.{looks}
use Rattle.nm_shared.proofs.word.Word.look.Goals as goal

pub load-requires : goal.load-requires
load-requires c = (c.requires, search rules, looks _ _ _ _)
