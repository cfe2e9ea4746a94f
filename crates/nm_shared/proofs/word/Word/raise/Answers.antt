use Rattle.std.proofs.Common.{rules}
use Rattle.nm_shared.proofs.Clocks.{raises}
use Rattle.nm_shared.proofs.word.Word.raise.Goals as goal

pub fetch_max-requires : goal.fetch_max-requires
fetch_max-requires c = (c.requires.word, search rules, raises _ _ _ _ _ c.requires.owns)
