use Rattle.std.proofs.Common.{rules}
use Rattle.nm_shared.proofs.Clocks.{joins}
use Rattle.nm_shared.proofs.word.Word.join.Goals as goal

pub join_seat-requires : goal.join_seat-requires
join_seat-requires c = (c.requires.place, c.requires.other, search rules, search rules, joins _ _ _ _)
