use Rattle.std.proofs.Common.{rules}
use Rattle.nm_shared.proofs.Clocks.{splits}
use Rattle.nm_shared.proofs.word.Word.split.Goals as goal

pub split_seat-seat-requires : goal.split_seat-seat-requires
split_seat-seat-requires c = (c.requires, search rules, splits _ _)
