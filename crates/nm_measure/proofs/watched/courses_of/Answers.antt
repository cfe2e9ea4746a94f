use Rattle.std.proofs.Common.{Some, sym, ap, ◌∙◌}
use Rattle.nm_measure.proofs.Followings.{followed_first}
use Rattle.nm_measure.proofs.watched.courses_of.Goals as goal

pub returns-in-Some : goal.returns-in-Some
returns-in-Some c = λ t. (ap Some c.new.ensures.source ∙ sym c.in-Some.is, followed_first t c.new.result c.new.ensures.under_way c.new.ensures.ended)
