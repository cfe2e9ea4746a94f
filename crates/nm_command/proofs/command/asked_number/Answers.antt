use Rattle.nm_command.proofs.Numbers.{number_is}
use Rattle.nm_command.proofs.command.asked_number.Goals as goal

pub returns-clause-value : goal.returns-clause-value
returns-clause-value c = number_is c.args.low c.args.high c.args.word.now c.number_between.result c.number_between.ensures.found c.number_between.ensures.only
