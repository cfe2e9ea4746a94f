use Rattle.nm_replica.proofs.Greeting.{greets_again}
use Rattle.nm_replica.proofs.sessions.at_greeting.Goals as goal

pub returns-clause-greeting : goal.returns-clause-greeting
returns-clause-greeting c = greets_again c.args.session c.broken.new.self c.broken.ensures
