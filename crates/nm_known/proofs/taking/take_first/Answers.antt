use Rattle.std.proofs.Common.{◌∙◌}
use Rattle.nm_known.proofs.Heard.{heard_hello}
use Rattle.nm_known.proofs.taking.take_first.Goals as goal

pub returns-clause-heard : goal.returns-clause-heard
returns-clause-heard c = λ told heard. heard_hello c.args.book.now c.next_channel.result told c.args.frame.now heard (c.in-Hello.is ∙ c.in_ok-check_hello.ensures.own) c.next_channel.ensures
