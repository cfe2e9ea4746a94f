use Rattle.std.proofs.Common.{subst}
use Rattle.nm_rounds.specs.Headline.{Headline}
use Rattle.nm_rounds.specs.Replay.{IsReplay}
use Rattle.nm_rounds.proofs.replay.replay.Goals as goal

pub returns-clause-headline : goal.returns-clause-headline
returns-clause-headline c =
    subst (λ t. IsReplay t c.args.steps.now c.do_steps-ending.new.answers.items c.do_steps-ending.new.books.items c.do_steps-ending.result → Headline t c.do_steps-ending.new.answers.items c.do_steps-ending.new.books.items)
    c.deref.ensures (c.the_headline_holds_of_every_replay.ensures c.args.steps.now c.do_steps-ending.new.answers.items c.do_steps-ending.new.books.items c.do_steps-ending.result) c.do_steps-ending.ensures
