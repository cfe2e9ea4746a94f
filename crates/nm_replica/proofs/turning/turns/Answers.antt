use Rattle.std.proofs.Common.{sym}
use Rattle.nm_replica.specs.Turns.{links}
use Rattle.nm_replica.proofs.Turns.{gives_turns}
use Rattle.nm_replica.proofs.turning.turns.Goals as goal

pub returns-clause-turned : goal.returns-clause-turned
returns-clause-turned g c =
    gives_turns (links g.W.Wire.seen g.C.Counts.exact g.C.Counts.home) c.args.talk.now.does c.args.key c.args.connections.now c.in-Some.connection.now c.count_turns.new.connection c.turns_of-last.new.link c.does_count-counts.result
    c.turns_of-last.result c.count_turns.result (sym c.in-Some.ensures.value) c.does_count-counts.ensures c.count_turns.ensures.link c.turns_of-last.ensures c.count_turns.ensures.counted
