use Rattle.std.proofs.Common.{◌≡◌, ◌<◌, true, false, refl, rules}
use Rattle.nm_engine.specs.Passes.{by_pass, owner_if}
use Rattle.nm_replica.specs.Turns.{has_moved}
use Rattle.nm_replica.specs.declared.limits.TheConstants.{MAX_TURNS}
use Rattle.nm_replica.proofs.Turns.{has_had_last, progresses_more}
use Rattle.nm_replica.proofs.turning.turns_of.Goals as goal

pub loop-had-preserved : goal.loop-had-preserved
loop-had-preserved g c =
    let moved : has_moved c.turn_of-turn.result ≡ true = search rules in
    let by = by_pass g.C.Counts.exact g.C.Counts.home g.C.Counts.messages_of g.C.Counts.events_of c.loop-had.pass.share c.turn_of-turn.new.pass.share in
    record {
      so_far = progresses_more (λ w. g.W.Wire.seen w.wire) (owner_if g.C.Counts.exact g.C.Counts.home) by c.args.talk.now.does c.loop-had._had c.args.link.now c.loop-had.link c.turn_of-turn.new.link c.turn_of-turn.result
          refl c.loop-had.invariant.so_far c.turn_of-turn.ensures moved;
    }

pub returns-then-not-has_moved : goal.returns-then-not-has_moved
returns-then-not-has_moved g c =
    let low : c.loop-had._had < MAX_TURNS = search rules in
    let still : has_moved c.turn_of-turn.result ≡ false = search rules in
    let by = by_pass g.C.Counts.exact g.C.Counts.home g.C.Counts.messages_of g.C.Counts.events_of c.loop-had.pass.share c.turn_of-turn.new.pass.share in
    has_had_last (λ w. g.W.Wire.seen w.wire) (owner_if g.C.Counts.exact g.C.Counts.home) by c.args.talk.now.does c.loop-had._had c.args.link.now c.loop-had.link c.turn_of-turn.new.link c.turn_of-turn.result refl low
    c.loop-had.invariant.so_far c.turn_of-turn.ensures still
