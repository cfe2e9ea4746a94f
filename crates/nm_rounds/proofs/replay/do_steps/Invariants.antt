use Rattle.std.proofs.Common.{◌≡◌, ◌≤◌, length}
use Rattle.std.specs.Arc.{arc_value}
use Rattle.std.specs.Vec.{vec_capacity, vec_len}
use Rattle.nm_rounds.proofs.Replays.{IsReplaying}
use Rattle.nm_rounds.proofs.replay.do_steps.Given as goal

abbrev pub invariant-loop-number : goal.invariant-loop-number
invariant-loop-number l =
    IsReplaying (arc_value l.topology) l.steps l.number l.answers.items l.books.items l.bag.items
    × (vec_len l.answers ≡ l.number) × (length l.steps ≤ vec_capacity l.answers)
