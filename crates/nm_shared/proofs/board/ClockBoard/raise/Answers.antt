use Rattle.std.proofs.Common.{rules, ◌<◌, length}
use Rattle.nm_shared.proofs.Boards.{sits_below, sits_here, still_one}
use Rattle.nm_shared.proofs.board.ClockBoard.raise.Goals as goal

pub index-requires : goal.index-requires
index-requires c =
    let lt = sits_below c.args.self.now.words.items c.args.owner.now.word c.args.owner.now.place c.requires.owner in
    let at : c.args.owner.now.word < length c.args.self.now.words.items = lt in
    search (rules, at)

pub raise-requires-clause-word : goal.raise-requires-clause-word
raise-requires-clause-word c = sits_here c.args.self.now.words.items c.args.owner.now.word c.args.owner.now.place c.index.result.now c.requires.owner c.index.ensures

pub invariant_of-owner : goal.invariant_of-owner
invariant_of-owner c = record { few = c.args.owner.now.few; one = still_one c.nanoseconds.result _ _ c.raise.ensures.view c.args.owner.now.one }
