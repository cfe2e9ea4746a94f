use Rattle.std.proofs.Common.{rules, ◌≡◌, [], ◌∷◌, ◌++◌, map, ap, ◌∙◌}
use Rattle.nm_shared.specs.Board.{id_of}
use Rattle.nm_shared.proofs.Boards.{same_id, seat_more, sit_set}
use Rattle.nm_shared.proofs.board.opening.seat_of.Goals as goal

pub split-other-requires : goal.split-other-requires
split-other-requires c = same_id c.args.words.now.items c.loop-number.places.items c.loop-number.number c.index.result.now c.index_mut.result.now c.loop-number.invariant.0 (search rules) c.index.ensures (search rules)

pub loop-number-preserved : goal.loop-number-preserved
loop-number-preserved c =
    let ws = c.args.words.now.items in
    let same = same_id ws c.loop-number.places.items c.loop-number.number c.index.result.now c.index_mut.result.now c.loop-number.invariant.0 (search rules) c.index.ensures (search rules) in
    let pushed : c.push.new.self.items ≡ c.loop-number.others.items ++ c.split-other.result ∷ [] = search rules in (
      sit_set ws c.loop-number.places.items c.loop-number.number c.index_mut.result.now c.split-other.new.place c.loop-number.invariant.0 (search rules) c.split-other.ensures.same.0,
      ap (map id_of) pushed ∙ seat_more ws c.loop-number.others.items c.loop-number.number c.index.result.now c.split-other.result c.loop-number.invariant.1 (search rules) c.index.ensures (c.split-other.ensures.other.0 ∙ same),
    )
