use Rattle.std.proofs.Common.{rules, ◌<◌, length, arith}
use Rattle.nm_shared.proofs.Boards.{finds_at, same_id, sit_length, sit_set}
use Rattle.nm_shared.proofs.board.ClockBoard.look.Goals as goal

pub look-requires : goal.look-requires
look-requires c = same_id c.args.self.now.words.items c.args.seat.now.places.items c.args.word c.index.result.now c.index_mut-place.result.now c.requires.seat (search rules) c.index.ensures (search rules)

pub returns-clause-seat : goal.returns-clause-seat
returns-clause-seat c = sit_set c.args.self.now.words.items c.args.seat.now.places.items c.args.word c.index_mut-place.result.now c.look.new.place c.requires.seat (search rules) c.look.ensures.word

pub returns-clause-found : goal.returns-clause-found
returns-clause-found c =
    let len = sit_length c.args.self.now.words.items c.args.seat.now.places.items c.requires.seat in
    let lt : c.args.word < length c.args.self.now.words.items = search rules in
    finds_at c.args.seat.now.places.items c.args.word c.index_mut-place.result.now c.look.new.place c.look.result (omega arith) (search rules) c.look.ensures.view c.look.ensures.found
