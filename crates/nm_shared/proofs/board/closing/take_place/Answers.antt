use Rattle.std.proofs.Common.{rules, ◌≡◌, get_or, arith}
use Rattle.nm_shared.proofs.Boards.{sits_below, sits_here}
use Rattle.nm_shared.proofs.Closings.{fit_taken, sit_here, sit_taken, sits_same}
use Rattle.nm_shared.proofs.board.closing.take_place.Goals as goal

pub index_mut-requires : goal.index_mut-requires
index_mut-requires c =
    let lt = sits_below c.args.words.now.items c.args.word c.args.place c.requires.place in
    omega (arith, lt, c.requires.sit.0, c.args.closers.now.ok.0)

pub index-requires : goal.index-requires
index-requires c =
    let lt = sits_below c.args.words.now.items c.args.word c.args.place c.requires.place in
    omega (arith, lt, c.args.words.now.ok.0)

pub index_mut-requires-2 : goal.index_mut-requires-2
index_mut-requires-2 c =
    let lt = sits_below c.args.words.now.items c.args.word c.args.place c.requires.place in
    omega (arith, lt, c.requires.sit.0, c.args.closers.now.ok.0)

pub both-requires-clause-place : goal.both-requires-clause-place
both-requires-clause-place c = sits_here c.args.words.now.items c.args.word c.args.place c.index.result.now c.requires.place c.index.ensures

pub both-requires-clause-closer : goal.both-requires-clause-closer
both-requires-clause-closer c =
    let lt = sits_below c.args.words.now.items c.args.word c.args.place c.requires.place in
    let there : c.take-closer.result ≡ get_or c.args.closers.now.items c.args.word c.take-closer.result = search rules in
    sit_here c.args.words.now.items c.args.closers.now.items c.args.word c.take-closer.result c.index.result.now c.requires.sit (omega (arith, lt, c.requires.sit.0)) there c.index.ensures

pub returns-clause-sit : goal.returns-clause-sit
returns-clause-sit c =
    let lt = sits_below c.args.words.now.items c.args.word c.args.place c.requires.place in
    let same = c.both.ensures.word in
    sit_taken c.args.words.now.items c.args.closers.now.items c.args.word c.take-closer.new.self c.both.result c.requires.sit (sits_same c.args.words.now.items c.args.word c.index.result.now c.both.result lt c.index.ensures same)

pub returns-clause-fits : goal.returns-clause-fits
returns-clause-fits c ns fit =
    let lt = sits_below c.args.words.now.items c.args.word c.args.place c.requires.place in
    let there : c.take-closer.result ≡ get_or c.args.closers.now.items c.args.word c.take-closer.result = search rules in
    fit_taken ns c.args.closers.now.items c.args.word c.take-closer.result c.take-closer.new.self c.both.result c.args.place (omega (arith, lt, c.requires.sit.0)) there (c.both.ensures.fits _) fit
