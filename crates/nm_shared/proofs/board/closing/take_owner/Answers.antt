use Rattle.nm_shared.proofs.Closings.{owned_is}
use Rattle.nm_shared.proofs.board.closing.take_owner.Goals as goal

pub returns-clause-fits : goal.returns-clause-fits
returns-clause-fits c ns fit =
    let f = c.take_place.ensures.fits ns fit in
    (f.0, owned_is _ _ f.1.0 c.args.owner.one)
