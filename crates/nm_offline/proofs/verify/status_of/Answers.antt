use Rattle.std.proofs.Common.{ℕ, ◌∙◌, sym}
use Rattle.nm_offline.specs.Input.{inputs_seen}
use Rattle.nm_offline.proofs.Verifying.{differs_is, status_differs}
use Rattle.nm_offline.proofs.verify.status_of.Goals as goal

pub returns-in-Some : goal.returns-in-Some
returns-in-Some g c =
    let seen = inputs_seen g.I.Inputs.seen c.args.inputs.now in
    let place : ℕ × ℕ = c.in-Some.place in
    let is = sym c.difference.ensures ∙ c.in-Some.is in
    status_differs seen seen c.args.network.now.ifaces c.args.fault.now place c.differs.result is (c.requires.there place.0 place.1 (differs_is c.args.fault.now place is)) c.differs.ensures
