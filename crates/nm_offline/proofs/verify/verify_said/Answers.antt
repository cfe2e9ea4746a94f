use Rattle.std.proofs.Common.{inl, inr, refl}
use Rattle.std.proofs.lemmas.Result.{err_from_is_err_and}
use Rattle.nm_offline.proofs.verify.verify_said.Goals as goal

-- a name is that of no interface
pub returns-in_err-find_ifaces-clause-fault : goal.returns-in_err-find_ifaces-clause-fault
returns-in_err-find_ifaces-clause-fault g c =
    let p = err_from_is_err_and c.from_residual-in_err-find_ifaces.result c.from_residual-in_err-find_ifaces.ensures.1 in
    let read = c.in_ok-network.ensures.network in
    let none = c.in_err-find_ifaces.ensures.none in
    rw (p.1, p.2, none.0) (inl (inr (read.0, read.1, inr (refl, (c.in_ok-network.network, read.2, none.1)))))
