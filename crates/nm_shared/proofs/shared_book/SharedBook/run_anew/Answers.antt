use Rattle.nm_shared.proofs.Pools.{counted_is}
use Rattle.nm_shared.proofs.shared_book.SharedBook.run_anew.Goals as goal

pub returns-clause-runs : goal.returns-clause-runs
returns-clause-runs g c = let m = c.act-answer.ensures in ∣ (m.0, m.1, m.2) ∣₁

pub returns-clause-counted : goal.returns-clause-counted
returns-clause-counted g c =
    let m = c.act-answer.ensures in
    let n = c.count_of-count in
    counted_is g.C.Counts.exact _ m.0 c.act-answer.result m.1 _ _ n.result m.2 c.in_ok-pass.ensures.fresh.1 m.3.events n.ensures n.type_inv
