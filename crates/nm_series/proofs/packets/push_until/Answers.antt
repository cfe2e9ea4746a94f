use Rattle.std.proofs.Common.{Some, sym, subst}
use Rattle.nm_series.specs.Packets.{HasAllRows}
use Rattle.nm_series.proofs.RowsMore.{on_ok}
use Rattle.nm_series.proofs.packets.push_until.Goals as goal

pub returns-clause-rows : goal.returns-clause-rows
returns-clause-rows c =
    let t = c.args.topology.now in
    let new = c.push_all_ended.new in
    on_ok c.push_all_ended.result (λ rows j initial has.
    subst (λ p. HasAllRows t j p.steps initial new.text.items new.measured.courses) (sym c.push_all_ended.ensures.part)
    (rows j c.advance.new.self.part.steps initial (has.0, c.in_ok-advance.ensures.followed (Some j) has.0 has.1, has.2))) c.push_all_ended.ensures.rows
