use Rattle.nm_report.proofs.Pieces.{some_is}
use Rattle.nm_report.proofs.iface_table.traffic_at.Goals as goal

pub returns : goal.returns
returns c = λ t until m there. some_is _ _ _ _ c.unwrap_or.ensures (c.traffic.ensures t until m there)
