use Rattle.nm_forward.proofs.Keeping.{reaction-table}
use Rattle.nm_forward.proofs.laws.a_node_keeps_its_tables.Goals as goal

pub returns : goal.returns
returns c = λ t v n o x. reaction-table t v n x o
