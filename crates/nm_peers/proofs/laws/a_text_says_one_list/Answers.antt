use Rattle.std.proofs.Common.{sym, ◌∙◌, arith}
use Rattle.nm_peers.proofs.Lines.{one_list}
use Rattle.nm_peers.proofs.laws.a_text_says_one_list.Goals as goal

pub returns : goal.returns
returns c = λ text partitions p q r s one other small is also. one_list partitions one other (omega arith) is.fit also.fit (sym is.whole ∙ also.whole)
