use Rattle.std.proofs.Common.{arith}
use Rattle.std.proofs.lemmas.Str.Pattern.{split_once_first}
use Rattle.nm_topology.proofs.Searches.{prefix_of-no_slash}
use Rattle.nm_topology.proofs.parse.forms.prefix_of.Goals as goal

pub returns-in-None : goal.returns-in-None
returns-in-None c =
    prefix_of-no_slash c.args.text.now
    (rw c.in-None.is at (split_once_first 47 c.args.text.now c.split_once.result c.split_once.ensures.cases (omega arith)))
