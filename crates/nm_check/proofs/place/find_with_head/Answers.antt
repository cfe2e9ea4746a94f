use Rattle.std.proofs.Common.{◌≡◌, subst}
use Rattle.std.specs.Prelude.{IfOk}
use Rattle.toml.specs.View.{table_view}
use Rattle.nm_topology.specs.declared.parse.head.Head.{Head}
use Rattle.nm_check.specs.Place.{find_in_arrays}
use Rattle.nm_check.proofs.place.find_with_head.Goals as goal

pub returns-clause-value : goal.returns-clause-value
returns-clause-value c =
    subst (λ (h : Head). IfOk c.find_in_arrays.result (λ found. found ≡ find_in_arrays h (table_view c.args.table.now))) c.in_ok-head.ensures.value c.find_in_arrays.ensures.value
