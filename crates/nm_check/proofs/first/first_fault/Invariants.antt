use Rattle.std.proofs.Common.{◌≡◌, drop}
use Rattle.toml.specs.View.{table_view}
use Rattle.nm_check.specs.Reading.{first_fault}
use Rattle.nm_check.proofs.first.first_fault.Given as goal

abbrev pub invariant-loop-wanted : goal.invariant-loop-wanted
invariant-loop-wanted l =
    first_fault l.head (table_view l.table) l.fields ≡ first_fault l.head (table_view l.table) (drop l.wanted-index l.fields)
