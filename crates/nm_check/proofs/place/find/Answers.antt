use Rattle.nm_check.proofs.FirstPlaces.{by_place, by_refusal}
use Rattle.toml.specs.View.{table_view}
use Rattle.nm_check.proofs.place.find.Goals as goal

pub returns-clause-refused : goal.returns-clause-refused
returns-clause-refused c = by_refusal (table_view c.args.table.now) c.find_first.result c.find_first.ensures.value

pub returns-clause-first : goal.returns-clause-first
returns-clause-first c = by_place (table_view c.args.table.now) c.find_first.result c.find_first.ensures.value
