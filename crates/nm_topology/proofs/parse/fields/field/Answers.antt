use Rattle.std.proofs.Common.{◌≡◌, option_map, subst}
use Rattle.toml.specs.Data.{get_member}
use Rattle.toml.specs.View.{table_view, view}
use Rattle.toml.proofs.Views.{table_get}
use Rattle.nm_topology.proofs.parse.fields.field.Goals as goal

pub returns : goal.returns
returns c =
    subst (λ k. option_map (λ v. view v.now) c.get.result ≡ get_member k (table_view c.args.table.now)) c.text.ensures
    (table_get c.get.result c.text.result.now c.args.table.now.entries c.get.ensures.value)
