use Rattle.std.proofs.Common.{Bool, cond, Result, Ok, Err, ap, sym, ◌∙◌}
use Rattle.nm_topology.specs.declared.fault.Refusal.{Refusal}
use Rattle.nm_topology.specs.declared.fault.Refusal.TheVariants.{UnknownKey}
use Rattle.nm_topology.specs.Keys.{keys_of}
use Rattle.nm_topology.proofs.TableKeys.{all_among-view}
use Rattle.nm_topology.proofs.parse.fields.only.Goals as goal

abbrev answer : Bool → Result Unit Refusal
answer b = cond b (Ok tt) (Err UnknownKey)

pub returns-then-has_only : goal.returns-then-has_only
returns-then-has_only c =
    ap answer (all_among-view (keys_of c.args.fields.now) c.args.table.now.entries ∙ sym c.has_only.ensures ∙ c.if-has_only.true)

pub returns-else-has_only : goal.returns-else-has_only
returns-else-has_only c =
    ap answer (all_among-view (keys_of c.args.fields.now) c.args.table.now.entries ∙ sym c.has_only.ensures ∙ c.if-has_only.false)
