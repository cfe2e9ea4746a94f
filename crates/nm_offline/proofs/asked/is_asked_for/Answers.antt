use Rattle.std.proofs.Common.{string_bytes, ◌∙◌, rules}
use Rattle.nm_offline.proofs.AskedNames.{wanted_by}
use Rattle.nm_offline.proofs.asked.is_asked_for.Goals as goal

pub returns-then-is_empty : goal.returns-then-is_empty
returns-then-is_empty c = search rules ∙ wanted_by (λ n. string_bytes n) c.args.names.now c.args.iface.now

pub returns-else-is_empty : goal.returns-else-is_empty
returns-else-is_empty c = search rules ∙ wanted_by (λ n. string_bytes n) c.args.names.now c.args.iface.now
