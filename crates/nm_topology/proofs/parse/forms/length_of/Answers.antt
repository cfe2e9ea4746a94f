use Rattle.std.proofs.Common.{sym, ◌∙◌, decimal}
use Rattle.nm_topology.proofs.Searches.{text-is}
use Rattle.nm_topology.proofs.parse.forms.length_of.Goals as goal

pub returns-in-Some-clause-value : goal.returns-in-Some-clause-value
returns-in-Some-clause-value c = sym c.in-Some.is ∙ text-is 33 decimal c.args.text.now c.printed_length.result c.printed_length.ensures.found c.printed_length.ensures.only

pub returns-in-None-clause-value : goal.returns-in-None-clause-value
returns-in-None-clause-value c = sym c.in-None.is ∙ text-is 33 decimal c.args.text.now c.printed_length.result c.printed_length.ensures.found c.printed_length.ensures.only
