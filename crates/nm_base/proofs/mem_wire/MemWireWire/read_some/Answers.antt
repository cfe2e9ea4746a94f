use Rattle.std.proofs.Common.{arith}
use Rattle.std.proofs.lemmas.Grind.{common_steps}
use Rattle.std.proofs.Math.Seq.{take-add}
use Rattle.nm_base.proofs.mem_wire.MemWireWire.read_some.Goals as goal

pub returns-clause-reads : goal.returns-clause-reads
returns-clause-reads c =
    let e = take-add c.self.inside.at c.min-count.result c.self.inside.source.items in
    grind (arith, common_steps, e)
