use Rattle.std.proofs.Common.{ℕ, List, Result, OnOk, subst, sym, ◌++◌, codes, decimal}
use Rattle.std.proofs.lemmas.Result.{on_ok_weaker}
use Rattle.std.specs.Io.KnownBytes.{Appends}
use Rattle.nm_base.specs.Sink.{SinkSeen, WroteAll}
use Rattle.nm_base.specs.declared.sink.SinkFault.{SinkFault}
use Rattle.nm_command.specs.Status.{line_of}
use Rattle.nm_command.proofs.status.Status.say.Goals as goal

-- what was written was taken
told : (old new : SinkSeen) (octets : List ℕ) (r : Result (Unit {0}) SinkFault) → OnOk r (WroteAll old new octets) → OnOk r (Appends old.taken new.taken octets)
told old new octets r wrote = on_ok_weaker r (λ (w : WroteAll old new octets). w.whole) wrote

pub returns-in-Topology-clause-said : goal.returns-in-Topology-clause-said
returns-in-Topology-clause-said g c =
    let seen = g.S.Sink.seen in
    subst (λ s. OnOk c.put_number-in-Topology.result (Appends (seen c.args.sink.now).taken (seen c.put_number-in-Topology.new.sink).taken (line_of s))) (sym c.in-Topology.is)
    (subst (λ n. OnOk c.put_number-in-Topology.result (Appends (seen c.args.sink.now).taken (seen c.put_number-in-Topology.new.sink).taken (codes "nullsim: topology " ++ decimal n ++ codes "\n")))
    c.number.ensures c.put_number-in-Topology.ensures.said)

pub returns-in-Memory-clause-said : goal.returns-in-Memory-clause-said
returns-in-Memory-clause-said g c =
    let seen = g.S.Sink.seen in
    subst (λ s. OnOk c.write_all-in-Memory.result (Appends (seen c.args.sink.now).taken (seen c.write_all-in-Memory.new.sink).taken (line_of s))) (sym c.in-Memory.is) (told _ _ _ _ c.write_all-in-Memory.ensures.ok)

pub returns-in-Stalled-clause-said : goal.returns-in-Stalled-clause-said
returns-in-Stalled-clause-said g c =
    let seen = g.S.Sink.seen in
    subst (λ s. OnOk c.write_all-in-Stalled.result (Appends (seen c.args.sink.now).taken (seen c.write_all-in-Stalled.new.sink).taken (line_of s))) (sym c.in-Stalled.is) (told _ _ _ _ c.write_all-in-Stalled.ensures.ok)
