use Rattle.std.proofs.Common.{refl, subst}
use Rattle.std.specs.Arc.{arc_value}
use Rattle.std.proofs.lemmas.Result.{IfOk-weaker}
use Rattle.nm_command.specs.declared.status.Status.TheVariants.{Done}
use Rattle.nm_sim.specs.Network.{net_of}
use Rattle.nm_sim.specs.Trace.{IsTraceBefore}
use Rattle.nm_offline.specs.Certify.{IsStatusOfFiles, SaysFiles, certify_asked}
use Rattle.nm_offline.specs.Input.{inputs_seen}
use Rattle.nm_offline.proofs.Certifying.{books_of_partitions, not_certified, says_files}
use Rattle.nm_offline.proofs.Endings.{text_is_said}
use Rattle.nm_offline.proofs.InterfaceLines.{are_theirs}
use Rattle.nm_offline.proofs.certify.certify_network.Goals as goal

pub certified_text-requires : goal.certified_text-requires
certified_text-requires g c =
    let t = arc_value c.args.network.now in
    record {
      books = are_theirs t c.deref-in-Ok.result.now c.in-Ok.books.items c.as_slice.result.now c.deref-in-Ok.ensures c.as_slice.ensures.value
          (books_of_partitions (inputs_seen g.I.Inputs.seen c.args.inputs.now) (certify_asked c.args.words.now).folders t c.in-Ok.books.items c.in-Ok.ensures.books);
    }

pub returns-in-Ok-clause-said : goal.returns-in-Ok-clause-said
returns-in-Ok-clause-said g c = λ text read.
    let t = arc_value c.args.network.now in
    let there = c.every_topology_has_a_trace.ensures.there t.stop in
    let inputs = inputs_seen g.I.Inputs.seen c.args.inputs.now in
    let asked = certify_asked c.args.words.now in
    text_is_said (λ o. o.text) (λ o. o.status) (λ status said. SaysFiles inputs asked text status said.items) Done c.certified_text.result c.of.result
    (IfOk-weaker c.certified_text.result _ _ (λ v said. (
      refl,
      says_files inputs asked t c.deref-in-Ok.result.now c.in-Ok.books.items c.as_slice.result.now there.0 text v.items c.deref-in-Ok.ensures c.as_slice.ensures.value
          (c.interfaces_have_their_records.ensures (net_of t)) c.in-Ok.ensures.books (subst (λ z. IsTraceBefore z t.stop there.0) c.deref.ensures there.1) read said,
    )) c.certified_text.ensures)
    c.of.ensures.made

pub returns-in-Err-clause-fault : goal.returns-in-Err-clause-fault
returns-in-Err-clause-fault g c = λ text read.
    let t = arc_value c.args.network.now in
    let before = inputs_seen g.I.Inputs.seen c.args.inputs.now in
    let after = inputs_seen g.I.Inputs.seen c.status_of.new.inputs in
    not_certified before after (certify_asked c.args.words.now) text t c.in-Err.fault c.status_of.result read c.in-Err.ensures.fault
    (subst (λ z. IsStatusOfFiles before after z.ifaces c.in-Err.fault c.status_of.result) c.deref-in-Err.ensures c.status_of.ensures)
