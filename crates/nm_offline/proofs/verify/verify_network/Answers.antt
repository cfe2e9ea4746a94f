use Rattle.std.proofs.Common.{refl}
use Rattle.std.specs.Io.Buffered.{reader_remaining}
use Rattle.std.proofs.lemmas.Option.{slice_get_within}
use Rattle.std.proofs.lemmas.Result.{IfOk-weaker}
use Rattle.nm_command.specs.declared.status.Status.TheVariants.{Done}
use Rattle.nm_offline.specs.All.{all_asked}
use Rattle.nm_offline.specs.Input.{inputs_seen}
use Rattle.nm_offline.specs.Verify.{SaysVerified, texts_of}
use Rattle.nm_offline.proofs.Endings.{text_is_said}
use Rattle.nm_offline.proofs.Verifying.{not_verified}
use Rattle.nm_offline.proofs.verify.verify_network.Goals as goal

pub status_of-requires : goal.status_of-requires
status_of-requires g c =
    let t = c.args.network.now in
    let there = c.every_topology_has_a_trace.ensures.there t.stop in
    record { there = λ own octet is. let first = c.in-Err.ensures.first there.0 there.1 own octet is in slice_get_within t.ifaces own first.0.0 first.0.1 }

pub returns-in-Ok-clause-said : goal.returns-in-Ok-clause-said
returns-in-Ok-clause-said g c = λ text read.
    let t = c.args.network.now in
    let there = c.every_topology_has_a_trace.ensures.there t.stop in
    let inputs = inputs_seen g.I.Inputs.seen c.args.inputs.now in
    let asked = all_asked c.args.words.now in
    text_is_said (λ o. o.text) (λ o. o.status) (λ status said. SaysVerified inputs asked text status said.items) Done c.verified_text.result c.of.result
    (IfOk-weaker c.verified_text.result _ _ (λ v said. (
      refl,
      record {
        network = t;
        read = read;
        named = c.requires;
        records = there.0;
        trace = there.1;
        whole = c.in-Ok.ensures.whole there.0 there.1;
        said = said;
      },
    )) (c.verified_text.ensures (texts_of inputs asked.folder t) (reader_remaining g.I.File.Read.remaining) asked.names there.0 (c.in-Ok.ensures.read there.0 there.1) c.in-Ok.ensures.looked))
    c.of.ensures.made

pub returns-in-Err-clause-fault : goal.returns-in-Err-clause-fault
returns-in-Err-clause-fault g c = λ text read.
    let t = c.args.network.now in
    let there = c.every_topology_has_a_trace.ensures.there t.stop in
    not_verified (inputs_seen g.I.Inputs.seen c.args.inputs.now) (inputs_seen g.I.Inputs.seen c.status_of.new.inputs) (all_asked c.args.words.now) text t there.0 c.in-Err.fault c.status_of.result read c.requires
    there.1 (c.in-Err.ensures.first there.0 there.1) c.status_of.ensures
