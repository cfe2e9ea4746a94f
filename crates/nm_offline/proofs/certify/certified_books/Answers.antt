use Rattle.std.proofs.Common.{map, string_bytes, sym, subst}
use Rattle.std.specs.Arc.{arc_value}
use Rattle.std.specs.Io.Buffered.{reader_remaining}
use Rattle.std.proofs.lemmas.Result.{IfErr-weaker}
use Rattle.nm_sim.specs.Trace.{IsTraceBefore}
use Rattle.nm_certify.specs.Certify.{ExplainsFault}
use Rattle.nm_offline.specs.Certify.{ExplainsFiles, trace_texts}
use Rattle.nm_offline.specs.Finding.{AllFound, AreOpened, found_place}
use Rattle.nm_offline.specs.Input.{inputs_seen}
use Rattle.nm_offline.proofs.Certifying.{headers_are, if_certified, not_all, not_read}
use Rattle.nm_offline.proofs.certify.certified_books.Goals as goal

pub certify_parts-requires-clause-headers : goal.certify_parts-requires-clause-headers
certify_parts-requires-clause-headers g c = λ κs bounds.
    let t = arc_value c.args.topology.now in
    let left = reader_remaining g.I.File.Read.remaining in
    let inputs = inputs_seen g.I.Inputs.seen c.args.inputs.now in
    let names = map (λ f. string_bytes f) c.args.words.now.folders.now in
    let found = c.in_ok-found.found.items in
    let all = subst (λ z. AllFound left inputs names z.partitions found) c.deref-2.ensures c.in_ok-found.ensures.found in
    let opened = subst (λ z. AreOpened left (trace_texts inputs z (map found_place found)) z found c.in-Ok.parts.items) c.deref-3.ensures c.in-Ok.ensures.opened in
    headers_are left inputs names t found c.in-Ok.parts.items all opened

pub returns-in-Ok-clause-books : goal.returns-in-Ok-clause-books
returns-in-Ok-clause-books g c =
    let t = arc_value c.args.topology.now in
    let left = reader_remaining g.I.File.Read.remaining in
    let inputs = inputs_seen g.I.Inputs.seen c.args.inputs.now in
    let names = map (λ f. string_bytes f) c.args.words.now.folders.now in
    let found = c.in_ok-found.found.items in
    let all = subst (λ z. AllFound left inputs names z.partitions found) c.deref-2.ensures c.in_ok-found.ensures.found in
    let opened = subst (λ z. AreOpened left (trace_texts inputs z (map found_place found)) z found c.in-Ok.parts.items) c.deref-3.ensures c.in-Ok.ensures.opened in
    if_certified left inputs names t found c.in-Ok.parts.items all opened (λ v. v.items) c.certify_parts.result c.certify_parts.ensures.certified c.certify_parts.ensures.books c.certify_parts.ensures.files

pub returns-in-Ok-clause-fault : goal.returns-in-Ok-clause-fault
returns-in-Ok-clause-fault g c =
    let t = arc_value c.args.topology.now in
    let there = c.every_topology_has_a_trace.ensures.there t.stop in
    let trace = subst (λ z. IsTraceBefore z t.stop there.0) c.deref.ensures there.1 in
    let left = reader_remaining g.I.File.Read.remaining in
    let inputs = inputs_seen g.I.Inputs.seen c.args.inputs.now in
    let names = map (λ f. string_bytes f) c.args.words.now.folders.now in
    let found = c.in_ok-found.found.items in
    let all = subst (λ z. AllFound left inputs names z.partitions found) c.deref-2.ensures c.in_ok-found.ensures.found in
    let opened = subst (λ z. AreOpened left (trace_texts inputs z (map found_place found)) z found c.in-Ok.parts.items) c.deref-3.ensures c.in-Ok.ensures.opened in
    IfErr-weaker c.certify_parts.result (ExplainsFault t left c.in-Ok.parts.items) (ExplainsFiles inputs names t) (not_all left inputs names t found c.in-Ok.parts.items all opened there.0 trace) c.certify_parts.ensures.fault

pub returns-in-Err-clause-fault : goal.returns-in-Err-clause-fault
returns-in-Err-clause-fault g c =
    let t = arc_value c.args.topology.now in
    let inputs = inputs_seen g.I.Inputs.seen c.args.inputs.now in
    let names = map (λ f. string_bytes f) c.args.words.now.folders.now in
    subst (ExplainsFiles inputs names t) (sym c.unread.ensures) (not_read inputs names t c.in-Err.fault)
