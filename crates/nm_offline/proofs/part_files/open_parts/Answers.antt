use Rattle.std.proofs.Common.{◌≡◌, ◌∷◌, [], ◌++◌, append-nil, length, length-append, map, refl, sym, ◌∙◌, ap, subst, arith, rules}
use Rattle.std.specs.Io.Buffered.{reader_remaining}
use Rattle.std.specs.Vec.Iter.{into_iter_items}
use Rattle.std.proofs.lemmas.List.{append_assoc}
use Rattle.nm_certify.specs.declared.part_files.PartFiles.{PartFiles}
use Rattle.nm_offline.specs.Certify.{trace_texts}
use Rattle.nm_offline.specs.Finding.{AreOpened, AreOwnTexts, AreTracesOf, found_place}
use Rattle.nm_offline.specs.Input.{inputs_seen}
use Rattle.nm_offline.proofs.Certifying.{next_texts, no_items, one_opened}
use Rattle.nm_offline.proofs.part_files.open_parts.Goals as goal

pub loop-folder-preserved : goal.loop-folder-preserved
loop-folder-preserved g c =
    let t = c.args.topology.now in
    let found = c.args.found.items in
    let left = reader_remaining g.I.File.Read.remaining in
    let inputs = inputs_seen g.I.Inputs.seen c.args.inputs.now in
    let texts = trace_texts inputs t (map found_place found) in
    let n = c.loop-folder.number in
    let one = c.in-Some.field-0 in
    let done = c.loop-folder.yielded in
    let rest = into_iter_items c.next.new.self in
    let first = c.in-Some.ensures.steps.0 in
    let parts = c.loop-folder.parts.items in
    let all = c.loop-folder.invariant.all ∙ ap (λ l. done ++ l) first in
    let count = c.loop-folder.invariant.opened.count in
    let number = c.loop-folder.invariant.number in
    let here : n ≡ length done = number ∙ count in
    let files : PartFiles _ = record { replica = one.replica; known = one.known; traces = c.in_ok-traces.traces } in
    let own : AreOwnTexts inputs one.folder.now t c.new.result texts =
    next_texts inputs t found done rest one c.new.result all (c.new.ensures ∙ here) in
    let long = ap length c.in_ok-push.ensures.items ∙ length-append parts (files ∷ []) in
    record {
      number = omega (arith, number, long);
      all = all ∙ sym (append_assoc done (one ∷ []) rest);
      opened = one_opened left texts t done parts c.push.new.self.items one files n c.loop-folder.invariant.opened number
          (record {
            replica_is = refl;
            known_is = refl;
            traces = subst (λ p. AreTracesOf left texts t p c.in_ok-traces.traces) c.new.ensures (c.in_ok-traces.ensures texts own);
          })
          c.in_ok-push.ensures.items;
    }

pub returns : goal.returns
returns g c =
    let found = c.args.found.items in
    let left = into_iter_items c.loop-folder.folder-iterator in
    let none : length left ≡ 0 = let h = c.in-None.ensures.steps.0 in search rules in
    let all = c.loop-folder.invariant.all ∙ ap (λ l. c.loop-folder.yielded ++ l) (no_items left none) ∙ append-nil c.loop-folder.yielded in
    record { opened = subst (λ l. AreOpened (reader_remaining g.I.File.Read.remaining) (trace_texts (inputs_seen g.I.Inputs.seen c.args.inputs.now) c.args.topology.now (map found_place found)) c.args.topology.now l c.loop-folder.parts.items) (sym all) c.loop-folder.invariant.opened }
