use Rattle.std.proofs.Common.{◌∙◌, inl, map, string_bytes}
use Rattle.std.specs.Io.Buffered.{reader_remaining}
use Rattle.std.proofs.lemmas.Result.{err_from_is_err_and}
use Rattle.nm_offline.specs.Input.{inputs_seen}
use Rattle.nm_offline.specs.Verify.{texts_of}
use Rattle.nm_offline.proofs.Verifying.{all_whole, behind_first, record_first}
use Rattle.nm_offline.proofs.verify.check_files.Goals as goal

pub returns-clause-looked : goal.returns-clause-looked
returns-clause-looked g c = c.in_ok-finish_all.ensures.looked ∙ c.in_ok-check_records.ensures.looked ∙ c.in_ok-files.ensures.looked

pub returns-clause-read : goal.returns-clause-read
returns-clause-read g c = λ records trace.
    let texts = texts_of (inputs_seen g.I.Inputs.seen c.args.inputs.now) c.args.folder.now.name.now c.args.folder.now.topology.now in
    c.in_ok-finish_all.ensures.read texts records (c.in_ok-check_records.ensures.read texts records trace c.in_ok-files.ensures.read)

pub returns-clause-whole : goal.returns-clause-whole
returns-clause-whole g c = λ records trace.
    let t = c.args.folder.now.topology.now in
    let names = map (λ n. string_bytes n) c.args.folder.now.choice.names.now in
    let texts = texts_of (inputs_seen g.I.Inputs.seen c.args.inputs.now) c.args.folder.now.name.now t in
    let left = reader_remaining g.I.File.Read.remaining in
    let files = c.check_records.new.files.files.items in
    all_whole t names texts left records files (c.in_ok-check_records.ensures.looked ∙ c.in_ok-files.ensures.looked)
    (c.in_ok-finish_all.ensures.whole texts records (c.in_ok-check_records.ensures.read texts records trace c.in_ok-files.ensures.read))

pub returns-in_err-files-clause-first : goal.returns-in_err-files-clause-first
returns-in_err-files-clause-first g c = λ records trace.
    let p = err_from_is_err_and c.from_residual.result c.from_residual.ensures.1 in
    rw (p.1, p.2) (λ own octet is. let first = c.in_err-files.ensures.first own octet is in (first.0, inl first.1))

pub returns-in_err-check_records-clause-first : goal.returns-in_err-check_records-clause-first
returns-in_err-check_records-clause-first g c = λ records trace.
    let p = err_from_is_err_and c.from_residual-in_err-check_records.result c.from_residual-in_err-check_records.ensures.1 in
    let t = c.args.folder.now.topology.now in
    let names = map (λ n. string_bytes n) c.args.folder.now.choice.names.now in
    let texts = texts_of (inputs_seen g.I.Inputs.seen c.args.inputs.now) c.args.folder.now.name.now t in
    let left = reader_remaining g.I.File.Read.remaining in
    rw (p.1, p.2) (λ own octet is. record_first t names texts left records c.in_ok-files.files.files.items c.in_ok-files.ensures.looked own octet (c.in_err-check_records.ensures.unlike texts records trace c.in_ok-files.ensures.read own octet is))

pub returns-in_err-finish_all-clause-first : goal.returns-in_err-finish_all-clause-first
returns-in_err-finish_all-clause-first g c = λ records trace.
    let p = err_from_is_err_and c.from_residual-in_err-finish_all.result c.from_residual-in_err-finish_all.ensures.1 in
    let t = c.args.folder.now.topology.now in
    let names = map (λ n. string_bytes n) c.args.folder.now.choice.names.now in
    let texts = texts_of (inputs_seen g.I.Inputs.seen c.args.inputs.now) c.args.folder.now.name.now t in
    let left = reader_remaining g.I.File.Read.remaining in
    let read = c.in_ok-check_records.ensures.read texts records trace c.in_ok-files.ensures.read in
    rw (p.1, p.2) (λ own octet is.
    let longer = c.in_err-finish_all.ensures.longer texts records read own octet is in
    behind_first t names texts left records c.check_records.new.files.files.items (c.in_ok-check_records.ensures.looked ∙ c.in_ok-files.ensures.looked) own octet read longer.0 longer.1 longer.2)
