use Rattle.std.proofs.Common.{◌<◌, ◌≤◌, [], length, map, string_bytes, sym, ◌∙◌, ap, subst, arith, rules}
use Rattle.std.specs.Io.Buffered.{reader_remaining}
use Rattle.std.proofs.lemmas.List.{take_all}
use Rattle.std.proofs.lemmas.Result.{err_from_is_err_and}
use Rattle.nm_files.specs.Checked.{HaveRead, looked_at}
use Rattle.nm_offline.specs.All.{is_asked_for}
use Rattle.nm_offline.specs.Input.{inputs_seen}
use Rattle.nm_offline.specs.Verify.{text_of_file, texts_of}
use Rattle.nm_files.proofs.Folders.{element}
use Rattle.nm_offline.proofs.Verifying.{header_first, looked_count, more_looked, none_read}
use Rattle.nm_offline.proofs.verify.open_all.Goals as goal

pub loop-number-init : goal.loop-number-init
loop-number-init g c =
    let texts = texts_of (inputs_seen g.I.Inputs.seen c.args.inputs.now) c.args.folder.now.name.now c.args.folder.now.topology.now in
    record {
      within = omega arith;
      looked = ap looked_at c.new-files.ensures;
      read = subst (HaveRead texts (reader_remaining g.I.File.Read.remaining) []) (sym c.new-files.ensures) (none_read texts (reader_remaining g.I.File.Read.remaining));
    }

pub open_one-requires : goal.open_one-requires
open_one-requires g c =
    let t = c.args.folder.now.topology.now in
    let low : c.loop-number.number < length t.ifaces = search rules in
    record {
      there = low;
      next = sym (looked_count c.loop-number.files.files.items (map (λ n. string_bytes n) c.args.folder.now.choice.names.now) t.ifaces c.loop-number.number c.loop-number.invariant.looked c.loop-number.invariant.within);
    }

pub loop-number-preserved : goal.loop-number-preserved
loop-number-preserved g c =
    let t = c.args.folder.now.topology.now in
    let names = map (λ n. string_bytes n) c.args.folder.now.choice.names.now in
    let n = c.loop-number.number in
    let folder = c.args.folder.now.name.now in
    let inputs = inputs_seen g.I.Inputs.seen c.args.inputs.now in
    let low : n < length t.ifaces = search rules in
    let is = element t.ifaces n low in
    record {
      within = omega (arith, low);
      looked = more_looked names t.ifaces n is.0 c.loop-number.files.files.items c.open_one.new.files.files.items is.1 c.loop-number.invariant.looked (c.in_ok-open_one.ensures.looked is.0 is.1);
      read = c.in_ok-open_one.ensures.read (texts_of inputs folder t) (λ x is asked. ap (text_of_file inputs.text folder) is) c.loop-number.invariant.read;
    }

pub returns-clause-looked : goal.returns-clause-looked
returns-clause-looked g c =
    let t = c.args.folder.now.topology.now in
    let over : length t.ifaces ≤ c.loop-number.number = search rules in
    c.loop-number.invariant.looked ∙ ap (map (is_asked_for (map (λ n. string_bytes n) c.args.folder.now.choice.names.now))) (take_all c.loop-number.number t.ifaces over)

pub returns-in_err-open_one-clause-first : goal.returns-in_err-open_one-clause-first
returns-in_err-open_one-clause-first g c =
    let p = err_from_is_err_and c.from_residual.result c.from_residual.ensures.1 in
    let t = c.args.folder.now.topology.now in
    let names = map (λ n. string_bytes n) c.args.folder.now.choice.names.now in
    let texts = texts_of (inputs_seen g.I.Inputs.seen c.args.inputs.now) c.args.folder.now.name.now t in
    let n = c.loop-number.number in
    let low : n < length t.ifaces = search rules in
    let at = element t.ifaces n low in
    rw (p.1, p.2) (λ own octet is.
    let unlike = c.in_err-open_one.ensures.unlike texts (λ x is asked. ap (text_of_file (inputs_seen g.I.Inputs.seen c.args.inputs.now).text c.args.folder.now.name.now) is) own octet is in
    header_first t names texts (reader_remaining g.I.File.Read.remaining) c.loop-number.files.files.items n own octet at.0 unlike.0 at.1 c.loop-number.invariant.looked c.loop-number.invariant.read (unlike.1 at.0 at.1) unlike.2)
