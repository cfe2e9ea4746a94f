use Rattle.std.proofs.Common.{◌<◌, ◌≤◌, ◌==◌, ◌∙◌, length, sym, ap, arith, rules}
use Rattle.std.specs.Io.Buffered.{reader_remaining}
use Rattle.nm_files.proofs.Folders.{element}
use Rattle.nm_model.specs.Partition.{receiver_of}
use Rattle.nm_sim.specs.Network.{net_of}
use Rattle.nm_offline.specs.Input.{inputs_seen}
use Rattle.nm_offline.proofs.Certifying.{all_opened, chosen_text, own_count, own_looked, some_opened}
use Rattle.nm_offline.proofs.part_files.open_traces.Goals as goal

pub loop-number-preserved : goal.loop-number-preserved
loop-number-preserved g c =
    let t = c.args.folder.now.topology.now in
    let p = c.args.folder.now.choice.partition in
    let n = c.loop-number.number in
    let low : n < length t.ifaces = search rules in
    let is = element t.ifaces n low in
    let inputs = inputs_seen g.I.Inputs.seen c.args.inputs.now in
    let old = c.loop-number.files.files.items in
    let new = c.open_one.new.files.files.items in
    let more = c.in_default.ensures.looked is.0 is.1 in
    record {
      within = omega (arith, low);
      count = own_count (receiver_of (net_of t) n == p) n old new c.loop-number.invariant.count more;
      looked = own_looked t p n old new c.loop-number.invariant.count more c.loop-number.invariant.looked;
      read = λ texts own. c.in_default.ensures.read texts (chosen_text inputs c.args.folder.now.name.now t p texts n own) (c.loop-number.invariant.read texts own);
    }

pub returns-in-Err : goal.returns-in-Err
returns-in-Err g c = λ texts own.
    let t = c.args.folder.now.topology.now in
    let p = c.args.folder.now.choice.partition in
    let n = c.loop-number.number in
    let low : n < length t.ifaces = search rules in
    let inputs = inputs_seen g.I.Inputs.seen c.args.inputs.now in
    some_opened (reader_remaining g.I.File.Read.remaining) texts t p c.loop-number.files.files.items n c.loop-number.invariant.count c.loop-number.invariant.looked (c.loop-number.invariant.read texts own)
    c.new.result (ap (λ f. f.files.files.items) c.new.ensures ∙ c.in-Err.ensures.kept) c.in-Err.fault c.in_ok-found.found low (sym c.found_difference.ensures ∙ c.in_ok-found.was) (ap (λ f. f.differs) c.new.ensures)
    (c.in-Err.ensures.unlike texts (chosen_text inputs c.args.folder.now.name.now t p texts n own))

pub returns : goal.returns
returns g c = λ texts own.
    let t = c.args.folder.now.topology.now in
    let p = c.args.folder.now.choice.partition in
    let n = c.loop-number.number in
    let over : length t.ifaces ≤ n = search rules in
    let within = c.loop-number.invariant.within in
    all_opened (reader_remaining g.I.File.Read.remaining) texts t p c.loop-number.files.files.items n c.loop-number.invariant.count c.loop-number.invariant.looked (c.loop-number.invariant.read texts own)
    c.new-2.result (ap (λ f. f.files.files.items) c.new-2.ensures) (omega (arith, over, within)) (ap (λ f. f.differs) c.new-2.ensures)
