use Rattle.std.proofs.Common.{Bool, ℕ, map, string_bytes, sym, ◌∙◌, subst}
use Rattle.std.proofs.lemmas.Result.{err_from_is_err_and}
use Rattle.nm_pcap.specs.declared.form.Form.TheVariants.{Octets}
use Rattle.nm_topology.specs.PartValues.{IfaceValue}
use Rattle.nm_files.specs.Files.{HoldsFiles}
use Rattle.nm_files.specs.Outputs.{AreWhole}
use Rattle.nm_files.specs.TraceFile.{octets_after, trace_file}
use Rattle.nm_files.proofs.Folders.{more_hold, same_octets}
use Rattle.nm_files.proofs.Records.{whole_file}
use Rattle.nm_offline.specs.All.{asked_files, is_asked_for}
use Rattle.nm_offline.proofs.all.write_files.Goals as goal

pub close-requires : goal.close-requires
close-requires g c =
    let there = c.every_topology_has_a_trace.ensures.there c.args.folder.now.topology.now.stop in
    let took = c.in_ok-record_all.ensures.took there.0 there.1 in
    took.count ∙ c.in_ok-files.ensures.count

pub returns-clause-whole : goal.returns-clause-whole
returns-clause-whole g c = λ records trace.
    let t = c.args.folder.now.topology.now in
    let names = map (λ n. string_bytes n) c.args.folder.now.choice.names.now in
    let chooses : ℕ → IfaceValue → Bool = λ n iface. is_asked_for names iface in
    let seen = g.F.File.Sink.seen in
    let same = c.in_ok-files.ensures.same in
    let held = more_hold seen (g.F.Outputs.made c.args.outputs.now) chooses t.ifaces records c.in_ok-files.files.files.items c.record_all.new.files.files.items
    c.in_ok-files.ensures.holds (c.in_ok-record_all.ensures.took records trace) in
    let whole = same_octets seen (g.F.Outputs.made c.args.outputs.now) chooses t.ifaces (λ n. octets_after n records) (λ n. trace_file Octets n records) c.record_all.new.files.files.items
    (λ n. whole_file n records) held in
    subst (λ m. AreWhole m (map (λ c. g.F.Outputs.closed c.file) c.in_ok-close.field-0.files.items) (asked_files t names c.args.folder.now.name.now records)) same
    (c.in_ok-close.ensures.whole (λ n. trace_file Octets n records) (subst (λ m. HoldsFiles seen m chooses t.ifaces (λ n. trace_file Octets n records) c.record_all.new.files.files.items) (sym same) whole))

pub returns-in_err-record_all-clause-fault : goal.returns-in_err-record_all-clause-fault
returns-in_err-record_all-clause-fault g c =
    let p = err_from_is_err_and c.from_residual-in_err-record_all.result c.from_residual-in_err-record_all.ensures.1 in
    rw (p.1, p.2) c.in_err-record_all.ensures.fault
