use Rattle.std.proofs.Common.{◌≡◌, ◌==◌, Bool, ℕ, ◌∙◌}
use Rattle.nm_model.specs.Partition.{receiver_of}
use Rattle.nm_pcap.specs.declared.form.Form.TheVariants.{Octets}
use Rattle.nm_topology.specs.PartValues.{IfaceValue}
use Rattle.nm_sim.specs.Network.{net_of}
use Rattle.nm_files.specs.TraceFile.{octets_after, trace_file}
use Rattle.nm_files.proofs.Folders.{more_hold, same_octets}
use Rattle.nm_files.proofs.Records.{whole_file}
use Rattle.nm_program.proofs.own_files.close_traces.Goals as goal

pub close-requires : goal.close-requires
close-requires g c = c.in_ok-put_all.ensures.took.count ∙ c.requires.opened.1

pub returns-clause-closed : goal.returns-clause-closed
returns-clause-closed g c =
    let folder = c.args.folder.now in
    let t = folder.topology.now in
    let records = c.args.records.now in
    let chooses : ℕ → IfaceValue → Bool = λ n iface. receiver_of (net_of t) n == folder.choice.partition in
    let seen = g.F.File.Sink.seen in
    let made = g.F.Outputs.made c.args.outputs.now in
    let held = more_hold seen made chooses t.ifaces records c.args.files.files.items c.put_all.new.self.files.items c.requires.opened.0 c.in_ok-put_all.ensures.took in
    let whole = same_octets seen made chooses t.ifaces (λ n. octets_after n records) (λ n. trace_file Octets n records) c.put_all.new.self.files.items (λ n. whole_file n records) held in
    c.in_ok-close.ensures.whole (λ n. trace_file Octets n records) whole
