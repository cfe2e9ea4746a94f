use Rattle.std.proofs.Common.{◌≡◌, ◌==◌, Bool, ℕ, refl, sym, subst, rules}
use Rattle.nm_model.specs.Partition.{receiver_of}
use Rattle.nm_pcap.specs.Format.{file_header}
use Rattle.nm_topology.specs.PartValues.{IfaceValue}
use Rattle.nm_sim.specs.Network.{net_of}
use Rattle.nm_run.specs.Files.{AreOwnFiles}
use Rattle.nm_run.proofs.ClosedFiles.{are_counted, are_there}
use Rattle.nm_run.proofs.files.files_of.Goals as goal

pub returns-clause-own : goal.returns-clause-own
returns-clause-own g c =
    let t = c.folder_of.result.topology.now in
    let files = c.in_ok-open.field-0.files.items in
    let partition = c.folder_of.result.choice.partition in
    let first : c.args.name.replica ≡ 0 = search rules in
    let chooses : ℕ → IfaceValue → Bool = λ n iface. receiver_of (net_of t) n == partition in
    subst (λ t. AreOwnFiles t c.args.name.partition c.args.name.replica files) c.folder_of.ensures.topology
    (subst (λ p. AreOwnFiles t p c.args.name.replica files) c.folder_of.ensures.choice
    (subst (λ r. AreOwnFiles t partition r files) (sym first) (record {
      count = c.in_ok-open.ensures.count;
      each = λ n file at.
          are_there g.F.File.Sink.seen (g.F.Outputs.made c.args.outputs.now) chooses t.ifaces (λ n. file_header) files c.in_ok-open.ensures.holds c.in_ok-open.ensures.count n file
          (receiver_of (net_of t) n == partition) (λ iface is. refl) at;
    })))

pub returns-clause-counted : goal.returns-clause-counted
returns-clause-counted g c =
    let t = c.folder_of.result.topology.now in
    let chooses : ℕ → IfaceValue → Bool = λ n iface. receiver_of (net_of t) n == c.folder_of.result.choice.partition in
    are_counted g.F.File.Sink.seen (g.F.Outputs.made c.args.outputs.now) chooses t.ifaces (λ n. file_header) c.in_ok-open.field-0.files.items c.in_ok-open.ensures.holds c.in_ok-open.ensures.count
