use Rattle.std.proofs.Common.{map, string_bytes, inl, inr, refl}
use Rattle.std.proofs.lemmas.Result.{err_from_is_err_and}
use Rattle.nm_offline.specs.All.{asked_files}
use Rattle.nm_offline.specs.Input.{inputs_seen}
use Rattle.nm_offline.proofs.AskedNames.{ends_all}
use Rattle.nm_offline.proofs.all.make_all.Goals as goal

pub returns : goal.returns
returns g c =
    let network = c.in_ok-network.network in
    let there = c.every_topology_has_a_trace.ensures.there network.stop in
    let read = c.in_ok-network.ensures.network in
    let names = map (λ n. string_bytes n) c.args.words.now.ifaces.now in
    let folder = c.args.words.now.folder.now in
    ends_all (inputs_seen g.I.Inputs.seen c.args.inputs.now) (inputs_seen g.I.Inputs.seen c.read_topology.new.inputs)
    (g.F.Outputs.made c.args.outputs.now) (g.F.Outputs.made c.make_files.new.outputs) c.args.words.now.topology.now folder names read.0 (asked_files network names folder there.0) c.make_files.result
    read.1
    (record {
      network = network;
      read = read.2;
      named = c.in_ok-find_ifaces.ensures.found;
      records = there.0;
      trace = there.1;
      all = refl;
    })
    (c.make_files.ensures.made there.0 there.1) (c.make_files.ensures.some there.0 there.1) c.make_files.ensures.fault

-- a name is that of no interface
pub returns-in_err-find_ifaces : goal.returns-in_err-find_ifaces
returns-in_err-find_ifaces g c =
    let p = err_from_is_err_and c.from_residual-in_err-find_ifaces.result c.from_residual-in_err-find_ifaces.ensures.1 in
    let read = c.in_ok-network.ensures.network in
    let none = c.in_err-find_ifaces.ensures.none in
    rw (p.1, p.2, none.0) (inr (inl (inr (read.0, read.1, inr (refl, (c.in_ok-network.network, read.2, none.1))), refl)))
