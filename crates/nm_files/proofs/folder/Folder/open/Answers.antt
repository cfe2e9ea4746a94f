use Rattle.std.proofs.Common.{◌<◌, ◌∷◌, [], length, length-append, refl, ◌∙◌, ap, subst, arith, rules}
use Rattle.nm_pcap.specs.Format.{file_header}
use Rattle.nm_files.specs.Folder.{HasOpened}
use Rattle.nm_files.proofs.Folders.{element, none_holds, one_holds}
use Rattle.nm_files.proofs.folder.Folder.open.Goals as goal

pub loop-number-init : goal.loop-number-init
loop-number-init g c = record {
  within = omega arith;
  count = ap length c.new-files.ensures;
  held = none_holds g.F.File.Sink.seen (g.F.Outputs.made c.args.outputs.now) (g.C.Choice.chooses c.args.self.now.choice c.args.self.now.topology.now) c.args.self.now.topology.now.ifaces (λ n. file_header)
      c.new-files.result.files.items c.new-files.ensures;
  same = refl;
}

pub loop-number-preserved : goal.loop-number-preserved
loop-number-preserved g c =
    let n = c.loop-number.number in
    let t = c.args.self.now.topology.now in
    let chooses = g.C.Choice.chooses c.args.self.now.choice t in
    let made = g.F.Outputs.made c.args.outputs.now in
    let files = c.loop-number.files.files.items in
    let low : n < length t.ifaces = search rules in
    let is = element t.ifaces n low in
    let opened = subst (λ m. HasOpened g.F.File.Sink.seen m (chooses n is.0) files c.open_one.new.files.files.items) c.loop-number.invariant.same (c.in_ok-open_one.ensures.opened is.0 is.1) in
    record {
      within = omega (arith, low);
      count = let long = ap length opened.1 ∙ length-append files (opened.0 ∷ []) in let was = c.loop-number.invariant.count in omega (arith, long, was);
      held = one_holds g.F.File.Sink.seen made chooses t.ifaces files c.open_one.new.files.files.items n is.0 c.loop-number.invariant.count is.1 c.loop-number.invariant.held opened;
      same = c.in_ok-open_one.ensures.same ∙ c.loop-number.invariant.same;
    }
