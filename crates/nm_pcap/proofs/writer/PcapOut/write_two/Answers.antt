use Rattle.std.proofs.Common.{◌++◌, sym, subst}
use Rattle.std.proofs.lemmas.Result.{err_from_is_err_and}
use Rattle.nm_pcap.specs.Outcome.{Adds}
use Rattle.nm_pcap.specs.Writing.{written}
use Rattle.nm_pcap.proofs.Forms.{written-append}
use Rattle.nm_pcap.proofs.Outcomes.{Adds-err, Adds-ok}
use Rattle.nm_pcap.proofs.writer.PcapOut.write_two.Goals as goal

pub returns-in_err-write : goal.returns-in_err-write
returns-in_err-write g c =
    let p = err_from_is_err_and c.from_residual.result c.from_residual.ensures.1 in
    let form = c.args.self.now.form in
    subst (λ l. Adds g.W.Sink.seen c.args.self.now c.write.new.self c.from_residual.result l) (sym (written-append form c.args.first.now c.args.second.now))
    (rw (p.1, p.2) (Adds-err g.W.Sink.seen _ _ _ (written form c.args.first.now) (written form c.args.second.now) c.in_err-write.ensures))

pub returns : goal.returns
returns g c =
    let form = c.args.self.now.form in
    subst (λ l. Adds g.W.Sink.seen c.args.self.now c.write-2.new.self c.write-2.result l) (sym (written-append form c.args.first.now c.args.second.now))
    (Adds-ok g.W.Sink.seen _ c.write.new.self _ _ (written form c.args.first.now) (written form c.args.second.now) c.in_ok-write.ensures
    (subst (λ f. Adds g.W.Sink.seen c.write.new.self c.write-2.new.self c.write-2.result (written f c.args.second.now)) c.in_ok-write.ensures.same_form c.write-2.ensures))
