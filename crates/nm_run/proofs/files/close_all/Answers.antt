use Rattle.std.proofs.Common.{length, sym, ◌∙◌, ap, subst}
use Rattle.nm_run.specs.Files.{AreClosed}
use Rattle.nm_run.proofs.ClosedFiles.{all_held, octets_held, so_many}
use Rattle.nm_run.proofs.files.close_all.Goals as goal

pub close-requires : goal.close-requires
close-requires g c = c.in_ok-files.ensures.count ∙ sym (ap (λ t. length t.ifaces) c.deref.ensures)

pub returns-clause-closed : goal.returns-clause-closed
returns-clause-closed g c =
    let seen = g.F.File.Sink.seen in
    let made = g.F.Outputs.made c.args.outputs.now in
    let files = c.in_ok-files.files.files.items in
    let all = c.in_ok-files.ensures.some made c.requires.counted in
    let octets = octets_held seen made files all in
    let totals = c.args.totals.now in
    subst (λ t. AreClosed g.F.Outputs.closed made c.args.plan.now.folder.now t totals c.in_ok-close.field-0.files.items) c.deref.ensures (
      octets,
      so_many seen made totals files all (c.requires.count ∙ sym c.in_ok-files.ensures.count) c.in_ok-files.ensures.totals,
      c.in_ok-close.ensures.whole octets (all_held seen made c.deref.result.now.ifaces files all),
    )
