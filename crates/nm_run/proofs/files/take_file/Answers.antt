use Rattle.std.proofs.Common.{◌≡◌, ◌<◌, ◌*◌, get_or, length, sym, subst, rules}
use Rattle.std.proofs.lemmas.List.Elements.{All-get_or, All-set}
use Rattle.nm_files.specs.Files.{AreCounted, IsCounted}
use Rattle.nm_run.proofs.ClosedFiles.{one_counted}
use Rattle.nm_run.proofs.files.take_file.Goals as goal

pub returns-clause-counted : goal.returns-clause-counted
returns-clause-counted g c = λ made all.
    let seen = g.S.Sink.seen in
    let files = c.args.files.now.items in
    let n = c.index.result * c.args.replicas in
    let own = c.in_ok-get_mut.field-0.now in
    let low : n < length files = search rules in
    let there : own ≡ get_or files n own = search rules in
    let counted = subst (λ o. AreCounted seen made o.files.items) (sym there) (All-get_or (λ o. AreCounted seen made o.files.items) files n own low all) in (
      subst (IsCounted seen made) (sym c.take.ensures.file) (one_counted seen made own.files.items c.args.iface counted),
      All-set (λ o. AreCounted seen made o.files.items) files n c.take.new.self (c.take.ensures.counted seen made counted) all,
    )
