use Rattle.std.proofs.Common.{◌≡◌, ◌++◌, ℕ, true, slice_get, sym, ◌∙◌, ap, ap₂, subst, rules}
use Rattle.std.proofs.lemmas.Result.{on_ok_weaker}
use Rattle.nm_files.specs.Checked.{is_looked_at}
use Rattle.nm_offline.specs.Lines.{iface_line}
use Rattle.nm_offline.proofs.Verifying.{line_of, same_iface}
use Rattle.nm_offline.proofs.verify.push_looked.Goals as goal

pub returns : goal.returns
returns g c = λ texts left names records read looked iface at.
    let t = c.args.network.now in
    let n = c.args.number in
    let files = c.args.files.now.files.items in
    let same : c.iface_number-iface.result ≡ n = search rules in
    let there = ap (slice_get files) (sym same) ∙ c.in-Some.ensures.file in
    let yes : is_looked_at files n ≡ true = subst (λ k. is_looked_at files k ≡ true) same (sym c.in-Some.ensures.looked) in
    let own = same_iface t n c.iface.result.now iface (ap (slice_get t.ifaces) (sym same) ∙ c.iface.ensures) at in
    let totals = ap₂ (λ (a b : ℕ). (a, b)) c.totals-records.ensures.0 c.totals-records.ensures.1 in
    on_ok_weaker c.push_iface_line.result
    (λ line. line ∙ ap (λ l. c.args.text.now.items ++ l) (ap₂ (λ i p. iface_line i p) own totals ∙ line_of t names texts left records files looked n iface c.in-Some.file.now read at there yes))
    c.push_iface_line.ensures
