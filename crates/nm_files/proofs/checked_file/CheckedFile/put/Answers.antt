use Rattle.std.proofs.Common.{◌≡◌, ◌++◌, ap, ap₂, ◌∙◌, subst}
use Rattle.std.proofs.lemmas.Result.{err_from_is_err_and}
use Rattle.nm_pcap.specs.Format.{record_header, record_octets}
use Rattle.nm_files.specs.Checked.{HasRead, IsUnlike}
use Rattle.nm_files.proofs.checked_file.CheckedFile.put.Goals as goal

pub returns-clause-read : goal.returns-clause-read
returns-clause-read g c = λ texts n before read.
    let r = c.args.record.now in
    let octets : c.record_header_octets-header.result ++ c.octets.result.now ≡ record_octets r =
    ap₂ (λ h p. h ++ p) (c.record_header_octets-header.ensures ∙ ap (record_header r.time) c.octet_count.ensures.count) c.octets.ensures.value in
    let both = subst (λ l. HasRead texts g.B.Read.remaining n (before ++ l) c.expect_both.new.self) octets (c.in_ok-expect_both.ensures.read texts n before read) in
    record { own = both.own; same = both.same; rest = both.rest }

pub returns-in_err-expect_both-clause-unlike : goal.returns-in_err-expect_both-clause-unlike
returns-in_err-expect_both-clause-unlike g c = λ texts n before read.
    let r = c.args.record.now in
    let octets : c.record_header_octets-header.result ++ c.octets.result.now ≡ record_octets r =
    ap₂ (λ h p. h ++ p) (c.record_header_octets-header.ensures ∙ ap (record_header r.time) c.octet_count.ensures.count) c.octets.ensures.value in
    let p = err_from_is_err_and c.from_residual.result c.from_residual.ensures.1 in
    rw (p.1, p.2) (subst (λ l. IsUnlike texts n before l c.in_err-expect_both.field-0.0) octets (c.in_err-expect_both.ensures.unlike texts n before read))
