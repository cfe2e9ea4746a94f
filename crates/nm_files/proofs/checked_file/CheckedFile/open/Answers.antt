use Rattle.std.proofs.Common.{[], refl, subst}
use Rattle.std.proofs.lemmas.Result.{err_from_is_err_and}
use Rattle.nm_files.specs.Checked.{HasRead, IsUnlike}
use Rattle.nm_files.proofs.Checked.{nothing_read}
use Rattle.nm_files.proofs.checked_file.CheckedFile.open.Goals as goal

pub returns-clause-read : goal.returns-clause-read
returns-clause-read g c = λ texts told.
    subst (λ l. HasRead texts g.B.Read.remaining c.args.iface l c.expect.new.self) c.file_header_octets.ensures
    (c.in_ok-expect.ensures.read texts c.args.iface [] (rw c.new-file.ensures (record {
      own = refl;
      same = refl;
      rest = nothing_read (texts c.args.iface) (g.B.Read.remaining c.args.reader) told;
    })))

pub returns-in_err-expect-clause-unlike : goal.returns-in_err-expect-clause-unlike
returns-in_err-expect-clause-unlike g c = λ texts told.
    let p = err_from_is_err_and c.from_residual.result c.from_residual.ensures.1 in
    rw (p.1, p.2) (subst (λ l. IsUnlike texts c.args.iface [] l c.in_err-expect.field-0.0) c.file_header_octets.ensures
    (c.in_err-expect.ensures.unlike texts c.args.iface [] (rw c.new-file.ensures (record {
      own = refl;
      same = refl;
      rest = nothing_read (texts c.args.iface) (g.B.Read.remaining c.args.reader) told;
    }))))
