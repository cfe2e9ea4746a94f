use Rattle.std.proofs.Common.{◌++◌, subst}
use Rattle.std.proofs.lemmas.List.{append_assoc}
use Rattle.std.proofs.lemmas.Result.{IfErr-weaker, err_from_is_err_and, on_ok_weaker}
use Rattle.nm_files.specs.Checked.{HasRead, IsUnlike}
use Rattle.nm_files.proofs.Checked.{unlike_after, unlike_more}
use Rattle.nm_files.proofs.checked_file.CheckedFile.expect_both.Goals as goal

pub returns-in_err-expect-clause-unlike : goal.returns-in_err-expect-clause-unlike
returns-in_err-expect-clause-unlike g c = λ texts n before read.
    let p = err_from_is_err_and c.from_residual.result c.from_residual.ensures.1 in
    rw (p.1, p.2) (unlike_more texts n before c.args.first.now c.args.second.now c.in_err-expect.field-0.0 (c.in_err-expect.ensures.unlike texts n before read))

pub returns-clause-read : goal.returns-clause-read
returns-clause-read g c = λ texts n before read.
    on_ok_weaker c.expect-2.result
    (λ both. subst (λ l. HasRead texts g.B.Read.remaining n l c.expect-2.new.self) (append_assoc before c.args.first.now c.args.second.now) both)
    (c.expect-2.ensures.read texts n (before ++ c.args.first.now) (c.in_ok-expect.ensures.read texts n before read))

pub returns-clause-unlike : goal.returns-clause-unlike
returns-clause-unlike g c = λ texts n before read.
    IfErr-weaker c.expect-2.result (IsUnlike texts n (before ++ c.args.first.now) c.args.second.now) (IsUnlike texts n before (c.args.first.now ++ c.args.second.now))
    (λ fault unlike. unlike_after texts n before c.args.first.now c.args.second.now fault unlike)
    (c.expect-2.ensures.unlike texts n (before ++ c.args.first.now) (c.in_ok-expect.ensures.read texts n before read))
