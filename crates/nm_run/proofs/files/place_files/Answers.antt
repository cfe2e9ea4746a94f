use Rattle.std.proofs.Common.{refl}
use Rattle.std.proofs.lemmas.Result.{err_from_is_err_and}
use Rattle.nm_run.proofs.files.place_files.Goals as goal

pub returns-in_err-place_all-clause-told : goal.returns-in_err-place_all-clause-told
returns-in_err-place_all-clause-told g c =
    let p = err_from_is_err_and c.from_residual.result c.from_residual.ensures.1 in
    rw (p.1, p.2) (c.in_err-place_all.field-0.0, c.in_err-place_all.ensures.told, refl)
