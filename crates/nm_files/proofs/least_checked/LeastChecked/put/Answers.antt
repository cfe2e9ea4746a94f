use Rattle.std.proofs.Common.{refl}
use Rattle.std.proofs.lemmas.Result.{on_ok_weaker}
use Rattle.nm_files.proofs.Least.{record_differs, record_read}
use Rattle.nm_files.proofs.least_checked.LeastChecked.put.Goals as goal

pub returns-in-Ok : goal.returns-in-Ok
returns-in-Ok g c = λ texts begun before was.
    let old = c.args.self.now in
    record_read texts g.B.Read.remaining begun before c.args.record.now old (record old { files = c.put.new.self }) was (c.in-Ok.ensures.read texts before was.read) c.in-Ok.ensures.looked refl

pub returns-in-Err : goal.returns-in-Err
returns-in-Err g c = λ texts begun before was.
    on_ok_weaker c.keep.result
    (λ kept. record_differs texts g.B.Read.remaining begun before c.args.record.now c.args.self.now c.keep.new.self c.put.new.self.files.items c.in-Err.fault was
    c.in-Err.ensures.looked c.in-Err.ensures.own (c.in-Err.ensures.lesser texts before was.read) (c.in-Err.ensures.unlike texts before was.read) kept)
    c.keep.ensures
