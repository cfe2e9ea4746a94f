use Rattle.std.proofs.lemmas.Result.{on_ok_weaker}
use Rattle.nm_files.proofs.Least.{file_ends, file_goes_on}
use Rattle.nm_files.proofs.least_checked.LeastChecked.finish.Goals as goal

pub returns-in-Err : goal.returns-in-Err
returns-in-Err g c = λ texts records read.
    let n = c.args.iface in
    on_ok_weaker c.keep.result
    (λ kept. file_goes_on texts g.B.Read.remaining records n c.args.self.now c.keep.new.self c.finish.new.self.files.items c.in-Err.fault (c.in-Err.ensures.read texts records read)
    c.in-Err.ensures.looked c.in-Err.ensures.own (c.in-Err.ensures.longer texts records read) kept)
    c.keep.ensures
