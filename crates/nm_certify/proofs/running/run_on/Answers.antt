use Rattle.std.proofs.Common.{OnOk, subst}
use Rattle.nm_book.specs.Book.{state_of}
use Rattle.nm_files.specs.Least.{AreReadBelow}
use Rattle.nm_certify.proofs.Runs.{all_handed, still_all}
use Rattle.nm_certify.proofs.running.run_on.Goals as goal

pub returns-clause-read : goal.returns-clause-read
returns-clause-read g c = λ texts begun read.
    let old = c.args.book.now in
    let handed = c.hand_out_all-records in
    let all = all_handed old c.run_more-ran.new.book handed.new.self _ handed.result.items c.as_slice.result.now c.requires c.run_more-ran.ensures.same c.run_more-ran.ensures.grows
    handed.ensures.all handed.ensures.same c.as_slice.ensures.value in
    subst (λ l. OnOk c.read_over.result (AreReadBelow texts g.B.Read.remaining begun l c.read_over.new.files)) all (c.read_over.ensures texts begun (state_of old).records read)

pub returns-clause-all : goal.returns-clause-all
returns-clause-all g c = still_all c.run_more-ran.new.book c.hand_out_all-records.new.self _ c.run_more-ran.result c.hand_out_all-records.ensures.same c.run_more-ran.ensures.all
