use Rattle.std.proofs.Common.{refl, subst, sym, rules}
use Rattle.nm_book.specs.Book.{state_of}
use Rattle.nm_files.specs.Least.{AreReadBelow}
use Rattle.nm_certify.specs.Checking.{HasRanAll}
use Rattle.nm_certify.proofs.Ends.{begun_read}
use Rattle.nm_certify.proofs.Runs.{still_same}
use Rattle.nm_certify.proofs.running.run_beside.Goals as goal

pub loop-init : goal.loop-init
loop-init g c =
    let left = g.B.Read.remaining in
    let files = c.args.files.now in
    record {
      handed = search rules;
      same = refl;
      read = λ texts are. subst (λ l. AreReadBelow texts left files l files) (sym c.requires.start) (begun_read texts left files are);
    }

pub returns-in-All-clause-read : goal.returns-in-All-clause-read
returns-in-All-clause-read g c = λ texts are. c.run_on-ran.ensures.read texts c.args.files.now (c.loop.invariant.read texts are)

pub loop-preserved : goal.loop-preserved
loop-preserved g c = record {
  handed = c.run_on-ran.ensures.handed;
  same = still_same c.args.book.now c.loop.book c.run_on-ran.new.book c.loop.invariant.same c.run_on-ran.ensures.same;
  read = λ texts are. c.run_on-ran.ensures.read texts c.args.files.now (c.loop.invariant.read texts are);
}

pub returns-in-All-clause-all : goal.returns-in-All-clause-all
returns-in-All-clause-all g c = subst (HasRanAll c.run_on-ran.new.book) c.in-All.is c.run_on-ran.ensures.all
