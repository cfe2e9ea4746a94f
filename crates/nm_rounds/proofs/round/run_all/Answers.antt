use Rattle.std.proofs.Common.{◌≡◌, ◌<◌, ◌≤◌, ◌+◌, suc, arith, length, slice_set, subst, rules}
use Rattle.nm_rounds.specs.Rounds.{AreBooks}
use Rattle.nm_rounds.proofs.RoundBooks.{run_every, run_next, run_none, up_to}
use Rattle.nm_rounds.proofs.round.run_all.Goals as goal

pub loop-number-init : goal.loop-number-init
loop-number-init c t x y are once counts same = run_none t t.partitions x y c.args.books.now.items are

pub loop-number-preserved : goal.loop-number-preserved
loop-number-preserved c t x y are once counts same =
    let k = c.loop-number.number in
    let books = c.loop-number.books.items in
    let now = c.loop-number.invariant t x y are once counts same in
    let there : k < length books = search rules in
    let next : suc k ≡ k + 1 = omega arith in
    subst (λ n. AreBooks t t.partitions (up_to n y x) (slice_set books k c.run_book.new.book)) next
    (run_next t t.partitions x y books k now (let m = now.count in omega (arith, m, there)) c.index_mut.result.now c.run_book.new.book c.index_mut.ensures.value c.in_ok-run_book.ensures
    (once k) (counts k) (same k))

pub returns : goal.returns
returns c t x y are once counts same =
    let now = c.loop-number.invariant t x y are once counts same in
    let past : length c.args.books.now.items ≤ c.loop-number.number = search rules in
    run_every t t.partitions x y c.loop-number.books.items c.loop-number.number now (let m = are.count in omega (arith, m, past))
