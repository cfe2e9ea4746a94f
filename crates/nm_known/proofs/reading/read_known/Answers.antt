use Rattle.std.proofs.Common.{[], Some, refl, subst, sym}
use Rattle.std.proofs.lemmas.Result.{IfErr-weaker, err_from_is_err_and}
use Rattle.nm_known.specs.Known.{ExplainsText}
use Rattle.nm_known.specs.Reading.{HoldsPart, IsReadTo}
use Rattle.nm_known.specs.declared.taking.Expected.TheVariants.{Hello}
use Rattle.nm_known.proofs.Heard.{still_same}
use Rattle.nm_known.proofs.Read.{new_holds, nothing_read, read_on, read_up, text_explains, text_explains_before}
use Rattle.nm_known.proofs.reading.read_known.Goals as goal

pub loop-init : goal.loop-init
loop-init g c =
    let text = g.B.Read.remaining c.args.reader in
    record {
      read = subst (λ z. IsReadTo text c.args.book.now Hello z text) (sym c.new-pending.ensures) (nothing_read text c.args.book.now c.requires);
      holds = subst HoldsPart (sym c.new-pending.ensures) new_holds;
      same = refl;
    }

pub returns-in_err-read_piece-clause-why : goal.returns-in_err-read_piece-clause-why
returns-in_err-read_piece-clause-why g c =
    let p = err_from_is_err_and c.from_residual.result c.from_residual.ensures.1 in
    let text = g.B.Read.remaining c.args.reader in
    let e = c.in_err-read_piece.field-0.0 in
    rw (p.1, p.2) (text_explains_before c.args.book.now c.loop.book text e c.loop.invariant.same (c.in_err-read_piece.ensures.why text c.loop.book c.loop.expected c.loop.invariant.read))

pub returns-then-not-branch-clause-why : goal.returns-then-not-branch-clause-why
returns-then-not-branch-clause-why g c =
    let text = g.B.Read.remaining c.args.reader in
    let end = c.in_ok-read_piece.ensures.end c.if-not-branch.true in
    IfErr-weaker c.check_end.result (ExplainsText c.loop.book text) (ExplainsText c.args.book.now text) (λ e why. text_explains_before c.args.book.now c.loop.book text e c.loop.invariant.same why)
    (c.check_end.ensures.why text c.loop.book (subst (λ r. IsReadTo text c.loop.book c.loop.expected r (Some [])) (sym end.0)
    (read_up text (g.B.Read.remaining c.loop.file) c.loop.book c.loop.expected c.loop.pending c.loop.invariant.read end.1)))

pub returns-in_err-expected-clause-why : goal.returns-in_err-expected-clause-why
returns-in_err-expected-clause-why g c =
    let p = err_from_is_err_and c.from_residual-in_err-expected.result c.from_residual-in_err-expected.ensures.1 in
    let text = g.B.Read.remaining c.args.reader in
    let e = c.in_err-expected.field-0.0 in
    rw (p.1, p.2) (text_explains_before c.args.book.now c.loop.book text e c.loop.invariant.same
    (text_explains text (g.B.Read.remaining c.loop.file) (g.B.Read.remaining c.read_piece.new.file) c.loop.book c.loop.expected c.loop.pending c.read_piece.new.reader c.read_piece.new.frames.items e c.loop.invariant.read
    (c.in_ok-read_piece.ensures.cut c.if-not-branch.false) c.in_err-expected.ensures.why))

pub loop-preserved : goal.loop-preserved
loop-preserved g c =
    let cut = c.in_ok-read_piece.ensures.cut c.if-not-branch.false in
    record {
      read = read_on (g.B.Read.remaining c.args.reader) (g.B.Read.remaining c.loop.file) (g.B.Read.remaining c.read_piece.new.file) c.loop.book c.take_all.new.book c.loop.expected c.in_ok-expected.expected c.loop.pending c.read_piece.new.reader
          c.read_piece.new.frames.items c.loop.invariant.read cut c.in_ok-expected.ensures.heard;
      holds = cut.holds;
      same = still_same c.args.book.now c.loop.book c.take_all.new.book c.loop.invariant.same c.in_ok-expected.ensures.same;
    }
