use Rattle.std.proofs.Common.{◌+◌, ◌∙◌, length, subst, sym}
use Rattle.std.proofs.lemmas.Result.{err_from_is_err_and}
use Rattle.nm_book.specs.Book.{is_incoming}
use Rattle.nm_known.specs.Known.{channel_known}
use Rattle.nm_known.specs.Reading.{IsAfter}
use Rattle.nm_known.proofs.Heard.{has_clock_of, heard_null, is_next_of}
use Rattle.nm_known.proofs.Refused.{clock_refused, null_not_taken, null_out_of_turn}
use Rattle.nm_known.proofs.taking.take_null.Goals as goal

pub returns-then-not-is_next-clause-why : goal.returns-then-not-is_next-clause-why
returns-then-not-is_next-clause-why c = λ told heard. null_out_of_turn c.args.book.now told c.args.channel heard c.args.null.now (sym c.is_next.ensures ∙ c.if-not-is_next.true)

pub returns-in_err-tell-clause-why : goal.returns-in_err-tell-clause-why
returns-in_err-tell-clause-why c = λ told heard.
    let p = err_from_is_err_and c.from_residual.result c.from_residual.ensures.1 in
    rw (p.1, p.2) (null_not_taken c.args.book.now told c.args.channel heard c.args.null.now c.in_err-tell.field-0.0 c.in_err-tell.ensures.why)

pub returns-then-not-has_clock-clause-why : goal.returns-then-not-has_clock-clause-why
returns-then-not-has_clock-clause-why c = λ told heard.
    clock_refused c.args.book.now told c.args.channel heard c.args.null.now c.tell.new.book c.in_ok-tell.ensures.same c.in_ok-tell.ensures.learned (sym c.has_clock.ensures ∙ c.if-not-has_clock.true)

pub returns-clause-heard : goal.returns-clause-heard
returns-clause-heard c = λ told heard.
    let b = c.args.book.now in
    let all = is_next_of (is_incoming b c.args.channel) c.args.null.now.channel c.args.channel c.args.null.now.count (length (channel_known b c.args.channel).list) (sym c.is_next.ensures ∙ c.if-not-is_next.false) in
    heard_null b c.tell.new.book c.in_ok-tell.ensures.same told c.args.channel c.args.null.now c.next_channel.result heard all.0 all.1 c.in_ok-tell.ensures.learned
    (has_clock_of (is_incoming c.tell.new.book c.args.channel) (channel_known c.tell.new.book c.args.channel).clock c.args.null.now.clock (sym c.has_clock.ensures ∙ c.if-not-has_clock.false))
    (λ low. subst (λ k. IsAfter c.tell.new.book (k + 1) c.next_channel.result) c.index.ensures c.next_channel.ensures)
