use Rattle.std.proofs.Common.{◌∙◌, length, sym}
use Rattle.std.proofs.lemmas.Result.{err_from_is_err_and}
use Rattle.nm_book.specs.Book.{is_incoming}
use Rattle.nm_known.specs.Known.{channel_known}
use Rattle.nm_known.proofs.Heard.{heard_data, is_next_of}
use Rattle.nm_known.proofs.Refused.{data_not_taken, data_out_of_turn}
use Rattle.nm_known.proofs.taking.take_data.Goals as goal

pub returns-then-not-is_next-clause-why : goal.returns-then-not-is_next-clause-why
returns-then-not-is_next-clause-why c = λ told heard. data_out_of_turn c.args.book.now told c.args.channel heard c.args.message (sym c.is_next.ensures ∙ c.if-not-is_next.true)

pub returns-in_err-tell-clause-why : goal.returns-in_err-tell-clause-why
returns-in_err-tell-clause-why c = λ told heard.
    let p = err_from_is_err_and c.from_residual.result c.from_residual.ensures.1 in
    rw (p.1, p.2) (data_not_taken c.args.book.now told c.args.channel heard c.args.message c.in_err-tell.field-0.0 c.in_err-tell.ensures.why)

pub returns-clause-heard : goal.returns-clause-heard
returns-clause-heard c = λ told heard.
    let b = c.args.book.now in
    let next = is_next_of (is_incoming b c.args.channel) c.args.message.channel c.args.channel c.args.message.number (length (channel_known b c.args.channel).list) (sym c.is_next.ensures ∙ c.if-not-is_next.false) in
    heard_data b c.tell.new.book c.in_ok-tell.ensures.same told c.args.channel c.args.message heard next.0 next.1 c.in_ok-tell.ensures.learned
