use Rattle.std.proofs.Common.{sym, ◌∙◌}
use Rattle.nm_alike.proofs.Same.{both_decide, lent_decide, maybe_numbers_decide, turned}
use Rattle.nm_alike.proofs.agree_on.Goals as goal

pub returns : goal.returns
returns c =
    let sent = turned c.sent.ensures c.sent-2.ensures (lent_decide c.sent.result c.sent-2.result) in
    let promise = turned c.promise.ensures c.promise-2.ensures (maybe_numbers_decide c.promise.result c.promise-2.result) in
    let old_promise = turned c.old_promise.ensures c.old_promise-2.ensures (maybe_numbers_decide c.old_promise.result c.old_promise-2.result) in
    let all = both_decide (both_decide sent promise) old_promise in (
      λ h. let w = all.0 (sym c.eq.ensures ∙ h) in record { know = c.know_alike.ensures.0 c.if-not-know_alike.false; sent = w.0.0; promise = w.0.1; old_promise = w.1 },
      λ r. c.eq.ensures ∙ all.1 ((r.sent, r.promise), r.old_promise),
    )
