use Rattle.std.proofs.Common.{length, take, rules, sym, ap, ◌∙◌, ◌∷◌, [], ◌++◌}
use Rattle.std.proofs.lemmas.List.{length_push, take_more}
use Rattle.std.proofs.lemmas.Iterator.Consumers.{YieldsList-turn}
use Rattle.std.proofs.lemmas.Iterator.Adapters.{YieldsList-from_vec}
use Rattle.std.proofs.lemmas.Result.{err_from_is_err_and}
use Rattle.nm_known.proofs.Heard.{one_heard_more, still_same}
use Rattle.nm_known.proofs.Read.{cut_at, why_all}
use Rattle.nm_known.proofs.taking.take_all.Goals as goal

pub returns-in_err-next-clause-same : goal.returns-in_err-next-clause-same
returns-in_err-next-clause-same c = still_same c.args.book.now c.loop-frame.book c.take.new.book c.loop-frame.invariant.same c.in_err-next.ensures.same

pub returns-in_err-next-clause-why : goal.returns-in_err-next-clause-why
returns-in_err-next-clause-why c = λ told heard.
    let fs = c.args.frames.items in
    let n = length c.loop-frame.yielded in
    let f = c.in-Some.frame in
    let turn = YieldsList-turn (YieldsList-from_vec {s = c.into_iter-frame-iterator.result} fs (search rules) (search rules)) c.loop-frame.yielded c.loop-frame.frame-iterator c.loop-frame.yielded_by c.next.result c.next.new.self c.in-Some.frame c.in-Some.is c.next.ensures.steps in
    let p = err_from_is_err_and c.from_residual.result c.from_residual.ensures.1 in
    rw (p.1, p.2) (why_all c.args.book.now c.loop-frame.book told fs n f c.in_err-next.field-0.0 c.loop-frame.invariant.same (cut_at fs n f turn.0 turn.1)
    (c.in_err-next.ensures.why (told ++ take n fs) (c.loop-frame.invariant.heard told heard)))

pub loop-frame-preserved : goal.loop-frame-preserved
loop-frame-preserved c =
    let fs = c.args.frames.items in
    let n = length c.loop-frame.yielded in
    let f = c.in-Some.frame in
    let turn = YieldsList-turn (YieldsList-from_vec {s = c.into_iter-frame-iterator.result} fs (search rules) (search rules)) c.loop-frame.yielded c.loop-frame.frame-iterator c.loop-frame.yielded_by c.next.result c.next.new.self c.in-Some.frame c.in-Some.is c.next.ensures.steps in
    let more = ap (λ k. take k fs) (length_push c.loop-frame.yielded f) ∙ take_more fs n f turn.0 ∙ ap (λ x. take n fs ++ x ∷ []) (sym turn.1) in
    record {
      heard = one_heard_more c.args.book.now c.loop-frame.book c.take.new.book c.args.expected c.loop-frame.next c.in_ok-next.next fs n (length (c.loop-frame.yielded ++ f ∷ [])) f more c.loop-frame.invariant.heard c.in_ok-next.ensures.heard;
      same = still_same c.args.book.now c.loop-frame.book c.take.new.book c.loop-frame.invariant.same c.in_ok-next.ensures.same;
    }
