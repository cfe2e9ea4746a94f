use Rattle.std.proofs.Common.{[], arith}
use Rattle.std.proofs.lemmas.Result.{err_from_is_err_and}
use Rattle.nm_engine.proofs.Givings.{gives_more, gives_then}
use Rattle.nm_engine.proofs.giving.give_all.Goals as goal

pub returns-then-not-branch-clause-gives : goal.returns-then-not-branch-clause-gives
returns-then-not-branch-clause-gives g c = λ h.
    gives_more _ h _ _ _ c.args.out.now.items c.loop-session.out.items c.give_one.new.out.items [] (c.loop-session.invariant.gives h) (c.in_ok-give_one.ensures.gives h)

pub returns-in_err-give_one-clause-gives : goal.returns-in_err-give_one-clause-gives
returns-in_err-give_one-clause-gives g c =
    let p = err_from_is_err_and c.from_residual.result c.from_residual.ensures.1 in
    rw p.1 (λ h. gives_then _ h _ _ _ c.args.out.now.items c.loop-session.out.items c.give_one.new.out.items (c.loop-session.invariant.gives h) (c.in_err-give_one.ensures.gives h))

pub loop-session-preserved : goal.loop-session-preserved
loop-session-preserved g c = record {
  gives = λ h.
      gives_more _ h _ _ _ c.args.out.now.items c.loop-session.out.items c.give_one.new.out.items [] (c.loop-session.invariant.gives h) (c.in_ok-give_one.ensures.gives h);
  most = omega (arith, c.give_one.ensures.most);
}
