use Rattle.std.proofs.Common.{ℕ, suc, Option, length, take, drop, map, rules, subst, sym, Ok, ◌∙◌}
use Rattle.std.proofs.lemmas.List.{length_push}
use Rattle.std.proofs.lemmas.Iterator.Consumers.{YieldsList-turn}
use Rattle.std.proofs.lemmas.Iterator.Adapters.{YieldsList-from_vec}
use Rattle.std.proofs.lemmas.Result.{err_from_is_err_and}
use Rattle.nm_frames.specs.Lives.{Took}
use Rattle.nm_engine.specs.Lives.{LinkLives}
use Rattle.nm_engine.specs.Acceptor.{AcceptorValue}
use Rattle.nm_engine.specs.Passes.{LinkState, owner_if, reached}
use Rattle.nm_engine.specs.Taking.{Stops, TakesOne}
use Rattle.nm_engine.proofs.Steps.{cut_at, took_next}
use Rattle.nm_engine.proofs.taking.take_all.Goals as goal

pub returns-in_err-take_one-clause-takes : goal.returns-in_err-take_one-clause-takes
returns-in_err-take_one-clause-takes g c =
    let C = g.C.Counts in
    let o = owner_if C.exact C.home in
    let first = reached C.exact C.messages_of C.events_of c.args.party.now.session c.args.pass.now.share in
    let fs = c.args.frames.items in
    let n = length c.loop-frame.yielded in
    let f = c.in-Some.frame in
    let turn = YieldsList-turn (YieldsList-from_vec {s = c.into_iter-frame-iterator.result} fs (search rules) (search rules)) c.loop-frame.yielded c.loop-frame.frame-iterator c.loop-frame.yielded_by c.next.result c.next.new.self c.in-Some.frame c.in-Some.is c.next.ensures.steps in
    let lives = c.loop-frame.invariant.lives in
    let keeps = c.loop-frame.invariant.keeps in
    let e = c.in_err-take_one.ensures.takes in
    let p = err_from_is_err_and c.from_residual.result c.from_residual.ensures.1 in
    let last = reached C.exact C.messages_of C.events_of c.take_one.new.party.session c.take_one.new.pass.share in
    rw (p.1, p.2) (
      take n fs,
      f,
      drop (suc n) fs,
      cut_at fs n f turn.0 turn.1,
      subst (λ (x : LinkState). LinkLives o c.args.party.now.acceptor first (map Took (take n fs)) x) (sym e.0) lives,
      subst (λ (h : Option AcceptorValue). Stops o h c.in_err-take_one.field-0.0 last f) keeps
          (subst (λ (x : LinkState). Stops o c.loop-frame.party.acceptor c.in_err-take_one.field-0.0 x f) (sym e.0) e.1),
    )

pub loop-frame-preserved : goal.loop-frame-preserved
loop-frame-preserved g c =
    let C = g.C.Counts in
    let o = owner_if C.exact C.home in
    let first = reached C.exact C.messages_of C.events_of c.args.party.now.session c.args.pass.now.share in
    let before = reached C.exact C.messages_of C.events_of c.loop-frame.party.session c.loop-frame.pass.share in
    let after = reached C.exact C.messages_of C.events_of c.take_one.new.party.session c.take_one.new.pass.share in
    let fs = c.args.frames.items in
    let n = length c.loop-frame.yielded in
    let f = c.in-Some.frame in
    let turn = YieldsList-turn (YieldsList-from_vec {s = c.into_iter-frame-iterator.result} fs (search rules) (search rules)) c.loop-frame.yielded c.loop-frame.frame-iterator c.loop-frame.yielded_by c.next.result c.next.new.self c.in-Some.frame c.in-Some.is c.next.ensures.steps in
    let keeps = c.loop-frame.invariant.keeps in
    let took = subst (λ (h : Option AcceptorValue). TakesOne o h before f after (Ok tt)) keeps c.in_ok-take_one.ensures.takes in
    let step = took_next o c.args.party.now.acceptor first before after fs n f c.requires turn c.loop-frame.invariant.lives took in
    record {
      lives = subst (λ (k : ℕ). LinkLives o c.args.party.now.acceptor first (map Took (take k fs)) after) (sym (length_push c.loop-frame.yielded f)) step;
      keeps = c.in_ok-take_one.ensures.keeps ∙ keeps;
    }
