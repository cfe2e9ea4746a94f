use Rattle.std.proofs.Common.{◌≡◌, ◌∙◌, suc, ◌+◌, true, None, Ok, sym, subst, arith, ⊎_elim}
use Rattle.std.proofs.lemmas.Bool.{cases_lt}
use Rattle.nm_events.specs.Held.{pending_of}
use Rattle.nm_model.specs.Run.{one_list, pends_before}
use Rattle.nm_sim.specs.Network.{net_of}
use Rattle.nm_sim.specs.Part.{Advanced, Represents}
use Rattle.nm_sim.proofs.trace.run.Goals as goal

pub returns-then-not-branch-clause-done : goal.returns-then-not-branch-clause-done
returns-then-not-branch-clause-done c =
    let t = c.args.topology.now in
    let s = one_list (net_of t) c.loop-done.done in
    let represents = c.loop-done.invariant.0 in
    let ended = subst (λ b. Advanced pending_of t (record { part = None; state = s; until = c.args.before }) c.loop-done.part c.advance.new.self (Ok b)) c.if-not-branch.true
    (c.in_ok-advance.ensures.advance None s represents) in (
      c.loop-done.done,
      record {
        over = ended.1;
        first = λ m h. c.loop-done.invariant.2 m h;
      },
      subst (λ p. Represents pending_of t None p s) (sym ended.0) represents,
    )

pub loop-done-preserved : goal.loop-done-preserved
loop-done-preserved c =
    let t = c.args.topology.now in
    let s = one_list (net_of t) c.loop-done.done in
    let more = subst (λ b. Advanced pending_of t (record { part = None; state = s; until = c.args.before }) c.loop-done.part c.advance.new.self (Ok b)) c.if-not-branch.false
    (c.in_ok-advance.ensures.advance None s c.loop-done.invariant.0) in
    let next : suc c.loop-done.done ≡ c.loop-done.done + 1 = omega arith in (
      subst (λ n. Represents pending_of t None c.advance.new.self (one_list (net_of t) n)) next more.0,
      c.advance.ensures.keeping ∙ c.loop-done.invariant.1,
      λ m h. ⊎_elim
          (λ l. c.loop-done.invariant.2 m l)
          (λ g. let same : c.loop-done.done ≡ m = omega (arith, g, h) in subst (λ k. pends_before c.args.before (one_list (net_of t) k) ≡ true) same more.1)
          (cases_lt m c.loop-done.done),
    )
