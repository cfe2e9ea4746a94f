use Rattle.std.proofs.Common.{◌≡◌, ℕ, List, ◌+◌, Ok, Some, true, arith, sym, ◌∙◌, ap, subst}
use Rattle.nm_model.specs.Replica.{IsWithin, from_scratch, safe_time}
use Rattle.nm_model.specs.Knowledge.{Know}
use Rattle.nm_model.specs.Run.{pends_before}
use Rattle.nm_model.specs.World.{advance}
use Rattle.nm_sim.specs.Network.{net_of}
use Rattle.nm_sim.specs.Part.{Advanced, events_counted}
use Rattle.nm_book.specs.Book.{knowledge_of}
use Rattle.nm_book.specs.BookPart.{pending_in}
use Rattle.nm_book.proofs.Incoming.{stop_is}
use Rattle.nm_book.proofs.Runnings.{one_more, ran_whole, still_book}
use Rattle.nm_book.proofs.running.run_part.Goals as goal
use Rattle.nm_book.proofs.running.run_part.Goals.{After-a_run_goes_to_what_is_safe}

-- a run of so many events of a replica with this knowledge that ends within what is safe
ran : (c : After-a_run_goes_to_what_is_safe) (p : ℕ) (knows : List (Know (List ℕ))) (k m n : ℕ) → m ≡ k + n
    → IsWithin (net_of c.args.topology.now) p (knowledge_of c.args.topology.now knows) m
    → m ≡ advance (net_of c.args.topology.now) p (knowledge_of c.args.topology.now knows) n k
ran c p knows =
    let t = c.args.topology.now in
    let pass = c.times_pass.ensures (net_of t) c.every_topology_is_a_network.ensures.network in
    ran_whole t p (knowledge_of t knows) (pass.count p (knowledge_of t knows)) (λ j k. pass.within_only p (knowledge_of t knows) j k)
    (λ n m k. c.a_run_goes_to_what_is_safe.ensures (net_of t) c.every_topology_is_a_network.ensures.network p (knowledge_of t knows) n m k)

pub advance-requires-clause-before : goal.advance-requires-clause-before
advance-requires-clause-before c =
    let t = c.args.topology.now in
    let p = c.requires.0 in
    let safe = c.requires.3 in
    let most = c.safe_time_is_the_least.ensures.stop (net_of t) p (knowledge_of t c.requires.1) in
    let e = stop_is t in
    omega (arith, safe, most, e)

pub advance-requires-clause-represents : goal.advance-requires-clause-represents
advance-requires-clause-represents c =
    let t = c.args.topology.now in
    let book = c.loop-done.invariant.book c.requires.0 c.requires.1 c.requires.2 c.requires.3 in
    (Some c.requires.0, from_scratch (net_of t) c.requires.0 (knowledge_of t c.requires.1) c.loop-done.part.steps, book.represents)

pub returns-in-Err-clause-book : goal.returns-in-Err-clause-book
returns-in-Err-clause-book c = λ p knows book safe.
    let t = c.args.topology.now in
    let now = c.loop-done.invariant.book p knows book safe in
    let steps = c.in-Err.ensures.steps in
    still_book t p knows c.loop-done.part c.advance.new.self now (λ s h. (c.in-Err.ensures.advance (Some p) s h).0) (omega (arith, steps)) c.in-Err.ensures.keeping

pub returns-in-Err-clause-run : goal.returns-in-Err-clause-run
returns-in-Err-clause-run c = λ p knows book safe.
    let t = c.args.topology.now in
    let net = net_of t in
    let K = knowledge_of t knows in
    let now = c.loop-done.invariant.book p knows book safe in
    let steps = c.in-Err.ensures.steps in
    let before = c.loop-done.invariant.steps in
    let total : c.advance.new.self.steps ≡ c.args.part.now.steps + c.loop-done.done = omega (arith, steps, before) in
    let same : c.loop-done.part.steps ≡ c.advance.new.self.steps = omega (arith, steps) in
    let due : pends_before c.args.safe (from_scratch net p K c.loop-done.part.steps) ≡ true
    = (c.in-Err.ensures.advance (Some p) (from_scratch net p K c.loop-done.part.steps) now.represents).1 in (
      total,
      ran (goal.at.returns-in-Err-clause-run c).After-a_run_goes_to_what_is_safe p knows c.args.part.now.steps c.advance.new.self.steps c.loop-done.done total (subst (IsWithin net p K) same now.within),
      c.loop-done-test.true,
      subst (λ n. pends_before (safe_time net p K) (from_scratch net p K n) ≡ true) same
          (subst (λ b. pends_before b (from_scratch net p K c.loop-done.part.steps) ≡ true) safe due),
    )

pub loop-done-preserved : goal.loop-done-preserved
loop-done-preserved c =
    let t = c.args.topology.now in
    let net = net_of t in
    let steps = c.in-Ok-true.ensures.steps in
    let before = c.loop-done.invariant.steps in
    let low = c.loop-done-test.true in
    let one : c.advance.new.self.steps ≡ c.loop-done.part.steps + 1 = c.in-Ok-true.ensures.steps ∙ ap (λ b. c.loop-done.part.steps + events_counted (Ok b)) c.in-Ok-true.field-0-test in
    record {
      steps = omega (arith, one, before);
      keeping = c.in-Ok-true.ensures.keeping ∙ c.loop-done.invariant.keeping;
      most = omega (arith, low);
      book = λ p knows book safe.
          let now = c.loop-done.invariant.book p knows book safe in
          let s = from_scratch net p (knowledge_of t knows) c.loop-done.part.steps in
          let done = subst (λ b. Advanced pending_in t (record { part = Some p; state = s; until = c.args.safe }) c.loop-done.part c.advance.new.self (Ok b)) c.in-Ok-true.field-0-test (c.in-Ok-true.ensures.advance (Some p) s now.represents) in
          one_more t p knows c.loop-done.part c.advance.new.self now (subst (λ b. pends_before b s ≡ true) safe done.1) done.0 one c.in-Ok-true.ensures.keeping;
    }

pub returns-then-is_left-clause-run : goal.returns-then-is_left-clause-run
returns-then-is_left-clause-run c = λ p knows book safe.
    let t = c.args.topology.now in
    let now = c.loop-done.invariant.book p knows book safe in
    let most = c.loop-done.invariant.most in
    let high = c.loop-done-test.false in
    let all : c.loop-done.done ≡ c.args.limit = omega (arith, most, high) in
    let s = from_scratch (net_of t) p (knowledge_of t knows) c.loop-done.part.steps in
    let left : pends_before c.args.safe s ≡ true = sym (c.is_left.ensures t p s now.represents) ∙ c.if-is_left.true in (
      c.loop-done.invariant.steps,
      ran (goal.at.returns-then-is_left-clause-run c).After-a_run_goes_to_what_is_safe p knows c.args.part.now.steps c.loop-done.part.steps c.args.limit (c.loop-done.invariant.steps ∙ ap (λ n. c.args.part.now.steps + n) all) now.within,
      all,
      subst (λ b. pends_before b s ≡ true) safe left,
    )
