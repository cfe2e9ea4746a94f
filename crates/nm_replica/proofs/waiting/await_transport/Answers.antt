use Rattle.std.proofs.Common.{◌≡◌, Ok, rules, sym, subst, ◌∙◌}
use Rattle.nm_replica.specs.Polls.{failed_waits}
use Rattle.nm_replica.proofs.Hands.{asks_between}
use Rattle.nm_replica.proofs.waiting.await_transport.Goals as goal

pub returns-clause-failed : goal.returns-clause-failed
returns-clause-failed g c = (
  c.wait_once-waited.result,
  sym c.has_run_out-ran_out.ensures,
  subst (λ n. failed_waits c.args.serving.now.failed_waits c.wait_once-waited.result ≡ Ok n) (sym c.in_ok-bear_shortage.ensures.failed) (sym c.failed_waits.ensures.value ∙ c.in_ok-serving.was),
)

pub returns-clause-short : goal.returns-clause-short
returns-clause-short g c = (_, c.in_ok-bear_shortage.ensures.lasted)

pub returns-clause-asked : goal.returns-clause-asked
returns-clause-asked g c =
    let did = c.in_ok-accept_all.ensures.asked in
    (did.0, asks_between did.0 _ _ _ _ _ did.2 (search rules) (search rules))
