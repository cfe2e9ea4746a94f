use Rattle.std.proofs.Common.{◌≡◌, ℕ, ◌+◌, ◌-◌, ◌++◌, [], ◌∷◌, Vec, Global, length, filter, sym, ap}
use Rattle.std.proofs.Common.{◌∙◌}
use Rattle.nm_topology.specs.Build.{is_receiver, numbers_from}
use Rattle.nm_topology.proofs.Uses.{passes-more, fails-more}
use Rattle.nm_topology.proofs.build.wiring.receivers.Goals as goal
use Rattle.nm_topology.proofs.build.wiring.receivers.Goals.{then-is_receiver+in_ok-push}
use Rattle.nm_topology.proofs.build.wiring.receivers.Goals.{else-is_receiver}

pub loop-number-preserved : goal.loop-number-preserved
loop-number-preserved c =
    let n = length c.args.far.now in let i = c.loop-number.number in let p = is_receiver c.args.parts.now c.args.owners.now c.args.far.now in
    let front = c.loop-number.receivers.items in
    let answer : c.is_receiver.result ≡ p i = c.is_receiver.ensures ∙ ap p c.new-iface.ensures in
    elim c.if-is_receiver.branch [
      | then-is_receiver+in_ok-push w ↦
          ap (λ (v : Vec ℕ Global). v.items ++ filter p (numbers_from (i + 1) (n - (i + 1)))) w.receivers-is
          ∙ ap (λ items. items ++ filter p (numbers_from (i + 1) (n - (i + 1)))) (w.in_ok-push.ensures.items ∙ ap (λ j. front ++ j ∷ []) c.new-iface.ensures)
          ∙ passes-more p front i n c.loop-number-test.true (sym answer ∙ w.if-is_receiver.true)
          ∙ c.loop-number.invariant
      | else-is_receiver w ↦
          ap (λ (v : Vec ℕ Global). v.items ++ filter p (numbers_from (i + 1) (n - (i + 1)))) w.receivers-is
          ∙ fails-more p front i n c.loop-number-test.true (sym answer ∙ w.if-is_receiver.false)
          ∙ c.loop-number.invariant
    ]
