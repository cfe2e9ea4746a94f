use Rattle.std.proofs.Common.{◌≡◌, ◌&&◌, not, ltb, true, false, refl, ap, ap₂, rules}
use Rattle.std.proofs.lemmas.Bool.{and_left, and_right}
use Rattle.nm_topology.specs.Topology.{receiving_iface}
use Rattle.nm_model.specs.Accept.{last_from}
use Rattle.nm_model.specs.Certificate.{ClockFault, PrefixFault, PromiseFault}
use Rattle.nm_rounds.proofs.CertifySteps.{clock_shown, prefix_shown, promise_tested}
use Rattle.nm_rounds.proofs.certify.check_channel.Goals.{else-lt-via-then-lt+else-not-is_clock_of_last, else-lt-via-else-lt}
use Rattle.nm_rounds.proofs.certify.check_channel.Goals as goal

pub returns-in-Some : goal.returns-in-Some
returns-in-Some c = λ t.
    let i = receiving_iface t c.args.channel in
    let fault = PrefixFault i c.in-Some.number in
    (fault, refl, prefix_shown i c.args.know.now c.args.sent.now c.args.promise fault (c.in-Some.ensures i))

pub returns-then-is_before_clock : goal.returns-then-is_before_clock
returns-then-is_before_clock c = λ t.
    (ClockFault (receiving_iface t c.args.channel), refl, clock_shown (receiving_iface t c.args.channel) c.args.know.now c.args.sent.now c.args.promise (c.in_default.ensures (receiving_iface t c.args.channel)) (c.if-is_before_clock.ensures (receiving_iface t c.args.channel)))

pub returns-then-not-is_clock_of_last : goal.returns-then-not-is_clock_of_last
returns-then-not-is_clock_of_last c = λ t.
    let i = receiving_iface t c.args.channel in
    let k = c.args.know.now in
    let clock = c.clock.ensures.value in
    let past : ltb c.args.promise k.clock ≡ true = search rules in
    let last : last_from k.clock k.list ≡ false = search rules in
    (PromiseFault i, refl, promise_tested i k c.args.sent.now c.args.promise (c.in_default.ensures i) true (c.if-is_before_clock.ensures i) (ap₂ (λ a b. a && not b) past last))

pub returns : goal.returns
returns c = λ t.
    let i = receiving_iface t c.args.channel in
    let k = c.args.know.now in
    let test : (ltb c.args.promise k.clock && not (last_from k.clock k.list)) ≡ false = elim c.else-lt.branch [
      | else-lt-via-then-lt+else-not-is_clock_of_last w ↦ let last : last_from k.clock k.list ≡ true = search rules in and_right (ltb c.args.promise k.clock) (not (last_from k.clock k.list)) (ap not last)
      | else-lt-via-else-lt w ↦ let clock = c.clock.ensures.value in let past : ltb c.args.promise k.clock ≡ false = search rules in and_left (ltb c.args.promise k.clock) (not (last_from k.clock k.list)) past
    ] in
    promise_tested i k c.args.sent.now c.args.promise (c.in_default.ensures i) false (c.if-is_before_clock.ensures i) test
