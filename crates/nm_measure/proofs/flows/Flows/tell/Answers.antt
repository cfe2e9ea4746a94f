use Rattle.std.proofs.Common.{rules, ◌≡◌, ◌&&◌, false, ap, ◌∙◌, arith}
use Rattle.nm_measure.specs.Counted.{is_reply, is_sent, is_told}
use Rattle.nm_measure.proofs.Flowing.{flows_under, on_ok, one_not, own_none}
use Rattle.nm_measure.proofs.flows.Flows.tell.Goals as goal

pub returns-in-Reply-clause-flows : goal.returns-in-Reply-clause-flows
returns-in-Reply-clause-flows c =
    let none : is_sent c.args.tag.now.role ≡ false = search rules in
    on_ok c.answer.result _ _ (λ answers ends under e same is time octets reason place was.
    answers ends under e same time reason place
    (flows_under ends _ under c.args.self.now.counts.items c.args.self.now.times.items (λ j. let z = one_not j c.args.tag.now (own_none j c.args.tag.now none) in omega (arith, z)) was)) c.answer.ensures.flows

pub returns-in-Sent-clause-flows : goal.returns-in-Sent-clause-flows
returns-in-Sent-clause-flows c =
    let not : is_reply c.args.tag.now.role ≡ false = search rules in
    on_ok c.deliver.result _ _ (λ delivers ends under e same is time octets reason place was.
    delivers ends under e same is time octets (ap (λ tag. is_reply tag.role && is_told e.reason) same ∙ ap (λ b. b && is_told e.reason) not) was) c.deliver.ensures.flows
