use Rattle.nm_offline.specs.Input.{inputs_seen}
use Rattle.nm_offline.proofs.Endings.{ends_word}
use Rattle.nm_offline.proofs.certify.say_certify.Goals as goal

pub returns : goal.returns
returns g c =
    ends_word g.O.Sink.seen (inputs_seen g.I.Inputs.seen c.args.inputs.now) (inputs_seen g.I.Inputs.seen c.certify_said.new.inputs)
    c.args.out c.end.result.1 (λ o. o.text.items) (λ o. o.status) _ _ c.certify_said.result c.end.result.0
    c.certify_said.ensures.said c.certify_said.ensures.fault c.end.ensures.written c.end.ensures.unsaid
