use Rattle.std.proofs.Common.{sym, subst}
use Rattle.nm_forward.specs.Reacting.{IsSent, PassesUnwanted}
use Rattle.std.specs.Option.{IfSome}
use Rattle.nm_sim.specs.Effects.{IsCopied, Sends}
use Rattle.nm_sim.proofs.devices.Devices.offer.Goals as goal

pub returns-in-Send : goal.returns-in-Send
returns-in-Send c = record {
  sends = λ states sent s is.
      let it = subst (λ r. IsSent c.args.self.now.ports r sent) c.in-Send.is is in
      subst (λ z. Sends c.args.topology.now states c.args.time z c.offer_packet.new.self c.offer_packet.result) (sym it) (c.offer_packet.ensures.sends states s);
  copied = c.offer_packet.ensures.copied;
  wanted = c.offer_packet.ensures.wanted;
}

pub offer_alone-requires-clause-unwanted : goal.offer_alone-requires-clause-unwanted
offer_alone-requires-clause-unwanted c = subst (PassesUnwanted c.args.self.now.wanted) c.in-Pass.is c.requires.passes

pub returns-in-Pass : goal.returns-in-Pass
returns-in-Pass c = record {
  sends = λ states sent s is.
      let it = subst (λ r. IsSent c.args.self.now.ports r sent) c.in-Pass.is is in
      subst (λ z. Sends c.args.topology.now states c.args.time z c.offer_alone.new.self c.offer_alone.result) (sym it) (c.offer_alone.ensures.sends states s);
  copied = c.offer_alone.ensures.copied;
  wanted = c.offer_alone.ensures.wanted;
}

pub returns-in-Refused : goal.returns-in-Refused
returns-in-Refused c = record {
  sends = λ states sent s is.
      let it = subst (λ r. IsSent c.args.self.now.ports r sent) c.in-Refused.is is in
      subst (λ z. Sends c.args.topology.now states c.args.time z c.drop_at.new.self c.drop_at.result) (sym it.1) (c.drop_at.ensures.drops states c.args.time it.0 s it.2);
  copied = subst (λ o. IfSome o (IsCopied c.args.self.now.wanted)) (sym c.drop_at.ensures.none) tt;
  wanted = c.drop_at.ensures.wanted;
}
