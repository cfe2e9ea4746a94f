-- What an event leaves as it is, until its transmission starts.
use Rattle.std.proofs.Common.{◌≡◌}
use Rattle.nm_sim.specs.Part.{PartValue}

pub record Kept {L : Type 0} (p q : PartValue L) : Type 0 where
  pub is_part : q.part ≡ p.part
  pub sent : q.timeline.sent ≡ p.timeline.sent
  pub outgoing : q.outgoing ≡ p.outgoing
  pub steps : q.steps ≡ p.steps
  pub wanted : q.devices.wanted ≡ p.devices.wanted
  pub keeping : q.records.keeping ≡ p.records.keeping
