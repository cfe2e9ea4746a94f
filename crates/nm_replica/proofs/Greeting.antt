-- Sessions after a break.
use Rattle.std.proofs.Common.{◌≡◌, refl, sym}
use Rattle.std.proofs.lemmas.Simd.{map-map}
use Rattle.nm_frames.specs.Session.{SessionValue, broken, new_incoming, new_outgoing}
use Rattle.nm_replica.specs.Sessions.{IsAtGreeting}

pub greets_again : (s t : SessionValue) → t ≡ broken s → IsAtGreeting t
greets_again s t is = rw is (
  refl,
  refl,
  refl,
  refl,
  sym (map-map (λ i. new_incoming i.channel) (λ i. new_incoming i.channel) s.incoming),
  sym (map-map (λ o. new_outgoing o.channel) (λ o. new_outgoing o.channel) s.outgoing),
)
