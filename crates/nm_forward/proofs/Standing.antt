-- All counters stand at their numbers.
use Rattle.std.proofs.Common.{◌≡◌, Some, refl}
use Rattle.std.specs.Prelude.{slice_get}
use Rattle.nm_forward.specs.declared.counter.Counter.{Counter}
use Rattle.nm_forward.specs.declared.counter.Counter.TheVariants.{Header, BadDest, NotMine, NoNet, Ttl, Forwarded, Fragment, IcmpBad, Echo, Icmp, UdpBad, Udp, Port, Proto, Quiet, ToSelf, NoRoute, Originated, Raw}
use Rattle.nm_forward.specs.declared.counter.TheConstants.Counter.{ALL}
use Rattle.nm_forward.specs.Counter.{counter_number}

pub stands : (c : Counter) → slice_get ALL (counter_number c) ≡ Some c
stands Header = refl
stands BadDest = refl
stands NotMine = refl
stands NoNet = refl
stands Ttl = refl
stands Forwarded = refl
stands Fragment = refl
stands IcmpBad = refl
stands Echo = refl
stands Icmp = refl
stands UdpBad = refl
stands Udp = refl
stands Port = refl
stands Proto = refl
stands Quiet = refl
stands ToSelf = refl
stands NoRoute = refl
stands Originated = refl
stands Raw = refl
