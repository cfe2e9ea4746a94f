-- The counters of a node.
use Rattle.std.specs.Prelude.{ℕ, ◌+◌, List, slice_index, slice_set, replicate, codes}
use Rattle.nm_base.specs.Count.{saturated}
use Rattle.nm_forward.specs.declared.counter.Counter.{Counter}
use Rattle.nm_forward.specs.declared.counter.Counter.TheVariants.{Header, BadDest, NotMine, NoNet, Ttl, Forwarded, Fragment, IcmpBad, Echo, Icmp, UdpBad, Udp, Port, Proto, Quiet, ToSelf, NoRoute, Originated, Raw}

-- the place of a counter among all of them
abbrev pub counter_number : Counter → ℕ
counter_number Header = 0
counter_number BadDest = 1
counter_number NotMine = 2
counter_number NoNet = 3
counter_number Ttl = 4
counter_number Forwarded = 5
counter_number Fragment = 6
counter_number IcmpBad = 7
counter_number Echo = 8
counter_number Icmp = 9
counter_number UdpBad = 10
counter_number Udp = 11
counter_number Port = 12
counter_number Proto = 13
counter_number Quiet = 14
counter_number ToSelf = 15
counter_number NoRoute = 16
counter_number Originated = 17
counter_number Raw = 18

-- the name by which a counter is printed
abbrev pub counter_name : Counter → List ℕ
counter_name Header = codes "header"
counter_name BadDest = codes "baddest"
counter_name NotMine = codes "notmine"
counter_name NoNet = codes "nonet"
counter_name Ttl = codes "ttl"
counter_name Forwarded = codes "forwarded"
counter_name Fragment = codes "fragment"
counter_name IcmpBad = codes "icmpbad"
counter_name Echo = codes "echo"
counter_name Icmp = codes "icmp"
counter_name UdpBad = codes "udpbad"
counter_name Udp = codes "udp"
counter_name Port = codes "port"
counter_name Proto = codes "proto"
counter_name Quiet = codes "quiet"
counter_name ToSelf = codes "self"
counter_name NoRoute = codes "noroute"
counter_name Originated = codes "originated"
counter_name Raw = codes "raw"

-- nothing was counted
abbrev pub no_counts : List ℕ
no_counts = replicate 19 0

-- the counts with one of them raised by one; a count stops at 2^64 - 1
unfoldable pub raised : Counter → List ℕ → List ℕ
raised c counts = let k : ℕ = counter_number c in
    slice_set counts k (saturated (slice_index counts k + 1))
