-- How the directions of links were used.
use Rattle.std.specs.Prelude.{◌≡◌, ℕ}
use Rattle.nm_model.specs.Run.{one_list}
use Rattle.nm_topology.specs.TopologyValue.{TopologyValue}
use Rattle.nm_topology.specs.declared.parts.Link.{Link}
use Rattle.nm_sim.specs.Network.{net_of}
use Rattle.nm_measure.specs.Drops.{drops_of}
use Rattle.nm_sim.specs.Traffic.{iface_traffic_of}
use Rattle.nm_measure.specs.Busy.{busy_before, busy_share, thousandths_of}
use Rattle.nm_report.specs.declared.picture.Load.{Load}
use Rattle.nm_report.specs.declared.picture.Way.{Way}
use Rattle.nm_report.specs.declared.picture.Way.TheVariants.{Back, There}

-- the interface that transmits
abbrev pub from_end : Way → Link → ℕ
from_end There link = link.a
from_end Back link = link.b

-- what interface i did in so many events of the one event list: shares are in thousandths, of the
-- time before `stop` and of that from its first packet to its last
pub record IsLoad (t : TopologyValue) (events i : ℕ) (x : Load) : Type 0 where
  pub iface : x.iface ≡ i
  pub packets : x.packets
      ≡ (iface_traffic_of i (one_list (net_of t) events).records).went.packets
  pub dropped : x.dropped ≡ drops_of i (one_list (net_of t) events)
  pub busy : x.busy
      ≡ thousandths_of (busy_before (net_of t) i t.stop (one_list (net_of t) events).records) t.stop
  pub share : x.share ≡ busy_share (net_of t) i (one_list (net_of t) events).records
