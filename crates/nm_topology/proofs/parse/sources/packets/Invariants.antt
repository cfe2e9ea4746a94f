use Rattle.std.proofs.Common.{◌≡◌, drop}
use Rattle.toml.specs.View.{items_view}
use Rattle.nm_topology.specs.Parse.Sources.{packets_from}
use Rattle.nm_topology.proofs.Members.{with_front}
use Rattle.nm_topology.proofs.parse.sources.packets.Given as goal

abbrev pub invariant-loop-item : goal.invariant-loop-item
invariant-loop-item l =
    packets_from l.mtu 0 (items_view l.items) ≡ with_front l.packets.items (packets_from l.mtu l.least (items_view (drop l.item-index l.items)))
