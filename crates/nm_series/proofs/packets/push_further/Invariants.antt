use Rattle.std.proofs.Common.{◌≡◌, ◌++◌, take}
use Rattle.nm_series.specs.Packets.{further_words}
use Rattle.nm_series.proofs.packets.push_further.Given as goal

abbrev pub invariant-loop-hop : goal.invariant-loop-hop
invariant-loop-hop l = l.text.items ≡ l.initial.text.items ++ further_words l.topology (take l.hop-index l.hops)
