use Rattle.std.proofs.Common.{◌≡◌, ℕ, List, refl}
use Rattle.nm_base.specs.declared.event.Origin.{Origin}
use Rattle.nm_base.specs.declared.event.Origin.TheVariants.{Arrival, Source}
use Rattle.nm_topology.specs.TopologyValue.{TopologyValue}
use Rattle.nm_forward.specs.State.{NodeStateValue, table_of}
use Rattle.nm_forward.specs.Reaction.{reaction}
use Rattle.nm_traffic.specs.Source.{source_at, source_of}
use Rattle.nm_sim.specs.Network.{net_of}
use Rattle.nm_sim.proofs.network.the_digest_is_no_part_of_the_network.Goals as goal

same_reaction : (t : TopologyValue) (digest : List ℕ) (v : ℕ) (n : NodeStateValue) (o : Origin) (x : List ℕ)
    → reaction (record t { digest = digest }) v n o x ≡ reaction t v n o x
unfolding reaction table_of
same_reaction t digest v n (Arrival i) x = refl
same_reaction t digest v n (Source j) x = refl

pub returns : goal.returns
unfolding net_of table_of source_at source_of
returns c = λ t digest k. record (net_of t) { react = λ v n o x. same_reaction t digest v n o x k }
