use Rattle.std.proofs.Common.{◌≡◌, ◌≤◌, length, map, Ok, refl, sym, ap, ◌∙◌, subst}
use Rattle.nm_base.specs.declared.limits.TheConstants.{MAX_CHANNELS, MAX_PARTITIONS}
use Rattle.nm_topology.specs.Accepted.{IsAccepted}
use Rattle.nm_topology.specs.Build.{partition_count}
use Rattle.nm_topology.specs.Topology.{network_of}
use Rattle.nm_topology.specs.Parse.DocumentValue.{DocumentValue}
use Rattle.nm_topology.specs.Parse.Ranges.{IsInRange}
use Rattle.nm_topology.specs.ResolvedValue.{ResolvedValue}
use Rattle.nm_topology.specs.TopologyValue.{TopologyValue}
use Rattle.nm_topology.proofs.Whole.{IsRead, IsMade, read_along, made, sound}
use Rattle.nm_topology.proofs.Whole.{network-read}
use Rattle.nm_topology.proofs.topology.network.Goals as goal
use Rattle.nm_topology.proofs.topology.network.Goals.{In_ok-nodes}

-- the document, its numbers, and what the code puts together of them
abbrev document : In_ok-nodes → DocumentValue
document c =
    let I = c.document.inside in
    record {
      stop = I.stop;
      mtu = I.mtu;
      nodes = I.nodes.items;
      ifaces = I.ifaces.items;
      links = I.links.items;
      routes = I.routes.items;
      sources = I.sources.items;
    }

abbrev numbers : In_ok-nodes → ResolvedValue
numbers c = c.in_ok-resolved.resolved

abbrev whole : In_ok-nodes → TopologyValue
whole c = record {
  stop = c.document.inside.stop;
  mtu = c.document.inside.mtu;
  nodes = c.in_ok-nodes.field-0.nodes.items;
  ifaces = c.in_ok-nodes.field-0.ifaces.items;
  links = c.resolved.inside.links.items;
  sources = c.resolved.inside.sources.items;
  receivers = c.in_ok-nodes.field-0.receivers.items;
  partitions = c.partition_count-partitions.result;
  digest = c.args.digest;
}

is_read : (c : In_ok-nodes) → IsRead (document c).nodes (document c).ifaces (document c).links
    (document c).routes (document c).sources (numbers c)
is_read c =
    let a = c.in_ok-resolved.ensures in
    read_along c.deref.ensures.value c.deref-2.ensures.value c.deref-3.ensures.value c.deref-4.ensures.value
    (record { numbered = a.numbered; value = a.value })

count_is : (c : In_ok-nodes)
    → c.partition_count-partitions.result ≡ partition_count (map (λ n. n.partition) (document c).nodes)
count_is c =
    c.partition_count-partitions.ensures.value
    ∙ ap (λ ns. partition_count (map (λ n. n.partition) ns)) c.deref-5.ensures.value

is_made : (c : In_ok-nodes) → IsMade c.args.digest (document c) (numbers c) (whole c)
is_made c = record {
  stop = refl;
  mtu = refl;
  nodes = c.in_ok-nodes.ensures.nodes;
  ifaces = c.in_ok-nodes.ensures.ifaces;
  links = ap (λ x. x.links) c.resolved.view_is;
  sources = ap (λ x. x.sources) c.resolved.view_is;
  receivers = c.in_ok-nodes.ensures.receivers;
  partitions = count_is c;
  same_digest = refl;
}

pub invariant_of-result : goal.invariant_of-result
invariant_of-result c =
    let s = (goal.at.invariant_of-result c).In_ok-nodes in
    let w = c.in_ok-nodes.ensures in
    subst (λ x. IsAccepted x) (sym (made (is_made s)))
    (sound (document s) (numbers s) c.args.digest (is_read s) w.tested
    (subst (λ x. IsInRange x) (sym c.document.view_is) c.requires) c.document.invariant
    (subst (λ rs. length rs ≤ MAX_CHANNELS) w.receivers w.few)
    (subst (λ m. m ≤ MAX_PARTITIONS) (count_is s) c.partition_count-partitions.ensures.within))

pub returns : goal.returns
returns c =
    let s = (goal.at.returns c).In_ok-nodes in
    subst (λ (x : DocumentValue). network_of c.args.digest x ≡ Ok (whole s)) c.document.view_is
    (network-read (document s) (numbers s) c.args.digest (is_read s) c.in_ok-nodes.ensures.tested
    ∙ ap Ok (sym (made (is_made s))))
