use Rattle.std.proofs.Common.{◌≡◌, not, ◌==◌, [], length, get_or, refl, sym, ap, ◌∙◌}
use Rattle.std.proofs.lemmas.Option.{slice_get_read, get_or_from_slice_get}
use Rattle.nm_topology.specs.declared.parts.Far.{Far}
use Rattle.nm_topology.specs.Build.{far_by_links, part_of, far_end_at}
use Rattle.nm_topology.proofs.build.wiring.is_receiver.Goals as goal

pub returns : goal.returns
returns c =
    let far = c.args.far.now in let i = c.args.iface in let f = c.index-far-index.result in
    let parts = c.args.parts.now in let owners = c.args.owners.now in
    let is : f ≡ get_or far i f = c.index-far-index.is ∙ ap (λ j. get_or far j f) c.index.ensures in
    let same : far_end_at far i ≡ f.iface =
    ap (λ (g : Far). g.iface) (get_or_from_slice_get far i f (far_by_links i []) (slice_get_read far (length far) i f refl c.requires.iface is))
    in
    let second : c.part_of-2.result ≡ part_of parts owners (far_end_at far i) =
    c.part_of-2.ensures ∙ ap (λ (g : Far). part_of parts owners g.iface) (sym c.index-far-index.is) ∙ ap (part_of parts owners) (sym same)
    in
    c.ne.ensures ∙ ap (λ a. not (a == c.part_of-2.result)) c.part_of.ensures ∙ ap (λ b. not (part_of parts owners i == b)) second
