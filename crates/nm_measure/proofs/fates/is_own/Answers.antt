use Rattle.std.proofs.Common.{◌≡◌, ◌<◌, ◌≤◌, ◌==◌, ◌&&◌, Some, None, length, slice_get, ltb-false, ltb-true, sym, ap, ◌∙◌}
use Rattle.std.specs.List.{list_any}
use Rattle.std.proofs.lemmas.Option.{slice_get-get_or, slice_get_past}
use Rattle.nm_topology.specs.PartValues.{IfaceValue}
use Rattle.nm_measure.proofs.Sources.{own_absent, own_there}
use Rattle.nm_measure.proofs.fates.is_own.Goals as goal

pub returns-in-Some : goal.returns-in-Some
returns-in-Some c =
    let t = c.args.topology.now in
    let nodes = c.nodes.result.now in
    let at = c.index.result in
    let x = c.in-Some.field-0.now in
    let there : at < length nodes = ltb-true at (length nodes) (sym c.in-Some.ensures.lookup.0) in
    let found : slice_get t.nodes c.args.node ≡ Some x =
    (λ i. slice_get (sym c.nodes.ensures i) (sym c.index.ensures i)) ∙ slice_get-get_or nodes at x there ∙ ap Some (sym c.in-Some.ensures.lookup.1) in
    c.has_address.ensures ∙ ap (list_any (λ (i : IfaceValue). (i.node == c.args.node) && (i.address == c.args.address))) c.ifaces.ensures
    ∙ own_there t c.args.node c.args.address x found

pub returns-in-None : goal.returns-in-None
returns-in-None c =
    let t = c.args.topology.now in
    let nodes = c.nodes.result.now in
    let at = c.index.result in
    let past : length nodes ≤ at = ltb-false at (length nodes) (sym c.in-None.ensures.lookup.0) in
    let none : slice_get t.nodes c.args.node ≡ None = (λ i. slice_get (sym c.nodes.ensures i) (sym c.index.ensures i)) ∙ slice_get_past nodes at past in
    own_absent t c.args.node c.args.address none
