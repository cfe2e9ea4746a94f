use Rattle.std.proofs.Common.{◌≡◌, ℕ, List, [], map, get_or, zero-add, All, ◌+◌, ◌-◌, ◌<◌, Some}
use Rattle.std.proofs.Common.{◌∷◌, length, drop, rules, arith, subst, sym, ap, ◌∙◌, length-set}
use Rattle.std.specs.Prelude.{slice_get}
use Rattle.std.proofs.lemmas.Grind.{common_steps}
use Rattle.std.proofs.lemmas.List.{drop_more}
use Rattle.nm_topology.specs.declared.parts.Far.{Far}
use Rattle.nm_topology.specs.declared.parts.Link.{Link}
use Rattle.nm_topology.specs.Build.{far_by_links, numbers_from}
use Rattle.nm_topology.proofs.Wires.{joined-get, All-joined}
use Rattle.nm_topology.proofs.Uses.{map-numbers}
use Rattle.std.proofs.lemmas.Option.{get_or_from_slice_get}
use Rattle.nm_topology.proofs.build.wiring.far_ends.Goals as goal

pub loop-next-preserved : goal.loop-next-preserved
loop-next-preserved c =
    let l = c.index-links-next.result in
    let links = c.args.links.now in
    let k = c.loop-next.next - 1 in
    let far = c.loop-next.far.items in
    let lt : k < length links = omega arith in
    let rest : drop k links ≡ l ∷ drop (k + 1) links = drop_more links k l lt ∙ ap (λ (x : Link). x ∷ drop (k + 1) links) (sym c.index-links-next.is) in
    let after : k + 1 ≡ c.loop-next.next = omega arith in
    let a : l.a < length far = search (rules, common_steps) in
    let b : l.b < length far = search (rules, common_steps) in
    record {
      within = omega arith;
      len = ap length c.join.ensures ∙ length-set _ l.a _ ∙ length-set far l.b _ ∙ c.loop-next.invariant.len;
      peers = subst (λ (fs : List Far). All (λ f. f.iface < c.args.count) fs) (sym c.join.ensures)
          (All-joined c.args.count far l (subst (λ m. l.a < m) c.loop-next.invariant.len a) (subst (λ m. l.b < m) c.loop-next.invariant.len b) c.loop-next.invariant.peers);
      ends = λ i h. ap (λ v. slice_get v i) c.join.ensures
          ∙ joined-get far l (drop (k + 1) links) i a b (c.loop-next.invariant.ends i h ∙ ap (λ m. Some (far_by_links i (drop m links))) (sym after))
          ∙ ap (λ ls. Some (far_by_links i ls)) (sym rest);
    }

pub returns-clause-list : goal.returns-clause-list
returns-clause-list c =
    let far = c.loop-next.far.items in
    let links = c.args.links.now in
    let over : c.loop-next.next ≡ 0 = omega arith in
    let each : (i : ℕ) → i < length far → get_or far i (far_by_links 0 []) ≡ far_by_links (0 + i) links = λ i h.
    get_or_from_slice_get far i (far_by_links i links) (far_by_links 0 [])
    (c.loop-next.invariant.ends i (subst (λ m. i < m) c.loop-next.invariant.len h) ∙ ap (λ m. Some (far_by_links i (drop m links))) over)
    ∙ ap (λ j. far_by_links j links) (sym (zero-add i))
    in
    map-numbers (far_by_links 0 []) (λ i. far_by_links i links) far 0 each ∙ ap (λ m. map (λ i. far_by_links i links) (numbers_from 0 m)) c.loop-next.invariant.len
