use Rattle.std.proofs.Common.{◌≡◌, ◌+◌, ◌<◌, min, [], ◌∷◌, length, rules, get_or, drop, add-zero}
use Rattle.std.proofs.Common.{sym, ap, ◌∙◌, length-set}
use Rattle.std.proofs.lemmas.Grind.{common_steps}
use Rattle.std.proofs.lemmas.List.{drop_all, drop_more}
use Rattle.nm_topology.specs.declared.parts.Link.{Link}
use Rattle.nm_topology.specs.Validate.{bump, uses}
use Rattle.nm_topology.proofs.Uses.{uses-more}
use Rattle.nm_topology.proofs.validate.checks.uses_of.Goals as goal

pub loop-link-preserved : goal.loop-link-preserved
loop-link-preserved c =
    let l = c.link-item.result in
    let links = c.args.links.now in
    let k = c.loop-link.link-index in
    let u = c.loop-link.uses.items in
    let rest : drop k links ≡ l ∷ drop (k + 1) links = drop_more links k l c.loop-link-test.true ∙ ap (λ (x : Link). x ∷ drop (k + 1) links) (sym c.link-item.is) in
    let bumped : c.count_use-in-loop-link.new.uses.items ≡ bump (bump u l.a) l.b = c.count_use-in-loop-link.ensures ∙ ap (λ v. bump v l.b) c.count_use.ensures in
    let a : l.a < length u = search (rules, common_steps) in
    let b : l.b < length u = search (rules, common_steps) in
    record {
      len = ap length bumped ∙ length-set (bump u l.a) l.b _ ∙ length-set u l.a _ ∙ c.loop-link.invariant.len;
      counts = λ i h. ap (λ v. min 255 (get_or v i 0 + uses i (drop (k + 1) links))) bumped ∙ uses-more u l (drop (k + 1) links) i a b ∙ ap (λ ls. min 255 (get_or u i 0 + uses i ls)) (sym rest) ∙ c.loop-link.invariant.counts i h;
    }

pub returns-clause-value : goal.returns-clause-value
returns-clause-value c = λ i h.
    let over : drop c.loop-link.link-index c.args.links.now ≡ [] = drop_all c.loop-link.link-index c.args.links.now c.loop-link-test.false in
    ap (min 255) (sym (add-zero (get_or c.loop-link.uses.items i 0))) ∙ ap (λ ls. min 255 (get_or c.loop-link.uses.items i 0 + uses i ls)) (sym over) ∙ c.loop-link.invariant.counts i h
