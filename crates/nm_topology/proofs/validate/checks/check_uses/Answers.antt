use Rattle.std.proofs.Common.{◌≡◌, ℕ, ◌<◌, min, Bool, List, ◌==◌, length, get_or, subst, sym, ap}
use Rattle.std.proofs.Common.{◌∙◌}
use Rattle.std.specs.List.{list_all}
use Rattle.nm_topology.specs.declared.fault.Refusal.TheVariants.{IfaceUse}
use Rattle.nm_topology.specs.declared.parts.Link.{Link}
use Rattle.nm_topology.specs.Build.{numbers_from}
use Rattle.nm_topology.specs.Fault.{demand}
use Rattle.nm_topology.specs.Validate.{are_used_once, uses}
use Rattle.nm_topology.proofs.Uses.{ones}
use Rattle.nm_topology.proofs.validate.checks.check_uses.Goals as goal

answer : (n : ℕ) (links : List Link) (u v : List ℕ) (b r : Bool) → length u ≡ n → ((i : ℕ) → i < n → min 255 (get_or u i 0) ≡ min 255 (uses i links)) → v ≡ u → r ≡ list_all (λ x. x == 1) v → r ≡ b → demand (are_used_once n links) IfaceUse ≡ demand b IfaceUse
answer n links u v b r len counts same all is =
    let all_ones = ones u (λ i. uses i links) (λ i h. counts i (subst (λ m. i < m) len h)) in
    ap (λ x. demand x IfaceUse)
    (ap (λ m. list_all (λ i. uses i links == 1) (numbers_from 0 m)) (sym len) ∙ sym all_ones ∙ ap (list_all (λ x. x == 1)) (sym same) ∙ sym all ∙ is)

pub returns-then-are_ones : goal.returns-then-are_ones
returns-then-are_ones c =
    answer c.args.count c.args.links.now c.in_ok-uses.uses.items c.deref.result.now _ c.are_ones.result c.in_ok-uses.ensures.len c.in_ok-uses.ensures.value c.deref.ensures.value c.are_ones.ensures c.if-are_ones.true

pub returns : goal.returns
returns c =
    answer c.args.count c.args.links.now c.in_ok-uses.uses.items c.deref.result.now _ c.are_ones.result c.in_ok-uses.ensures.len c.in_ok-uses.ensures.value c.deref.ensures.value c.are_ones.ensures c.if-are_ones.false
