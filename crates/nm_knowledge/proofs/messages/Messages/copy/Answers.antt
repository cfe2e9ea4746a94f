use Rattle.std.proofs.Common.{◌≡◌, ◌++◌, [], sym, ap, ◌∙◌, subst, rules}
use Rattle.std.specs.Arc.{arc_value}
use Rattle.std.specs.List.{AllZip}
use Rattle.std.proofs.lemmas.List.Elements.{same_from_all_zip}
use Rattle.nm_knowledge.specs.Blocks.{in_blocks, AreBlocks}
use Rattle.nm_knowledge.proofs.Blocks.{copied}
use Rattle.nm_knowledge.proofs.messages.Messages.copy.Goals as goal

copy : (c : goal.In_ok-extend_with_clones-2) → AreBlocks c.extend_with_clones.new.self.items c.extend_with_clones-2.new.self.items
    × (in_blocks c.extend_with_clones.new.self.items c.extend_with_clones-2.new.self.items ≡ in_blocks c.self.inside.full.items c.self.inside.last.items)
copy c =
    let full = c.in_ok-extend_with_clones.ensures.items in
    let none : c.new-full.result.items ≡ [] = search rules in
    let blocks : c.extend_with_clones.new.self.items ≡ full.0 = full.1 ∙ ap (λ l. l ++ full.0) none in
    let all : c.deref.result.now ≡ c.self.inside.full.items = search rules in
    let last = c.in_ok-extend_with_clones-2.ensures.items in
    let same : last.0 ≡ c.deref-2.result.now = same_from_all_zip _ _ _ last.2 (λ x y r. search rules) in
    let empty : c.new-last.result.items ≡ [] = search rules in
    let rest : c.deref-2.result.now ≡ c.self.inside.last.items = search rules in
    copied c.self.inside.full.items c.extend_with_clones.new.self.items c.self.inside.last.items c.extend_with_clones-2.new.self.items c.self.invariant
    (subst (λ l. AllZip (λ b d. arc_value d ≡ arc_value b) c.self.inside.full.items l) (sym blocks) (subst (λ l. AllZip (λ b d. arc_value d ≡ arc_value b) l full.0) all full.2))
    (last.1 ∙ ap (λ l. l ++ last.0) empty ∙ same ∙ rest)

pub invariant_of-result : goal.invariant_of-result
invariant_of-result c = (copy c).0

pub returns : goal.returns
returns c = rw (← c.self.view_is) (copy c).1
