use Rattle.std.proofs.Common.{◌≡◌, ◌+◌, ◌<◌, ◌∷◌, [], ◌++◌, length, take, get_or, rules, ap, sym, ◌∙◌, subst}
use Rattle.std.proofs.lemmas.List.{take_more}
use Rattle.nm_engine.specs.Given.{NotesAll}
use Rattle.nm_engine.proofs.Noting.{notes_more}
use Rattle.nm_engine.proofs.given.GivenMessages.merge.Goals as goal

pub loop-range-preserved : goal.loop-range-preserved
loop-range-preserved c =
    let all = c.args.other.now.ranges.items in
    let n = c.loop-range.range-index in
    let range = c.range-item.result in
    let low : n < length all = search rules in
    let more : take (n + 1) all ≡ take n all ++ range ∷ [] =
    take_more all n range low ∙ ap (λ r. take n all ++ r ∷ []) (sym (c.range-item.is ∙ ap (λ l. get_or l n range) c.deref-range-items.ensures.value)) in
    record {
      within = search rules;
      noted = subst (NotesAll c.args.self.now.ranges.items c.note_range.new.self.ranges.items) (sym more)
          (notes_more c.args.self.now.ranges.items c.loop-range.self.ranges.items c.note_range.new.self.ranges.items (take n all) range c.loop-range.invariant.noted c.note_range.ensures);
    }
