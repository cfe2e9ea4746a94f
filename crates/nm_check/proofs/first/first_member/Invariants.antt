use Rattle.std.proofs.Common.{◌≡◌, drop}
use Rattle.toml.specs.View.{items_view}
use Rattle.nm_check.specs.First.{first_from}
use Rattle.nm_check.specs.Reading.{outcome}
use Rattle.nm_check.proofs.first.first_member.Given as goal

abbrev pub invariant-loop-item : goal.invariant-loop-item
invariant-loop-item g l = record {
  number : l.number ≡ l.item-index;
  found : first_from (λ d. outcome (g.T.Element.reads l.head d)) 0 (items_view l.items) ≡ first_from (λ d. outcome (g.T.Element.reads l.head d)) l.number (items_view (drop l.item-index l.items));
}
