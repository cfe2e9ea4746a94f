use Rattle.std.proofs.Common.{◌≡◌, Some, sym, ap, ◌∙◌, subst, Option}
use Rattle.std.specs.Prelude.{IfOk}
use Rattle.toml.specs.Data.{Data, get_item}
use Rattle.toml.specs.View.{items_view, view}
use Rattle.nm_check.specs.Place.{place_at}
use Rattle.nm_check.proofs.Items.{get_item-past, get_item-view}
use Rattle.nm_check.proofs.place.place_at.Goals as goal

pub returns-then-number-items : goal.returns-then-number-items
returns-then-number-items c =
    ap (place_at c.args.head c.args.array c.args.number) (sym (get_item-past c.args.items.now c.args.number c.if-number-items.true))

pub returns : goal.returns
returns c =
    let there : get_item c.args.number (items_view c.args.items.now) ≡ Some (view c.index-items-number.result) =
    get_item-view c.args.items.now c.args.number c.index-items-number.result c.if-number-items.false ∙ ap (λ v. Some (view v)) (sym c.index-items-number.is) in
    subst (λ (o : Option Data). IfOk c.place_of_member.result (λ found. found ≡ place_at c.args.head c.args.array c.args.number o)) (sym there) c.place_of_member.ensures
