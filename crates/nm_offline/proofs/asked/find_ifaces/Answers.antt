use Rattle.std.proofs.Common.{◌≡◌, All, None, Some, string_bytes, refl, ap, sym, ◌∙◌, subst, rules}
use Rattle.std.proofs.lemmas.List.{take_all}
use Rattle.std.proofs.lemmas.List.Elements.{All-map}
use Rattle.std.proofs.lemmas.Option.{slice_get-get_or}
use Rattle.nm_offline.specs.Traces.{iface_named}
use Rattle.nm_offline.proofs.AskedNames.{All-more, at_map, is_there, not_there}
use Rattle.nm_offline.proofs.asked.find_ifaces.Goals as goal

pub loop-name-preserved : goal.loop-name-preserved
loop-name-preserved c =
    let n = c.loop-name.name-index in
    let names = c.args.names.now in
    let is = slice_get-get_or names n c.name-item.result c.loop-name-test.true ∙ ap (λ r. Some r) (sym c.name-item.is) in
    All-more (λ name. iface_named c.args.network.now.ifaces (Some (string_bytes name)) ≡ None → ⊥) names n c.name-item.result is c.loop-name.invariant
    (is_there (iface_named c.args.network.now.ifaces (Some (string_bytes c.name-item.result))) (search rules))

pub returns-then-is_none-clause-none : goal.returns-then-is_none-clause-none
returns-then-is_none-clause-none c = (
  refl,
  λ all. at_map (λ name. iface_named c.args.network.now.ifaces (Some name) ≡ None → ⊥) (λ n. string_bytes n) c.args.names.now c.loop-name.name-index c.name-item.result
      c.loop-name-test.true (sym c.name-item.is) all
      (not_there (iface_named c.args.network.now.ifaces (Some (string_bytes c.name-item.result))) (search rules)),
)

pub returns-clause-found : goal.returns-clause-found
returns-clause-found c =
    All-map (λ name. iface_named c.args.network.now.ifaces (Some name) ≡ None → ⊥) (λ n. string_bytes n) c.args.names.now
    (subst (All (λ name. iface_named c.args.network.now.ifaces (Some (string_bytes name)) ≡ None → ⊥)) (take_all c.loop-name.name-index c.args.names.now c.loop-name-test.false) c.loop-name.invariant)
