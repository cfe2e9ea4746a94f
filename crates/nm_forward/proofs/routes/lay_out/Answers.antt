use Rattle.std.proofs.Common.{◌≡◌, Some, None, cond, subst, arith}
use Rattle.std.specs.HashMap.{get}
use Rattle.std.proofs.lemmas.Grind.{common_steps}
use Rattle.nm_forward.specs.declared.routes.PrefixKey.{PrefixKey}
use Rattle.nm_forward.specs.Routes.{prefix_key, same_key}
use Rattle.nm_forward.proofs.Layouts.{laid_out-long, laid_out-known, laid_out-first}
use Rattle.nm_forward.proofs.routes.lay_out.Goals as goal

pub returns-then-from-ge-LENGTHS : goal.returns-then-from-ge-LENGTHS
returns-then-from-ge-LENGTHS c = λ routes laid.
    laid_out-long routes c.args.occurs.now c.args.vias.now c.args.route.now laid (omega arith)

pub returns-in_ok-insert : goal.returns-in_ok-insert
returns-in_ok-insert c = λ routes laid.
    let vias = c.args.vias.now in
    let r = c.args.route.now in
    let key : c.prefix_key-key.result ≡ prefix_key r.to.length r.to.address =
    c.prefix_key-key.ensures in
    let fresh : get same_key vias (prefix_key r.to.length r.to.address) ≡ None =
    grind (arith, common_steps, key, c.if-not-contains_key.ensures) in
    laid_out-first routes c.args.occurs.now vias r laid
    c.from-2.result (omega arith) (omega arith) (omega arith)
    c.insert.new.self fresh (λ q. subst
    (λ (k : PrefixKey). get same_key c.insert.new.self q
    ≡ cond (same_key k q) (Some r.via) (get same_key vias q))
    key (c.in_ok-insert.ensures.updates.0 q))

pub returns-else-not-contains_key : goal.returns-else-not-contains_key
returns-else-not-contains_key c = λ routes laid.
    let r = c.args.route.now in
    let key : c.prefix_key-key.result ≡ prefix_key r.to.length r.to.address =
    c.prefix_key-key.ensures in
    laid_out-known routes c.args.occurs.now c.args.vias.now r laid
    c.from-2.result (omega arith) (omega arith) (omega arith)
    (λ none. grind (arith, common_steps, key, none, c.if-not-contains_key.ensures))
