use Rattle.std.proofs.Common.{◌≡◌, ◌-◌, Some, None, ap, sym, ◌∙◌, subst, arith}
use Rattle.std.specs.HashMap.{get}
use Rattle.std.specs.Option.{option_map}
use Rattle.std.proofs.lemmas.Grind.{common_steps}
use Rattle.nm_forward.specs.Routes.{prefix_key, same_key, longest_below, IsLaidOut}
use Rattle.nm_forward.proofs.Layouts.{longest-zero, look-found, look-past, look-absent}
use Rattle.nm_forward.proofs.routes.Routes.look.Goals as goal

pub returns-in-Some : goal.returns-in-Some
returns-in-Some c =
    let s = c.self.inside in
    let n = c.loop-length.length in
    let laid = subst (λ rs. IsLaidOut rs s.occurs s.vias) c.self.view_is c.self.invariant in
    let there : get same_key s.vias (prefix_key (n - 1) c.args.address) ≡ Some c.in-Some.via.now =
    grind (arith, common_steps, c.get.ensures.value, c.in-Some.is, c.prefix_key.ensures) in
    look-found c.args.self.now s.occurs s.vias laid c.args.address n (n - 1)
    (omega arith) (omega arith) c.loop-length.invariant
    c.in-Some.via.now there

pub loop-length-preserved : goal.loop-length-preserved
loop-length-preserved c =
    let s = c.self.inside in
    let n = c.loop-length.length in
    let laid = subst (λ rs. IsLaidOut rs s.occurs s.vias) c.self.view_is c.self.invariant in
    let none : get same_key s.vias (prefix_key (n - 1) c.args.address) ≡ None =
    grind (arith, common_steps, c.get.ensures.value, c.in_default.is, c.prefix_key.ensures) in
    look-past c.args.self.now s.occurs s.vias laid c.args.address n (n - 1)
    (omega arith) (omega arith) c.loop-length.invariant none

pub loop-length-preserved-then-not-self-from : goal.loop-length-preserved-then-not-self-from
loop-length-preserved-then-not-self-from c =
    let s = c.self.inside in
    let n = c.loop-length.length in
    let laid = subst (λ rs. IsLaidOut rs s.occurs s.vias) c.self.view_is c.self.invariant in
    look-absent c.args.self.now s.occurs s.vias laid c.args.address n (n - 1)
    (omega arith) (omega arith) c.loop-length.invariant
    (rw (← c.from.ensures) c.if-not-self-from.true)

pub returns : goal.returns
returns c =
    let done : c.loop-length.length ≡ 0 = omega arith in
    let routes = c.args.self.now in
    let address = c.args.address in
    sym (c.loop-length.invariant
    ∙ ap (λ n. option_map (λ r. r.via) (longest_below n routes address)) done
    ∙ ap (option_map (λ r. r.via)) (longest-zero routes address))
