use Rattle.std.proofs.Common.{◌≡◌, ◌<◌, length, Some, slice_get, rules, sym, ap, ◌∙◌, subst, arith, ⊎_elim}
use Rattle.nm_sim.specs.Network.{far_of}
use Rattle.nm_measure.specs.declared.seen.Seen.{Seen}
use Rattle.nm_measure.proofs.Lists.{pushed_is}
use Rattle.nm_measure.proofs.Nodes.{far_is}
use Rattle.nm_measure.proofs.Watching.{seen_first}
use Rattle.nm_measure.proofs.interfaces.none_seen.Goals as goal

pub loop-number-preserved : goal.loop-number-preserved
loop-number-preserved c =
    let t = c.args.topology.now in
    let n = c.loop-number.number in
    let low : n < length t.ifaces = search rules in
    let same : c.iface_number.result ≡ n = search rules in
    let far : c.far-far.result ≡ far_of t n = c.far-far.ensures ∙ sym (far_is t n c.iface.result.now (subst (λ i. slice_get t.ifaces i ≡ Some c.iface.result.now) same c.iface.ensures)) in
    let v : Seen = record { queue = c.new.result; usage = c.new-in-loop-number.result } in
    record {
      within = omega (arith, low);
      count = search rules;
      each = λ i x at. ⊎_elim
          (λ before. c.loop-number.invariant.each i x before)
          (λ last. (
            ap (λ (z : Seen). z.queue) last.1 ∙ c.new.ensures,
            ap (λ (z : Seen). z.usage.busy) last.1 ∙ c.new-in-loop-number.ensures.busy,
            ap (λ (z : Seen). z.usage.starts) last.1 ∙ c.new-in-loop-number.ensures.starts,
            ap (λ (z : Seen). z.usage.rate) last.1 ∙ c.new-in-loop-number.ensures.rate ∙ (λ k. (far k).rate) ∙ ap (λ j. (far_of t j).rate) (sym c.loop-number.invariant.count ∙ sym last.0),
          ))
          (pushed_is c.loop-number.all.items v i x (sym (ap (λ l. slice_get l i) c.in_ok-push.ensures.items) ∙ at));
    }

pub returns : goal.returns
returns c =
    let t = c.args.topology.now in
    let n = c.loop-number.number in
    let over : length t.ifaces ≡ n = search rules in
    seen_first t c.loop-number.all.items (c.loop-number.invariant.count ∙ sym over) c.loop-number.invariant.each
