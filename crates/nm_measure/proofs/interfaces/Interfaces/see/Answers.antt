use Rattle.std.proofs.Common.{◌≡◌, ◌⊎◌, ◌^◌, ◌<◌, ◌-◌, ℕ, suc, max, inl, inr, Some, None, sym, ap, ◌∙◌, subst, arith}
use Rattle.nm_model.specs.Run.{one_list}
use Rattle.nm_sim.specs.Network.{net_of}
use Rattle.nm_sim.specs.declared.told.Started.{Started}
use Rattle.nm_measure.specs.declared.interfaces.Interfaces.{Interfaces}
use Rattle.nm_measure.specs.Interfaces.{HasStarted, IsTurn, OneChanges}
use Rattle.nm_measure.proofs.Turned.{turn_told}
use Rattle.nm_measure.proofs.Watching.{half_told, seen_same, seen_turned}
use Rattle.nm_measure.proofs.interfaces.Interfaces.see.Goals as goal
use Rattle.nm_measure.proofs.interfaces.Interfaces.see.Goals.{in-Some, in_default}

pub returns-in-Some-queue_turned : goal.returns-in-Some-queue_turned
returns-in-Some-queue_turned c = λ first n seen next.
    let t = c.args.topology.now in
    let net = net_of t in
    let network = c.every_topology_is_a_network.ensures.network in
    let old = c.args.self.now.all.items in
    let mid = c.match-happened.self.all.items in
    let limit = c.accepted_topologies_are_in_order.ensures.limits.greatest_stop in
    let few : t.stop < 2 ^ 64 = omega (arith, limit) in
    let what = c.args.happened.now in
    let began : ((z : Started) × (what.started ≡ Some z) × (left : ℕ) × (left ≡ t.stop - c.args.now) × OneChanges z.iface (HasStarted (max 1 z.octets) c.args.now left) old mid)
    ⊎ ((what.started ≡ None) × (mid ≡ old)) = elim c.match-happened.branch [
      | in-Some w ↦ inl (
        w.in-Some.started,
        w.in-Some.is,
        w.time_left.result,
        w.time_left.ensures,
        subst (λ (s : Interfaces). OneChanges w.in-Some.started.iface (HasStarted (max 1 w.in-Some.started.octets) c.args.now w.time_left.result) old s.all.items) (sym w.self-is) w.start.ensures,
      )
      | in_default w ↦ inr (w.in_default.is, ap (λ (s : Interfaces). s.all.items) w.self-is)
    ] in
    let half = half_told t first n c.args.now c.args.place.now c.args.part.now what old seen network (c.keys_rise.ensures net network) next mid (c.what_starts_arrives.ensures net network) few began in
    seen_turned t first n c.args.now c.args.place.now c.args.part.now what old seen network (c.keys_rise.ensures net network) next mid half
    c.change.new.self.all.items c.in-Some-queue_turned.iface
    (subst (IsTurn t n) (sym c.queue_turned.ensures ∙ c.in-Some-queue_turned.is) (turn_told t n c.args.now c.args.place.now c.args.part.now what next.before.1.orderly next))
    (c.change.ensures t (one_list net (suc n)) next.represents half.count)

pub returns-in_default-queue_turned : goal.returns-in_default-queue_turned
returns-in_default-queue_turned c = λ first n seen next.
    let t = c.args.topology.now in
    let net = net_of t in
    let network = c.every_topology_is_a_network.ensures.network in
    let old = c.args.self.now.all.items in
    let mid = c.match-happened.self.all.items in
    let limit = c.accepted_topologies_are_in_order.ensures.limits.greatest_stop in
    let few : t.stop < 2 ^ 64 = omega (arith, limit) in
    let what = c.args.happened.now in
    let began : ((z : Started) × (what.started ≡ Some z) × (left : ℕ) × (left ≡ t.stop - c.args.now) × OneChanges z.iface (HasStarted (max 1 z.octets) c.args.now left) old mid)
    ⊎ ((what.started ≡ None) × (mid ≡ old)) = elim c.match-happened.branch [
      | in-Some w ↦ inl (
        w.in-Some.started,
        w.in-Some.is,
        w.time_left.result,
        w.time_left.ensures,
        subst (λ (s : Interfaces). OneChanges w.in-Some.started.iface (HasStarted (max 1 w.in-Some.started.octets) c.args.now w.time_left.result) old s.all.items) (sym w.self-is) w.start.ensures,
      )
      | in_default w ↦ inr (w.in_default.is, ap (λ (s : Interfaces). s.all.items) w.self-is)
    ] in
    let half = half_told t first n c.args.now c.args.place.now c.args.part.now what old seen network (c.keys_rise.ensures net network) next mid (c.what_starts_arrives.ensures net network) few began in
    seen_same t first n c.args.now c.args.place.now c.args.part.now what old seen network (c.keys_rise.ensures net network) next mid half
    (subst (IsTurn t n) (sym c.queue_turned.ensures ∙ c.in_default-queue_turned.is) (turn_told t n c.args.now c.args.place.now c.args.part.now what next.before.1.orderly next))
