use Rattle.std.proofs.Common.{arith, ◌≡◌, suc, ◌+◌, None, Ok, sym, ap, ◌∙◌, subst}
use Rattle.nm_events.specs.Held.{Held, pending_of}
use Rattle.nm_model.specs.Run.{one_list}
use Rattle.nm_sim.specs.Network.{net_of}
use Rattle.nm_sim.specs.Part.{PartValue, Represents, SteppedAndTold, events_told}
use Rattle.nm_measure.specs.contracts.measured.Measured.{the_view}
use Rattle.nm_measure.specs.Followed.{IsFollowed}
use Rattle.nm_measure.specs.Measured.{IsMeasuredBefore, IsMeasuring, KeepsNone, MeasuredValue}
use Rattle.nm_measure.specs.Flows.{sent_numbers}
use Rattle.nm_measure.proofs.Advances.{measuring_first, measuring_next, next_of, place_in}
use Rattle.nm_measure.proofs.measured.Measured.advance.Goals as goal

pub loop-done-init : goal.loop-done-init
loop-done-init c =
    let t = c.args.topology.now in
    let z = c.requires.from in
    let was = subst (IsMeasuredBefore t z.0) (sym c.self.view_is) z.2 in
    let w = c.begin_recent-2.new.self in
    record {
      measuring = subst (λ (v : MeasuredValue). IsMeasuring t v.part.steps c.args.until (record (the_view c.self.inside) { seen = c.begin_recent.new.self.all.items; sent = sent_numbers w.flows.counts.items; counts = w.flows.counts.items; times = w.flows.times.items; lanes = w.lanes.items; courses = w.courses })) c.self.view_is
          (measuring_first t z.0 c.args.until (the_view c.self.inside) was z.1 c.begin_recent.new.self.all.items w (c.begin_recent.ensures t)
          (c.begin_recent-2.ensures.watches t) (c.begin_recent-2.ensures.starts t) (ap (λ v. sent_numbers v.items) c.begin_recent-2.ensures.counts));
      followed = λ j taken old. subst (IsFollowed t j c.self.inside.part.steps taken) (sym c.begin_recent-2.ensures.courses)
          (subst (λ (v : MeasuredValue). IsFollowed t j v.part.steps taken v.courses) (sym c.self.view_is) old);
    }

pub step_and_tell-requires-clause-represents : goal.step_and_tell-requires-clause-represents
step_and_tell-requires-clause-represents c =
    let t = c.args.topology.now in
    let m = subst (IsMeasuring t c.args.self.now.part.steps c.args.until) (sym c.self-in-loop-done.view_is) c.loop-done.invariant.measuring in
    (None, one_list (net_of t) m.events, m.whole.represents)

pub see-requires : goal.see-requires
see-requires c =
    let t = c.args.topology.now in
    let first = c.args.self.now.part.steps in
    let m = subst (IsMeasuring t first c.args.until) (sym c.self-in-loop-done.view_is) c.loop-done.invariant.measuring in
    let s = one_list (net_of t) m.events in
    let told = c.in-Some.told in
    let more = subst (λ o. SteppedAndTold pending_of t (record { part = None; state = s; until = c.args.until }) c.self-in-loop-done.inside.part c.step_and_tell.new.self (Ok o)) c.in-Some.is
    (c.in_ok-told.ensures.step None s m.whole.represents) in
    place_in t first c.args.until (the_view c.self-in-loop-done.inside) m c.step_and_tell.new.self told.key told.happened more.0 more.1 more.2 more.3

pub loop-done-preserved : goal.loop-done-preserved
loop-done-preserved c =
    let t = c.args.topology.now in
    let first = c.args.self.now.part.steps in
    let m = subst (IsMeasuring t first c.args.until) (sym c.self-in-loop-done.view_is) c.loop-done.invariant.measuring in
    let s = one_list (net_of t) m.events in
    let told = c.in-Some.told in
    let inside = the_view c.self-in-loop-done.inside in
    let q = c.step_and_tell.new.self in
    let more = subst (λ o. SteppedAndTold pending_of t (record { part = None; state = s; until = c.args.until }) c.self-in-loop-done.inside.part q (Ok o)) c.in-Some.is
    (c.in_ok-told.ensures.step None s m.whole.represents) in
    let next = next_of t first c.args.until inside m q told.key told.happened more.0 more.1 more.2 more.3 c.requires.before in
    let one : q.steps ≡ c.self-in-loop-done.inside.part.steps + 1 = c.in_ok-told.ensures.steps ∙ ap (λ o. c.self-in-loop-done.inside.part.steps + events_told (Ok o)) c.in-Some.is in
    let new = c.see.new.self in
    let few = m.steps in
    record {
      measuring = subst (λ p. IsMeasuring t first c.args.until (record new { part = p })) (sym c.see.ensures.part)
          (measuring_next t first c.args.until inside m q told.key told.happened more.0 more.1 more.2 more.3 new
          c.step_and_tell.ensures.keeping one (c.in_ok-see.ensures.seen first m.events m.seen next) c.in_ok-see.ensures.sent
          (c.in_ok-see.ensures.watched m.events (omega (arith, few, one)) m.sent next m.watched) (c.in_ok-see.ensures.starts first m.events next m.starts));
      followed = λ j taken old.
          let so_far = subst (λ (v : MeasuredValue). IsFollowed t j v.part.steps taken v.courses) (sym c.self-in-loop-done.view_is) (c.loop-done.invariant.followed j taken old) in
          let goes = c.in_ok-see.ensures.followed m.events j taken (omega (arith, few, one)) m.sent next m.watched (subst (λ k. IsFollowed t j k taken inside.courses) few so_far) in
          let later : suc m.events ≡ new.part.steps = omega (arith, few, one) ∙ ap (λ (p : PartValue Held). p.steps) (sym c.see.ensures.part) in
          subst (λ k. IsFollowed t j k taken new.courses) later goes;
    }

pub returns-in_default-clause-before : goal.returns-in_default-clause-before
returns-in_default-clause-before c =
    let t = c.args.topology.now in
    let first = c.args.self.now.part.steps in
    let m = subst (IsMeasuring t first c.args.until) (sym c.self-in-loop-done.view_is) c.loop-done.invariant.measuring in
    let s = one_list (net_of t) m.events in
    let old = c.self-in-loop-done.inside.part in
    let same = subst (λ o. SteppedAndTold pending_of t (record { part = None; state = s; until = c.args.until }) old c.step_and_tell.new.self (Ok o)) c.in_default.is
    (c.in_ok-told.ensures.step None s m.whole.represents) in
    record {
      events = m.events;
      over = record { over = same.1; first = m.early };
      represents = subst (λ q. Represents pending_of t None q s) (sym same.0) m.whole.represents;
      keeps = subst KeepsNone (sym same.0) m.whole.keeps;
      within = c.requires.before;
      stops = c.accepted_topologies_are_in_order.ensures.limits.greatest_stop;
      steps = ap (λ q. q.steps) same.0 ∙ m.steps;
      first = first;
      seen = m.seen;
      sent = m.sent;
      watched = m.watched;
      starts = m.starts;
    }

pub returns-in_default-clause-followed : goal.returns-in_default-clause-followed
returns-in_default-clause-followed c = λ j taken was.
    let t = c.args.topology.now in
    let first = c.args.self.now.part.steps in
    let m = subst (IsMeasuring t first c.args.until) (sym c.self-in-loop-done.view_is) c.loop-done.invariant.measuring in
    let old = c.self-in-loop-done.inside.part in
    let same = subst (λ o. SteppedAndTold pending_of t (record { part = None; state = one_list (net_of t) m.events; until = c.args.until }) old c.step_and_tell.new.self (Ok o)) c.in_default.is
    (c.in_ok-told.ensures.step None (one_list (net_of t) m.events) m.whole.represents) in
    let so_far = subst (λ (v : MeasuredValue). IsFollowed t j v.part.steps taken v.courses) (sym c.self-in-loop-done.view_is) (c.loop-done.invariant.followed j taken was) in
    subst (λ k. IsFollowed t j k taken c.self-in-loop-done.inside.watched.courses) (sym (ap (λ q. q.steps) same.0)) so_far
