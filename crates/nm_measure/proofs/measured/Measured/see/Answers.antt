use Rattle.std.proofs.Common.{arith, ◌≡◌, ◌+◌, ◌<◌, ◌^◌, sym, subst}
use Rattle.nm_measure.specs.Followed.{IsFollowed}
use Rattle.nm_measure.specs.Interfaces.{AreSeen, IsNext}
use Rattle.nm_measure.specs.Measured.{HasStarts, HasWatched, MeasuredValue}
use Rattle.nm_measure.specs.Sent.{AreSent}
use Rattle.nm_measure.proofs.measured.Measured.see.Goals as goal

pub returns-clause-seen : goal.returns-clause-seen
returns-clause-seen c = λ first n seen next.
    c.see.ensures first n (subst (λ (v : MeasuredValue). AreSeen c.args.topology.now first n v.seen) (sym c.self.view_is) seen)
    (subst (λ (v : MeasuredValue). IsNext c.args.topology.now n c.args.now c.args.place v.part c.args.happened) (sym c.self.view_is) next)

pub returns-clause-watched : goal.returns-clause-watched
returns-clause-watched c = λ n steps made next was.
    let one = subst (λ (v : MeasuredValue). v.part.steps ≡ n + 1) (sym c.self.view_is) steps in
    let value = c.events.ensures.value in
    let most = c.events.ensures.most in
    let few : n + 1 < 2 ^ 64 = omega (arith, one, value, most) in
    let t = c.args.topology.now in
    let before = subst (HasWatched t n) (sym c.self.view_is) was in
    c.in_ok-see.ensures.watches n c.args.self.now.part few
    (subst (λ (v : MeasuredValue). AreSent t n v.sent) (sym c.self.view_is) made) next before

pub returns-clause-starts : goal.returns-clause-starts
returns-clause-starts c = λ first n next starts.
    c.in_ok-see.ensures.starts first n c.args.self.now.part next
    (subst (HasStarts c.args.topology.now first n) (sym c.self.view_is) starts)

pub returns-clause-followed : goal.returns-clause-followed
returns-clause-followed c = λ n j taken steps made next was old.
    let one = subst (λ (v : MeasuredValue). v.part.steps ≡ n + 1) (sym c.self.view_is) steps in
    let value = c.events.ensures.value in
    let most = c.events.ensures.most in
    let few : n + 1 < 2 ^ 64 = omega (arith, one, value, most) in
    let t = c.args.topology.now in
    c.in_ok-see.ensures.followed n c.args.self.now.part j taken few
    (subst (λ (v : MeasuredValue). AreSent t n v.sent) (sym c.self.view_is) made) next (subst (HasWatched t n) (sym c.self.view_is) was)
    (subst (λ (v : MeasuredValue). IsFollowed t j n taken v.courses) (sym c.self.view_is) old)
