use Rattle.std.proofs.Common.{◌≡◌, ◌<◌, ◌++◌, ◌∷◌, suc, [], length, refl, sym, ap, ◌∙◌, subst}
use Rattle.nm_model.proofs.ListLemmas.{not_some, some_inj}
use Rattle.nm_model.specs.Lists.{set_at}
use Rattle.nm_sim.specs.Network.{net_of}
use Rattle.nm_sim.specs.declared.told.Arrived.{Arrived}
use Rattle.nm_measure.specs.Lanes.{AreWatched, Watches, lanes_in, one_of, with_offer}
use Rattle.std.specs.Option.{option_map}
use Rattle.nm_base.specs.declared.record.Dir.TheVariants.{In}
use Rattle.nm_measure.specs.declared.courses.Hop.{Hop}
use Rattle.nm_measure.specs.Followed.{NumbersRise, came_to_end, gone_past, went_out}
use Rattle.nm_measure.proofs.Followings.{arrival_goes}
use Rattle.nm_measure.specs.Ways.{answer_tag, counter_at, drop_at, dropped_as, end_at, ended_as, ends_in, fate_at, outcome_by, tagged_list}
use Rattle.nm_measure.proofs.Flowing.{on_ok}
use Rattle.nm_measure.proofs.Following.{arrival_step, far_end_is, far_end_low}
use Rattle.nm_measure.proofs.Laning.{answer_to_hand, watched_as}
use Rattle.nm_measure.proofs.Nodes.{owner_is}
use Rattle.nm_measure.specs.declared.courses.EndPlace.TheVariants.{Node}
use Rattle.nm_measure.proofs.watched.Watched.see_arrival.Goals as goal

pub returns-in_default-clause-watches : goal.returns-in_default-clause-watches
returns-in_default-clause-watches c = λ n p next was.
    let t = c.args.topology.now in
    let laws = c.tags_change_no_run.ensures in
    let step = arrival_step t laws.own n (laws.same n) laws.network (laws.orderly n) (laws.rises n) c.args.now c.args.number p c.args.happened.now next in
    let all = lanes_in t (tagged_list t n) in
    let from : c.far.result.iface ≡ (net_of t).far_end c.args.number = ap (λ f. f.iface) c.far.ensures ∙ far_end_is t c.args.number c.iface-iface.result.now c.iface-iface.ensures in
    let low = subst (λ k. k < length t.ifaces) (sym from) (far_end_low t laws.network c.args.number c.requires.there) in
    let left = c.leave_link.ensures.watches (length t.ifaces) all step.packet.0 step.on (ends_in t n) was low (ap (λ k. (all k).0) from ∙ step.first) in
    absurd (not_some step.packet.0 (sym c.in_default.is ∙ left.0))

pub returns-in_default-arrived-clause-watches : goal.returns-in_default-arrived-clause-watches
returns-in_default-arrived-clause-watches c = λ n p next was.
    let laws = c.tags_change_no_run.ensures in
    let step = arrival_step c.args.topology.now laws.own n (laws.same n) laws.network (laws.orderly n) (laws.rises n) c.args.now c.args.number p c.args.happened.now next in
    absurd (not_some step.told.0 (sym c.in_default-arrived.is ∙ step.told.1))

pub returns-clause-watches : goal.returns-clause-watches
returns-clause-watches c =
    let t = c.args.topology.now in
    let laws = c.tags_change_no_run.ensures in
    let count = length t.ifaces in
    let h = c.args.happened.now in
    on_ok c.see_offer.result _ _ (λ offers n p next was.
    let step = arrival_step t laws.own n (laws.same n) laws.network (laws.orderly n) (laws.rises n) c.args.now c.args.number p h next in
    let x = step.packet in
    let v = (net_of t).owner c.args.number in
    let all = lanes_in t (tagged_list t n) in
    let ends = ends_in t n in
    let from : c.far.result.iface ≡ (net_of t).far_end c.args.number = ap (λ f. f.iface) c.far.ensures ∙ far_end_is t c.args.number c.iface-iface.result.now c.iface-iface.ensures in
    let home : c.node-node.result ≡ v = c.node-node.ensures ∙ sym (owner_is t c.args.number c.iface-iface.result.now c.iface-iface.ensures) in
    let low : c.far.result.iface < count = subst (λ k. k < count) (sym from) (far_end_low t laws.network c.args.number c.requires.there) in
    let left = c.leave_link.ensures.watches count all x.0 step.on ends was low (ap (λ k. (all k).0) from ∙ step.first) in
    let got : c.in-Some.tag ≡ x.0 = some_inj c.in-Some.tag x.0 (sym c.in-Some.is ∙ left.0) in
    let first : c.get.result.now ≡ x.0 = c.get.ensures ∙ got in
    let mine : c.get-2.result.now ≡ x.0 = c.get-2.ensures ∙ got in
    let tag = c.get-2.result.now in
    let popped = set_at all ((net_of t).far_end c.args.number) (step.on, (all ((net_of t).far_end c.args.number)).1) in
    let w1 = c.leave_link.new.self in
    let one : Watches count popped (tag ∷ []) ends w1 = subst (λ g. Watches count popped (g ∷ []) ends w1) (sym mine) (subst (λ k. Watches count (set_at all k (step.on, (all k).1)) (x.0 ∷ []) ends w1) from left.1) in
    let w2 = c.pass.new.self in
    let two : Watches count popped (tag ∷ []) ends w2 =
    subst (λ v. AreWatched count popped (tag ∷ []) ends v.items w2.flows.counts.items w2.flows.times.items) (sym c.pass.ensures.lanes)
    (subst (λ f. AreWatched count popped (tag ∷ []) ends w1.lanes.items f.counts.items f.times.items) (sym c.pass.ensures.flows) one) in
    let told : step.told.0 ≡ c.in-Some-arrived.arrived = some_inj step.told.0 c.in-Some-arrived.arrived (sym step.told.1 ∙ c.in-Some-arrived.is) in
    let said = c.said_of-fate.ensures.said _ (ap (λ (a : Arrived). a.counter) (sym told) ∙ step.told.2) in
    let fate : c.said_of-fate.result.0 ≡ fate_at t v x.1 = said.0 in
    let octets : length x.1 ≡ c.from.result = sym step.told.3 ∙ ap (λ (a : Arrived). a.octets) told ∙ sym c.from.ensures in
    let how = end_at (counter_at t v x.1) v c.args.now x in
    let three = c.in_ok-see_end.ensures.watches count popped ends how (λ o. (sym mine, refl, refl, octets, sym said.1, ap Node (sym home))) two in
    let w3 = c.see_end.new.self in
    let four = answer_to_hand count popped c.said_of-fate.result.0 tag (ends ++ ended_as how (outcome_by c.said_of-fate.result.0)) w3.lanes.items w3.flows.counts.items w3.flows.times.items three in
    let answer = answer_tag (fate_at t v x.1) x.0 in
    let answers : answer_tag c.said_of-fate.result.0 tag ≡ answer = (λ j. answer_tag (fate j) (mine j)) in
    let answered : c.answer_to-answer.result ≡ answer_tag c.said_of-fate.result.0 tag = c.answer_to-answer.ensures ∙ ap (answer_tag c.said_of-fate.result.0) (sym c.get-2.ensures) in
    let five : Watches count popped (c.answer_to-answer.result ∷ []) (ends ++ ended_as how (outcome_by (fate_at t v x.1))) w3 =
    subst (λ f. Watches count popped (c.answer_to-answer.result ∷ []) (ends ++ ended_as how (outcome_by f)) w3) fate
    (subst (λ g. Watches count popped (g ∷ []) (ends ++ ended_as how (outcome_by c.said_of-fate.result.0)) w3) (sym answered) four) in
    let is = answered ∙ answers in
    let dropped = drop_at c.args.now (answer, x.1) in
    let new = c.see_offer.new.self in
    let six = offers count popped (ends ++ ended_as how (outcome_by (fate_at t v x.1))) dropped (λ i. (sym is, refl, refl)) step.can (λ j none. ap (one_of j) is ∙ step.nothing j none) five in
    subst (λ l. AreWatched count (lanes_in t (tagged_list t (suc n))) [] l new.lanes.items new.flows.counts.items new.flows.times.items) step.ends
    (watched_as count (with_offer h.offering answer popped) (lanes_in t (tagged_list t (suc n))) [] ((ends ++ ended_as how (outcome_by (fate_at t v x.1))) ++ dropped_as dropped h.offering) new.lanes.items new.flows.counts.items new.flows.times.items step.lanes
    (subst (λ g. AreWatched count (with_offer h.offering g popped) [] ((ends ++ ended_as how (outcome_by (fate_at t v x.1))) ++ dropped_as dropped h.offering) new.lanes.items new.flows.counts.items new.flows.times.items) is six))) c.see_offer.ensures.watches

pub returns-in_default-clause-followed : goal.returns-in_default-clause-followed
returns-in_default-clause-followed c = λ n p j taken few made next was old.
    let t = c.args.topology.now in
    let laws = c.tags_change_no_run.ensures in
    let step = arrival_step t laws.own n (laws.same n) laws.network (laws.orderly n) (laws.rises n) c.args.now c.args.number p c.args.happened.now next in
    let all = lanes_in t (tagged_list t n) in
    let from : c.far.result.iface ≡ (net_of t).far_end c.args.number = ap (λ f. f.iface) c.far.ensures ∙ far_end_is t c.args.number c.iface-iface.result.now c.iface-iface.ensures in
    let low = subst (λ k. k < length t.ifaces) (sym from) (far_end_low t laws.network c.args.number c.requires.there) in
    let left = c.leave_link.ensures.watches (length t.ifaces) all step.packet.0 step.on (ends_in t n) was low (ap (λ k. (all k).0) from ∙ step.first) in
    absurd (not_some step.packet.0 (sym c.in_default.is ∙ left.0))

pub returns-in_default-arrived-clause-followed : goal.returns-in_default-arrived-clause-followed
returns-in_default-arrived-clause-followed c = λ n p j taken few made next was old.
    let laws = c.tags_change_no_run.ensures in
    let step = arrival_step c.args.topology.now laws.own n (laws.same n) laws.network (laws.orderly n) (laws.rises n) c.args.now c.args.number p c.args.happened.now next in
    absurd (not_some step.told.0 (sym c.in_default-arrived.is ∙ step.told.1))

pub returns-clause-followed : goal.returns-clause-followed
returns-clause-followed c =
    let t = c.args.topology.now in
    let laws = c.tags_change_no_run.ensures in
    let count = length t.ifaces in
    let h = c.args.happened.now in
    on_ok c.see_offer.result _ _ (λ offers n p j taken few made next was old.
    let step = arrival_step t laws.own n (laws.same n) laws.network (laws.orderly n) (laws.rises n) c.args.now c.args.number p h next in
    let x = step.packet in
    let v = (net_of t).owner c.args.number in
    let all = lanes_in t (tagged_list t n) in
    let from : c.far.result.iface ≡ (net_of t).far_end c.args.number = ap (λ f. f.iface) c.far.ensures ∙ far_end_is t c.args.number c.iface-iface.result.now c.iface-iface.ensures in
    let home : c.node-node.result ≡ v = c.node-node.ensures ∙ sym (owner_is t c.args.number c.iface-iface.result.now c.iface-iface.ensures) in
    let far = far_end_low t laws.network c.args.number c.requires.there in
    let low : c.far.result.iface < count = subst (λ k. k < count) (sym from) far in
    let left = c.leave_link.ensures.watches count all x.0 step.on (ends_in t n) was low (ap (λ k. (all k).0) from ∙ step.first) in
    let got : c.in-Some.tag ≡ x.0 = some_inj c.in-Some.tag x.0 (sym c.in-Some.is ∙ left.0) in
    let first : c.get.result.now ≡ x.0 = c.get.ensures ∙ got in
    let mine : c.get-2.result.now ≡ x.0 = c.get-2.ensures ∙ got in
    let told : step.told.0 ≡ c.in-Some-arrived.arrived = some_inj step.told.0 c.in-Some-arrived.arrived (sym step.told.1 ∙ c.in-Some-arrived.is) in
    let said = c.said_of-fate.ensures.said _ (ap (λ (a : Arrived). a.counter) (sym told) ∙ step.told.2) in
    let fate : c.said_of-fate.result.0 ≡ fate_at t v x.1 = said.0 in
    let octets : c.from.result ≡ length x.1 = c.from.ensures ∙ ap (λ (a : Arrived). a.octets) (sym told) ∙ step.told.3 in
    let kept = c.leave_link.ensures.courses in
    let hop : Hop = record { iface = c.args.number; dir = In; time = c.args.now } in
    let is : c.answer_to-answer.result ≡ answer_tag (fate_at t v x.1) x.0 = c.answer_to-answer.ensures ∙ (λ q. answer_tag (fate q) (got q)) in
    arrival_goes t j taken n c.args.now c.args.number p h next step far c.args.self.now.courses c.pass.new.self.courses c.see_end.new.self.courses c.see_offer.new.self.courses
    (λ r. c.in_ok-pass.ensures.courses (subst NumbersRise (sym kept) r) ∙ (λ q. option_map (gone_past (first q) hop) (kept q)))
    (λ r. c.in_ok-see_end.ensures.courses r ∙ (λ q. option_map (came_to_end (mine q) (outcome_by (fate q)) (said.1 q) (record { node = home q; octets = octets q; now = c.args.now })) c.pass.new.self.courses))
    (λ r. offers r ∙ (λ q. option_map (went_out h.offering (is q) c.args.now) c.see_end.new.self.courses))
    old) c.see_offer.ensures.courses
