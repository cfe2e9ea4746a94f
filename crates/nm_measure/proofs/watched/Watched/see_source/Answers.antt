use Rattle.std.proofs.Common.{◌++◌, ◌∷◌, suc, [], length, map, slice_get, ◌≡◌, refl, sym, ap, ◌∙◌, subst}
use Rattle.nm_sim.specs.Network.{net_of}
use Rattle.nm_measure.specs.declared.flow_counts.PacketOutcome.TheVariants.{Discarded}
use Rattle.std.specs.Option.{option_map}
use Rattle.nm_measure.specs.declared.courses.EndPlace.TheVariants.{Node}
use Rattle.nm_measure.specs.declared.courses.Reason.TheVariants.{Counted}
use Rattle.nm_measure.specs.Followed.{begun, over, went_out}
use Rattle.nm_measure.proofs.Followings.{loss_goes, offer_goes}
use Rattle.nm_measure.specs.Flows.{sent_numbers}
use Rattle.nm_measure.specs.Lanes.{AreWatched, Watches, lanes_in, with_offer}
use Rattle.nm_measure.specs.Sent.{sent_in}
use Rattle.nm_measure.specs.Ways.{drop_at, dropped_as, end_at, ends_in, made_as, own_tag, tagged_list, unsent_at, unsent_by, unsent_of}
use Rattle.nm_measure.proofs.Flowing.{on_ok}
use Rattle.nm_measure.proofs.Firings.{made_dropped, sent_at, source_step, timed_at}
use Rattle.nm_measure.proofs.Laning.{to_hand, watched_as}
use Rattle.nm_base.specs.declared.key.Place.TheVariants.{Fire}
use Rattle.nm_measure.specs.Starts.{AreStarts, start_of}
use Rattle.nm_measure.proofs.Flowing.{quiet_because, unsent_told}
use Rattle.nm_measure.proofs.Nodes.{source_read, source_there}
use Rattle.nm_measure.proofs.Starting.{starts_fired}
use Rattle.nm_forward.specs.State.{table_of}
use Rattle.nm_measure.proofs.watched.Watched.see_source.Goals as goal

pub returns-in-Nothing-clause-watches : goal.returns-in-Nothing-clause-watches
returns-in-Nothing-clause-watches c =
    let t = c.args.topology.now in
    let laws = c.tags_change_no_run.ensures in
    let w = c.args.self.now in
    let count = length t.ifaces in
    let j = c.args.source in
    let h = c.args.happened.now in
    let tag = c.send-tag.result in
    let sent = c.send-tag.new.self in
    let begun = c.begin.new.self in
    let new = c.see_loss.new.self in
    on_ok c.see_loss.result _ _ (λ loses n p few made next was.
    let step = source_step t laws.own n (laws.same n) laws.network (laws.orderly n) (laws.counts n) c.args.now j p h next in
    let k = sent_in (net_of t) j n in
    let at = sent_at t n (sent_numbers w.flows.counts.items) made j c.requires.there few in
    let is = c.send-tag.ensures.tag k at.0 in
    let all = lanes_in t (tagged_list t n) in
    let ends = ends_in t n in
    let one = to_hand count all tag ends w.lanes.items w.flows.counts.items sent.counts.items w.flows.times.items sent.times.items was (λ u f. c.send-tag.ensures.flows ends u k at.0 at.1 f) in
    let two : Watches count all (tag ∷ []) ends begun =
    subst (λ v. AreWatched count all (tag ∷ []) ends v.items begun.flows.counts.items begun.flows.times.items) (sym c.begin.ensures.lanes)
    (subst (λ f. AreWatched count all (tag ∷ []) ends w.lanes.items f.counts.items f.times.items) (sym c.begin.ensures.flows) one) in
    let v = (net_of t).source_node j in
    let home = source_read t j c.index.result c.sources.result.now c.in-Some.from.now c.sources.ensures c.index.ensures c.requires.there ∙ ap (λ s. s.node) (sym c.in-Some.ensures.lookup.1) in
    let own = own_tag j v k c.args.now in
    let owned : tag ≡ own = is ∙ ap (λ v. own_tag j v k c.args.now) (sym home) in
    let discarded = end_at (unsent_at t j) v c.args.now (own, step.packet) Discarded in
    let dropped = drop_at c.args.now (own, step.packet) in
    let three = loses count all ends discarded (sym owned) refl (quiet_because discarded (unsent_told (table_of t v) (slice_get t.sources j))) two in
    subst (λ l. AreWatched count (lanes_in t (tagged_list t (suc n))) [] l new.lanes.items new.flows.counts.items new.flows.times.items)
    (ap (λ o. ends ++ made_as discarded dropped o) (sym c.in-Nothing.is) ∙ step.ends)
    (watched_as count all (lanes_in t (tagged_list t (suc n))) [] (ends ++ discarded ∷ []) new.lanes.items new.flows.counts.items new.flows.times.items
    (λ i. ap (λ o. with_offer o (own) all i) (sym c.in-Nothing.is) ∙ step.lanes i) three)) c.see_loss.ensures.watches

pub returns-clause-watches : goal.returns-clause-watches
returns-clause-watches c =
    let t = c.args.topology.now in
    let laws = c.tags_change_no_run.ensures in
    let w = c.args.self.now in
    let count = length t.ifaces in
    let j = c.args.source in
    let h = c.args.happened.now in
    let tag = c.send-tag.result in
    let sent = c.send-tag.new.self in
    let begun = c.begin.new.self in
    let new = c.see_offer.new.self in
    on_ok c.see_offer.result _ _ (λ offers n p few made next was.
    let step = source_step t laws.own n (laws.same n) laws.network (laws.orderly n) (laws.counts n) c.args.now j p h next in
    let k = sent_in (net_of t) j n in
    let at = sent_at t n (sent_numbers w.flows.counts.items) made j c.requires.there few in
    let is = c.send-tag.ensures.tag k at.0 in
    let all = lanes_in t (tagged_list t n) in
    let ends = ends_in t n in
    let one = to_hand count all tag ends w.lanes.items w.flows.counts.items sent.counts.items w.flows.times.items sent.times.items was (λ u f. c.send-tag.ensures.flows ends u k at.0 at.1 f) in
    let two : Watches count all (tag ∷ []) ends begun =
    subst (λ v. AreWatched count all (tag ∷ []) ends v.items begun.flows.counts.items begun.flows.times.items) (sym c.begin.ensures.lanes)
    (subst (λ f. AreWatched count all (tag ∷ []) ends w.lanes.items f.counts.items f.times.items) (sym c.begin.ensures.flows) one) in
    let v = (net_of t).source_node j in
    let home = source_read t j c.index.result c.sources.result.now c.in-Some.from.now c.sources.ensures c.index.ensures c.requires.there ∙ ap (λ s. s.node) (sym c.in-Some.ensures.lookup.1) in
    let own = own_tag j v k c.args.now in
    let owned : tag ≡ own = is ∙ ap (λ v. own_tag j v k c.args.now) (sym home) in
    let discarded = end_at (unsent_at t j) v c.args.now (own, step.packet) Discarded in
    let dropped = drop_at c.args.now (own, step.packet) in
    let other = c.in_default-offering.not-Nothing in
    let boxed = c.in_ok-boxed.boxed in
    let kept : boxed ≡ own = c.in_ok-boxed.ensures ∙ owned in
    let three = offers count all ends dropped (λ i. (sym kept, refl, refl)) step.can (λ i none. absurd (other none)) (subst (λ g. Watches count all (g ∷ []) ends begun) (sym c.in_ok-boxed.ensures) two) in
    subst (λ l. AreWatched count (lanes_in t (tagged_list t (suc n))) [] l new.lanes.items new.flows.counts.items new.flows.times.items)
    (ap (λ l. ends ++ l) (sym (made_dropped discarded dropped h.offering other)) ∙ step.ends)
    (watched_as count (with_offer h.offering (own) all) (lanes_in t (tagged_list t (suc n))) [] (ends ++ dropped_as dropped h.offering) new.lanes.items new.flows.counts.items new.flows.times.items step.lanes
    (subst (λ g. AreWatched count (with_offer h.offering g all) [] (ends ++ dropped_as dropped h.offering) new.lanes.items new.flows.counts.items new.flows.times.items) kept three))) c.see_offer.ensures.watches

pub returns-in-Nothing-clause-starts : goal.returns-in-Nothing-clause-starts
returns-in-Nothing-clause-starts c = on_ok c.see_loss.result _ _ (λ same first n p next starts.
    let t = c.args.topology.now in
    let laws = c.tags_change_no_run.ensures in
    let j = c.args.source in
    let times = c.args.self.now.flows.times.items in
    let timed = timed_at t laws.own n (laws.same n) laws.network (laws.orderly n) (laws.counts n) c.args.now j p c.args.happened.now next in
    subst (AreStarts t first (suc n)) (sym (same ∙ ap (λ f. map start_of f.times.items) c.begin.ensures.flows ∙ c.send-tag.ensures.starts))
    (starts_fired t first n (map start_of times) starts next.event (Fire j) next.first next.at_place j c.args.now refl timed)) c.see_loss.ensures.starts

pub returns-clause-starts : goal.returns-clause-starts
returns-clause-starts c = on_ok c.see_offer.result _ _ (λ same first n p next starts.
    let t = c.args.topology.now in
    let laws = c.tags_change_no_run.ensures in
    let j = c.args.source in
    let times = c.args.self.now.flows.times.items in
    let timed = timed_at t laws.own n (laws.same n) laws.network (laws.orderly n) (laws.counts n) c.args.now j p c.args.happened.now next in
    subst (AreStarts t first (suc n)) (sym (same ∙ ap (λ f. map start_of f.times.items) c.begin.ensures.flows ∙ c.send-tag.ensures.starts))
    (starts_fired t first n (map start_of times) starts next.event (Fire j) next.first next.at_place j c.args.now refl timed)) c.see_offer.ensures.starts

pub returns-clause-followed : goal.returns-clause-followed
returns-clause-followed c =
    let t = c.args.topology.now in
    let laws = c.tags_change_no_run.ensures in
    let w = c.args.self.now in
    let j = c.args.source in
    let h = c.args.happened.now in
    let tag = c.send-tag.result in
    on_ok c.see_offer.result _ _ (λ offers n p i taken few made next was old.
    let step = source_step t laws.own n (laws.same n) laws.network (laws.orderly n) (laws.counts n) c.args.now j p h next in
    let timed = timed_at t laws.own n (laws.same n) laws.network (laws.orderly n) (laws.counts n) c.args.now j p h next in
    let k = sent_in (net_of t) j n in
    let at = sent_at t n (sent_numbers w.flows.counts.items) made j c.requires.there few in
    let v = (net_of t).source_node j in
    let home = source_read t j c.index.result c.sources.result.now c.in-Some.from.now c.sources.ensures c.index.ensures c.requires.there ∙ ap (λ s. s.node) (sym c.in-Some.ensures.lookup.1) in
    let owned : tag ≡ own_tag j v k c.args.now = c.send-tag.ensures.tag k at.0 ∙ ap (λ v. own_tag j v k c.args.now) (sym home) in
    offer_goes t i taken n c.args.now j p h next step timed c.in_default-offering.not-Nothing w.courses c.begin.new.self.courses c.see_offer.new.self.courses
    (c.in_ok-begin.ensures.courses ∙ ap (λ g. option_map (begun g) w.courses) owned)
    (λ r. offers r ∙ ap (λ g. option_map (went_out h.offering g c.args.now) c.begin.new.self.courses) (c.in_ok-boxed.ensures ∙ owned))
    old) c.see_offer.ensures.courses

pub returns-in-Nothing-clause-followed : goal.returns-in-Nothing-clause-followed
returns-in-Nothing-clause-followed c =
    let t = c.args.topology.now in
    let laws = c.tags_change_no_run.ensures in
    let w = c.args.self.now in
    let j = c.args.source in
    let h = c.args.happened.now in
    let tag = c.send-tag.result in
    on_ok c.see_loss.result _ _ (λ loses n p i taken few made next was old.
    let step = source_step t laws.own n (laws.same n) laws.network (laws.orderly n) (laws.counts n) c.args.now j p h next in
    let timed = timed_at t laws.own n (laws.same n) laws.network (laws.orderly n) (laws.counts n) c.args.now j p h next in
    let k = sent_in (net_of t) j n in
    let at = sent_at t n (sent_numbers w.flows.counts.items) made j c.requires.there few in
    let v = (net_of t).source_node j in
    let home = source_read t j c.index.result c.sources.result.now c.in-Some.from.now c.sources.ensures c.index.ensures c.requires.there ∙ ap (λ s. s.node) (sym c.in-Some.ensures.lookup.1) in
    let owned : tag ≡ own_tag j v k c.args.now = c.send-tag.ensures.tag k at.0 ∙ ap (λ v. own_tag j v k c.args.now) (sym home) in
    let there = source_there t j c.index.result c.sources.result.now c.in-Some.from.now c.sources.ensures c.index.ensures c.requires.there c.in-Some.ensures.lookup.1 in
    let because : Counted c.unsent_by.result ≡ Counted (unsent_at t j) = ap Counted (c.unsent_by.ensures.is ∙ (λ q. unsent_by (table_of t (sym home q)) c.in-Some.from.now.traffic) ∙ ap (unsent_of (table_of t v)) (sym there)) in
    loss_goes t i taken n c.args.now j p h next step timed c.in-Nothing.is (Counted c.unsent_by.result) because w.courses c.begin.new.self.courses c.see_loss.new.self.courses
    (c.in_ok-begin.ensures.courses ∙ ap (λ g. option_map (begun g) w.courses) owned)
    (λ r. loses r ∙ (λ q. option_map (over (owned q) (record { outcome = Discarded; reason = Counted c.unsent_by.result; place = Node (sym home q); time = c.args.now })) c.begin.new.self.courses))
    old) c.see_loss.ensures.courses
