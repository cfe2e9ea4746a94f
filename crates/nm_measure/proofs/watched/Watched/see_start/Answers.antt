use Rattle.std.proofs.Common.{rules, ◌≡◌, ◌<◌, [], ◌∷◌, length, slice_set, sym, subst}
use Rattle.nm_measure.specs.Lanes.{AreWatched, with_start}
use Rattle.std.specs.Option.{option_map}
use Rattle.nm_model.specs.declared.offering.Offering.TheVariants.{Started}
use Rattle.nm_measure.specs.Followed.{NumbersRise, went_out}
use Rattle.nm_measure.proofs.Flowing.{ok_of, ok_with}
use Rattle.nm_measure.proofs.Laning.{starts_at_once}
use Rattle.nm_measure.proofs.Lists.{read_at}
use Rattle.nm_measure.proofs.watched.Watched.see_start.Goals as goal

pub returns-in-Some-clause-watches : goal.returns-in-Some-clause-watches
returns-in-Some-clause-watches c =
    let w = c.pass.new.self in
    let x = c.in-Some.lane.now in
    let y = c.send.new.self in
    let there : c.index.result < length w.lanes.items = search rules in
    let at = read_at w.lanes.items c.args.iface c.index.result x c.index.ensures there c.in-Some.ensures.value in
    ok_with c.send.result _ _ _ (λ line waiting count all ends was low none.
    let here = subst (λ v. AreWatched count all (c.args.tag ∷ []) ends v.items w.flows.counts.items w.flows.times.items) (sym c.pass.ensures.lanes)
    (subst (λ f. AreWatched count all (c.args.tag ∷ []) ends c.args.self.now.lanes.items f.counts.items f.times.items) (sym c.pass.ensures.flows) was) in
    subst (λ k. AreWatched count (with_start c.args.iface c.args.tag all) [] ends (slice_set w.lanes.items k y) w.flows.counts.items w.flows.times.items) (sym c.index.ensures)
    (starts_at_once count all ends w.lanes.items w.flows.counts.items w.flows.times.items c.args.iface x y at c.args.tag here none line waiting)) c.send.ensures.line c.send.ensures.waiting

pub returns-in-Some-clause-courses : goal.returns-in-Some-clause-courses
returns-in-Some-clause-courses c = ok_of c.send.result _
    (subst (λ g. NumbersRise c.args.self.now.courses → c.pass.new.self.courses ≡ option_map (went_out (Started c.args.iface) g c.args.now) c.args.self.now.courses) c.get.ensures c.in_ok-pass.ensures.courses)

pub returns-in-None-clause-courses : goal.returns-in-None-clause-courses
returns-in-None-clause-courses c =
    subst (λ g. NumbersRise c.args.self.now.courses → c.pass.new.self.courses ≡ option_map (went_out (Started c.args.iface) g c.args.now) c.args.self.now.courses) c.get.ensures c.in_ok-pass.ensures.courses
