use Rattle.std.proofs.Common.{◌≡◌, ◌++◌, ◌∷◌, [], slice_set, get_or, sym, ap, ◌∙◌}
use Rattle.std.proofs.lemmas.Option.{get_or_from_slice_get}
use Rattle.nm_measure.specs.CourseValue.{CourseValue}
use Rattle.nm_measure.specs.CoursesValue.{CoursesValue}
use Rattle.nm_measure.specs.contracts.courses.Course.{the_view}
use Rattle.nm_measure.proofs.Coursing.{hop_none, hop_some}
use Rattle.nm_measure.proofs.courses.Courses.pass.Goals as goal

pub returns-in_default : goal.returns-in_default
returns-in_default c = λ rise. (λ i. record {
  source = c.args.self.now.source;
  under_way = sym (hop_none c.args.self.now.source c.args.tag.now c.args.hop c.args.self.now.under_way (c.place.ensures.none c.in_default.is rise)) i;
  ended = c.args.self.now.ended;
})

pub returns : goal.returns
returns c = λ rise.
    let old = c.args.self.now in
    let hop = c.args.hop in
    let place = c.in-Some.place in
    let found = c.in-Some.ensures.some in
    let x = c.course.inside in
    let v : CourseValue = record { number = x.number; sent = x.sent; hops = c.push.new.self.items } in
    let is : the_view x ≡ found.0 = c.course.view_is ∙ c.in-Some-get_mut.ensures.value ∙ ap (λ (o : CoursesValue). get_or o.under_way place c.in-Some-get_mut.course.now) c.self.view_is
    ∙ get_or_from_slice_get old.under_way place found.0 c.in-Some-get_mut.course.now found.1 in
    let v_is : v ≡ record { number = found.0.number; sent = found.0.sent; hops = found.0.hops ++ hop ∷ [] } =
    (λ i. record { number = (is i).number; sent = (is i).sent; hops = (c.in_ok-push.ensures.items ∙ ap (λ (z : CourseValue). z.hops ++ hop ∷ []) is) i }) in
    (λ i. record {
      source = (c.self.view_is i).source;
      under_way = (ap (λ (o : CoursesValue). slice_set o.under_way place v) c.self.view_is ∙ sym (hop_some old.source c.args.tag.now hop old.under_way place found.0 v rise found.1 found.2 v_is)) i;
      ended = (c.self.view_is i).ended;
    })
