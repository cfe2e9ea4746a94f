use Rattle.std.proofs.Common.{◌≡◌, ◌++◌, ◌∷◌, [], map, append-nil, get_or, sym, ap, ◌∙◌}
use Rattle.std.specs.Prelude.{remove}
use Rattle.std.proofs.lemmas.Option.{get_or_from_slice_get}
use Rattle.nm_measure.specs.CoursesValue.{CoursesValue}
use Rattle.nm_measure.specs.Followed.{closed}
use Rattle.nm_measure.proofs.Coursing.{gone_none, gone_some, left_none, left_some}
use Rattle.nm_measure.proofs.courses.Courses.end.Goals as goal

pub returns-in_default : goal.returns-in_default
returns-in_default c = λ rise.
    let old = c.args.self.now in
    let none = c.place.ensures.none c.in_default.is rise in
    (λ i. record {
      source = old.source;
      under_way = sym (left_none old.source c.args.tag.now old.under_way none) i;
      ended = sym (ap (λ l. old.ended ++ map (closed c.args.end) l) (gone_none old.source c.args.tag.now old.under_way none) ∙ append-nil old.ended) i;
    })

pub returns : goal.returns
returns c = λ rise.
    let old = c.args.self.now in
    let tag = c.args.tag.now in
    let place = c.in-Some.place in
    let found = c.in-Some.ensures.some in
    let course = c.in-Some-remove.course in
    let is : course ≡ found.0 = c.in-Some-remove.ensures.value ∙ ap (λ (o : CoursesValue). get_or o.under_way place course) c.self.view_is
    ∙ get_or_from_slice_get old.under_way place found.0 course found.1 in
    (λ i. record {
      source = (c.self.view_is i).source;
      under_way = (c.in-Some-remove.ensures.items ∙ ap (λ (o : CoursesValue). remove o.under_way place) c.self.view_is ∙ sym (left_some old.source tag old.under_way place found.0 rise found.1 found.2)) i;
      ended = (c.in_ok-push_back.ensures.items ∙ (λ k. (c.self.view_is k).ended ++ closed c.args.end (is k) ∷ []) ∙ sym (ap (λ l. old.ended ++ map (closed c.args.end) l) (gone_some old.source tag old.under_way place found.0 rise found.1 found.2))) i;
    })
