use Rattle.std.proofs.Common.{rules, of_calls, ◌≤◌, ltb, arith, length, ap, ◌∙◌}
use Rattle.std.proofs.lemmas.Fn.{always_returns_same}
use Rattle.std.proofs.lemmas.List.Sorted.{IsPartitionedBy-ltb}
use Rattle.std.proofs.lemmas.Option.{get_or_from_slice_get, slice_get_within}
use Rattle.nm_measure.specs.CourseValue.{CourseValue}
use Rattle.nm_measure.proofs.Coursing.{found_none}
use Rattle.nm_measure.proofs.Risings.{rise_climbs}
use Rattle.nm_measure.proofs.courses.Courses.place.Goals as goal

pub returns-in_default-clause-none : goal.returns-in_default-clause-none
returns-in_default-clause-none c = rw (← c.self.view_is) (λ none rise i x at.
    let items = c.self.inside.under_way.items in
    let parted = IsPartitionedBy-ltb (λ (y : CourseValue). y.number) items c.args.tag.now.number (rise_climbs (λ (y : CourseValue). y.number) items rise) in
    let point = c.partition_point-place.ensures.partitioned (λ (y : CourseValue). ltb y.number c.args.tag.now.number) (always_returns_same _ _ _ (λ a r f k. search (rules, of_calls))) parted in
    found_none c.self.inside.source c.args.tag.now items c.partition_point-place.result point
    (λ y there same. c.if-course-number.false (
    ap (λ (z : CourseValue). z.number) (c.course.view_is ∙ c.in-Some.ensures.lookup ∙ get_or_from_slice_get items c.partition_point-place.result y c.in-Some.course.now there) ∙ same)) rise i x at)

pub returns-in_default-2-clause-none : goal.returns-in_default-2-clause-none
returns-in_default-2-clause-none c = rw (← c.self.view_is) (λ none rise i x at.
    let items = c.self.inside.under_way.items in
    let parted = IsPartitionedBy-ltb (λ (y : CourseValue). y.number) items c.args.tag.now.number (rise_climbs (λ (y : CourseValue). y.number) items rise) in
    let point = c.partition_point-place.ensures.partitioned (λ (y : CourseValue). ltb y.number c.args.tag.now.number) (always_returns_same _ _ _ (λ a r f k. search (rules, of_calls))) parted in
    found_none c.self.inside.source c.args.tag.now items c.partition_point-place.result point
    (λ y there same. let past : length items ≤ c.partition_point-place.result = search rules in let within = slice_get_within items c.partition_point-place.result y there in omega (arith, past, within)) rise i x at)
