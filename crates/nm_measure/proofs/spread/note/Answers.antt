use Rattle.std.proofs.Common.{◌≡◌, ◌<◌, ◌≤◌, ◌+◌, ◌∙◌, ap, cond, eqb, get_or, length, List, insert, true, false, ltb, of_calls, rules, subst, sym, arith}
use Rattle.std.proofs.lemmas.Bool.{ltb-false, ltb-true}
use Rattle.std.specs.List.Sorted.{IsNonDecreasingBy, IsPartitionPoint}
use Rattle.std.proofs.lemmas.Fn.{always_returns_same}
use Rattle.std.proofs.lemmas.List.{get_or_default}
use Rattle.std.proofs.lemmas.List.Edits.{length-insert}
use Rattle.std.proofs.lemmas.List.Sorted.{IsPartitionedBy-ltb}
use Rattle.nm_measure.specs.declared.spread.Row.{Row}
use Rattle.nm_measure.specs.Spread.{DelaysRise}
use Rattle.nm_measure.proofs.Risings.{rise_apart, rise_from, rise_inserted}
use Rattle.nm_measure.proofs.Rows.{behind, climbs, none_same}
use Rattle.nm_measure.proofs.spread.note.Goals as goal
use Rattle.nm_measure.proofs.spread.note.Goals.{else-place-len-via-then-place-len+else-index-delay, else-place-len-via-else-place-len}

pub returns-clause-rise : goal.returns-clause-rise
returns-clause-rise c =
    let rows = c.args.rows.now.items in
    let place = c.partition_point-place.result in
    let row : Row = record { delay = c.args.delay; times = c.args.times } in
    let rise : IsNonDecreasingBy (λ (r : Row). r.delay) c.deref.result.now = rw c.deref.ensures.value (climbs c.args.rows.now.items c.requires.rise) in
    let parted = IsPartitionedBy-ltb (λ (r : Row). r.delay) c.deref.result.now c.args.delay rise in
    let point = c.partition_point-place.ensures.partitioned (λ (r : Row). ltb r.delay c.args.delay) (always_returns_same _ _ _ (λ a r f k. search (rules, of_calls))) parted in
    let found : IsPartitionPoint (λ (r : Row). ltb r.delay c.args.delay ≡ true) (λ (r : Row). ltb r.delay c.args.delay ≡ false) rows place = rw c.deref.ensures.value at point in
    let apart : (r : Row) → place < length rows → (get_or rows place r).delay ≡ c.args.delay → ⊥ = λ r low same.
    elim c.else-place-len.branch [
      | else-place-len-via-then-place-len+else-index-delay w ↦
          w.if-index-delay.false (ap (λ (x : Row). x.delay) (w.index.ensures ∙ get_or_default rows place w.index.result.now r low) ∙ same)
      | else-place-len-via-else-place-len w ↦
          let count = c.deref.ensures.len in
          let all = ap length c.deref.ensures.value in
          let past = w.if-place-len.false in
          omega (arith, count, all, past, low, c.len.ensures)
    ] in
    let within = subst (λ (l : List Row). place ≤ length l) c.deref.ensures.value c.partition_point-place.ensures.bound in
    let inserted = rise_inserted (λ (r : Row). r.delay) rows place row within (rise_from (λ (r : Row). r.delay) rows c.requires.rise)
    (λ k d l m. ltb-true (get_or rows k d).delay c.args.delay (found.0 k d (omega arith) l))
    (λ k d l m. behind rows place c.args.delay (climbs rows c.requires.rise) (λ n e q w. ltb-false (get_or rows n e).delay c.args.delay (found.1 n e q w)) apart k d l m) in
    subst DelaysRise (sym c.in_ok-insert.ensures.items) (λ i j r lt low. rise_apart (λ (z : Row). z.delay) (insert rows place row) i j r lt low inserted)

pub returns-clause-kinds : goal.returns-clause-kinds
returns-clause-kinds c =
    let rows = c.args.rows.now.items in
    let place = c.partition_point-place.result in
    let rise : IsNonDecreasingBy (λ (r : Row). r.delay) c.deref.result.now = rw c.deref.ensures.value (climbs c.args.rows.now.items c.requires.rise) in
    let parted = IsPartitionedBy-ltb (λ (r : Row). r.delay) c.deref.result.now c.args.delay rise in
    let point = c.partition_point-place.ensures.partitioned (λ (r : Row). ltb r.delay c.args.delay) (always_returns_same _ _ _ (λ a r f k. search (rules, of_calls))) parted in
    let apart : (r : Row) → place < length rows → (get_or rows place r).delay ≡ c.args.delay → ⊥ = λ r low same.
    elim c.else-place-len.branch [
      | else-place-len-via-then-place-len+else-index-delay w ↦
          w.if-index-delay.false (ap (λ (x : Row). x.delay) (w.index.ensures ∙ get_or_default rows place w.index.result.now r low) ∙ same)
      | else-place-len-via-else-place-len w ↦
          let count = c.deref.ensures.len in
          let all = ap length c.deref.ensures.value in
          let past = w.if-place-len.false in
          omega (arith, count, all, past, low, c.len.ensures)
    ] in
    let within = subst (λ (l : List Row). place ≤ length l) c.deref.ensures.value c.partition_point-place.ensures.bound in
    let none = none_same rows place c.args.delay (climbs rows c.requires.rise) (rw c.deref.ensures.value at point) apart in
    ap length c.in_ok-insert.ensures.items ∙ length-insert rows place _ within ∙ ap (λ n. length rows + cond (eqb n 0) 1 0) (sym none)
