use Rattle.std.proofs.Common.{rules, ◌≡◌, ◌<◌, ◌+◌, None, Some, length, map, slice_get, option_map, sym, ◌∙◌, ap, subst, arith}
use Rattle.std.proofs.lemmas.List.{length-map}
use Rattle.std.proofs.lemmas.Option.{slice_get-map, slice_get-get_or}
use Rattle.nm_run.specs.Endings.{fault_of}
use Rattle.nm_run.specs.declared.stop.Stop.TheVariants as stop
use Rattle.nm_run.proofs.ReplicaEndings.{AreSoFar, all_looked_at, one_done, one_failed}
use Rattle.nm_run.proofs.endings.check_endings.Goals as goal
use Rattle.nm_run.proofs.endings.check_endings.Goals.{in-Some+else-ne, in_default}

pub loop-number-preserved : goal.loop-number-preserved
loop-number-preserved g c =
    let all = c.args.ends.now in
    let ends = map (λ e. e.served) all in
    let n = c.loop-number.number in
    let s = c.index-ends-number.result.served in
    let low : n < length all = search rules in
    let here : slice_get ends n ≡ Some s =
    slice_get-map (λ e. e.served) all n
    ∙ ap (option_map (λ e. e.served)) (slice_get-get_or all n c.index-ends-number.result low ∙ ap (λ e. Some e) (sym c.index-ends-number.is)) in
    record {
      within = omega (arith, low);
      so_far = elim c.match-fault_of.branch [
        | in-Some+else-ne w ↦
            let failed : fault_of s ≡ Some stop.Net = search rules in
            subst (AreSoFar ends (n + 1)) (sym w.outcome-is) (one_failed ends n c.loop-number.outcome s c.loop-number.invariant.so_far here failed)
        | in_default w ↦
            let none : fault_of s ≡ None = search rules in
            subst (AreSoFar ends (n + 1)) (sym w.outcome-is) (one_done ends n c.loop-number.outcome s c.loop-number.invariant.so_far here none)
      ];
    }

pub returns : goal.returns
returns g c =
    let all = c.args.ends.now in
    let end : c.loop-number.number ≡ length all = search rules in
    all_looked_at (map (λ e. e.served) all) c.loop-number.number c.loop-number.outcome (end ∙ sym (length-map all (λ e. e.served))) c.loop-number.invariant.so_far
