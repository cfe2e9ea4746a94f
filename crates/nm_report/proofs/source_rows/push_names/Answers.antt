use Rattle.std.proofs.Common.{◌≡◌, ◌<◌, ◌++◌, rules, sym, ap, ◌∙◌, subst, arith, append-nil, codes, take}
use Rattle.nm_report.specs.Sources.{measure_names, name_cells}
use Rattle.nm_report.proofs.Pieces.{names_more}
use Rattle.nm_report.proofs.source_rows.push_names.Goals as goal

pub loop-place-init : goal.loop-place-init
loop-place-init c = record {
  within = omega arith;
  names = sym (append-nil c.args.text.now.items);
}

pub loop-place-preserved : goal.loop-place-preserved
loop-place-preserved c =
    let low : c.loop-place.place < 28 = search rules in
    record {
      within = omega (arith, low);
      names = names_more measure_names c.loop-place.place c.name_of.result.now c.args.text.now.items c.loop-place.text.items c.push_text.new.text.items c.push_text-in-loop-place.new.text.items
          c.name_of.ensures c.loop-place.invariant.names c.in_ok-push_text.ensures (c.in_ok-push_text-2.ensures ∙ ap (λ l. c.push_text.new.text.items ++ l) c.as_bytes.ensures.value);
    }

pub returns : goal.returns
returns c =
    let over : c.loop-place.place ≡ 28 = search rules in
    subst (λ n. c.loop-place.text.items ≡ c.args.text.now.items ++ name_cells (take n measure_names)) over c.loop-place.invariant.names
