use Rattle.std.proofs.Common.{◌≡◌, ◌∙◌, ◌∷◌, ap, length, map, rules, subst, sym}
use Rattle.std.proofs.lemmas.List.{length-map}
use Rattle.std.specs.Vec.Iter.{into_iter_items}
use Rattle.nm_files.specs.Outputs.{HasMadeSome}
use Rattle.nm_files.proofs.Made.{all_placed, one_placed, some_placed}
use Rattle.nm_files.proofs.closed_files.place_each.Goals as goal

pub loop-file-preserved : goal.loop-file-preserved
loop-file-preserved g c =
    let left = into_iter_items c.loop-file.file-iterator in
    let more = into_iter_items c.next.new.self in
    let first = c.in-Some.ensures.steps.0 in
    let next : map g.F.Outputs.closed left ≡ map g.F.Outputs.closed (c.in-Some.file ∷ more) = ap (map g.F.Outputs.closed) first in
    record {
      placed =
          one_placed (g.F.Outputs.made c.args.outputs.now) (g.F.Outputs.made c.loop-file.outputs) (g.F.Outputs.made c.place.new.self)
          (map g.F.Outputs.closed c.args.closed.items) (map g.F.Outputs.closed left) (map g.F.Outputs.closed more)
          (g.F.Outputs.closed c.in-Some.file) next (search rules) c.loop-file.invariant.placed;
    }

pub returns-clause-placed : goal.returns-clause-placed
returns-clause-placed g c files whole =
    let left = into_iter_items c.loop-file.file-iterator in
    let none : length left ≡ 0 = let h = c.in-None.ensures.steps.0 in search rules in
    all_placed (g.F.Outputs.made c.args.outputs.now) (g.F.Outputs.made c.loop-file.outputs) (map g.F.Outputs.closed c.args.closed.items)
    (map g.F.Outputs.closed left) files (length-map left g.F.Outputs.closed ∙ none) c.loop-file.invariant.placed whole

pub returns-clause-some : goal.returns-clause-some
returns-clause-some g c files whole =
    some_placed (g.F.Outputs.made c.args.outputs.now) (g.F.Outputs.made c.loop-file.outputs) (map g.F.Outputs.closed c.args.closed.items)
    (map g.F.Outputs.closed (into_iter_items c.loop-file.file-iterator)) files c.loop-file.invariant.placed whole

pub returns-in_err-place-clause-some : goal.returns-in_err-place-clause-some
returns-in_err-place-clause-some g c files whole =
    subst (λ made. HasMadeSome (g.F.Outputs.made c.args.outputs.now) made files) (sym c.in_err-place.ensures.kept)
    (some_placed (g.F.Outputs.made c.args.outputs.now) (g.F.Outputs.made c.loop-file.outputs) (map g.F.Outputs.closed c.args.closed.items)
    (map g.F.Outputs.closed (into_iter_items c.loop-file.file-iterator)) files c.loop-file.invariant.placed whole)
