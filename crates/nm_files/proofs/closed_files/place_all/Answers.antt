use Rattle.std.proofs.Common.{◌≡◌, ◌∙◌, ◌∷◌, [], ◌++◌, ap, length, map, rules, subst, sym}
use Rattle.std.proofs.lemmas.List.{append_assoc, length-map}
use Rattle.std.specs.Vec.Iter.{into_iter_items}
use Rattle.nm_files.specs.Outputs.{HasMadeSome}
use Rattle.nm_files.proofs.Made.{all_placed, one_placed, some_placed}
use Rattle.nm_files.specs.Folder.{IsOneOf}
use Rattle.nm_files.proofs.Folders.{one_of}
use Rattle.nm_files.proofs.closed_files.place_all.Goals as goal

pub loop-one-preserved : goal.loop-one-preserved
loop-one-preserved g c =
    let left = into_iter_items c.loop-one.one-iterator in
    let more = into_iter_items c.next.new.self in
    let first = c.in-Some.ensures.steps.0 in
    let next : map (λ c. g.F.Outputs.closed c.file) left ≡ map (λ c. g.F.Outputs.closed c.file) (c.in-Some.one ∷ more) = ap (map (λ c. g.F.Outputs.closed c.file)) first in
    record {
      placed =
          one_placed (g.F.Outputs.made c.args.outputs.now) (g.F.Outputs.made c.loop-one.outputs) (g.F.Outputs.made c.place.new.self)
          (map (λ c. g.F.Outputs.closed c.file) c.args.closed.files.items) (map (λ c. g.F.Outputs.closed c.file) left) (map (λ c. g.F.Outputs.closed c.file) more)
          (g.F.Outputs.closed c.in-Some.one.file) next (search rules) c.loop-one.invariant.placed;
      left = c.loop-one.invariant.left ∙ ap (λ l. c.loop-one.yielded ++ l) first ∙ sym (append_assoc c.loop-one.yielded (c.in-Some.one ∷ []) more);
    }

pub returns-clause-placed : goal.returns-clause-placed
returns-clause-placed g c files whole =
    let left = into_iter_items c.loop-one.one-iterator in
    let none : length left ≡ 0 = let h = c.in-None.ensures.steps.0 in search rules in
    all_placed (g.F.Outputs.made c.args.outputs.now) (g.F.Outputs.made c.loop-one.outputs) (map (λ c. g.F.Outputs.closed c.file) c.args.closed.files.items)
    (map (λ c. g.F.Outputs.closed c.file) left) files (length-map left (λ c. g.F.Outputs.closed c.file) ∙ none) c.loop-one.invariant.placed whole

pub returns-clause-some : goal.returns-clause-some
returns-clause-some g c files whole =
    some_placed (g.F.Outputs.made c.args.outputs.now) (g.F.Outputs.made c.loop-one.outputs) (map (λ c. g.F.Outputs.closed c.file) c.args.closed.files.items)
    (map (λ c. g.F.Outputs.closed c.file) (into_iter_items c.loop-one.one-iterator)) files c.loop-one.invariant.placed whole

pub returns-in-Err-clause-some : goal.returns-in-Err-clause-some
returns-in-Err-clause-some g c files whole =
    subst (λ made. HasMadeSome (g.F.Outputs.made c.args.outputs.now) made files) (sym c.in-Err.ensures.kept)
    (some_placed (g.F.Outputs.made c.args.outputs.now) (g.F.Outputs.made c.loop-one.outputs) (map (λ c. g.F.Outputs.closed c.file) c.args.closed.files.items)
    (map (λ c. g.F.Outputs.closed c.file) (into_iter_items c.loop-one.one-iterator)) files c.loop-one.invariant.placed whole)

pub returns-in-Err-clause-told : goal.returns-in-Err-clause-told
returns-in-Err-clause-told g c =
    subst (λ l. IsOneOf (map (λ c. (c.iface, c.written)) l) c.files_fault.result)
    (sym (c.loop-one.invariant.left ∙ ap (λ l. c.loop-one.yielded ++ l) c.in-Some.ensures.steps.0))
    (one_of c.loop-one.yielded (into_iter_items c.next.new.self) c.in-Some.one c.files_fault.result c.files_fault.ensures.kinds)
