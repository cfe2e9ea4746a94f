use Rattle.std.proofs.Common.{map, string_bytes, sym, subst}
use Rattle.nm_files.specs.Outputs.{AreWhole, HasMade, HasMadeSome}
use Rattle.nm_offline.specs.All.{asked_files}
use Rattle.nm_offline.proofs.all.make_files.Goals as goal

pub returns-clause-made : goal.returns-clause-made
returns-clause-made g c = λ records trace.
    let folder = c.args.folder.now in
    let files = asked_files folder.topology.now (map (λ n. string_bytes n) folder.choice.names.now) folder.name.now records in
    let same = c.in_ok-closed.ensures.same in
    subst (λ m. HasMade m (g.F.Outputs.made c.place_all.new.outputs) files) same
    (c.in_ok-place_all.ensures.placed files (subst (λ m. AreWhole m (map (λ c. g.F.Outputs.closed c.file) c.in_ok-closed.closed.files.items) files) (sym same) (c.in_ok-closed.ensures.whole records trace)))

pub returns-clause-some : goal.returns-clause-some
returns-clause-some g c = λ records trace.
    let folder = c.args.folder.now in
    let files = asked_files folder.topology.now (map (λ n. string_bytes n) folder.choice.names.now) folder.name.now records in
    let same = c.in_ok-closed.ensures.same in
    subst (λ m. HasMadeSome m (g.F.Outputs.made c.place_all.new.outputs) files) same
    (c.place_all.ensures.some files (subst (λ m. AreWhole m (map (λ c. g.F.Outputs.closed c.file) c.in_ok-closed.closed.files.items) files) (sym same) (c.in_ok-closed.ensures.whole records trace)))

pub returns-in_err-place_all-clause-some : goal.returns-in_err-place_all-clause-some
returns-in_err-place_all-clause-some g c = λ records trace.
    let folder = c.args.folder.now in
    let files = asked_files folder.topology.now (map (λ n. string_bytes n) folder.choice.names.now) folder.name.now records in
    let same = c.in_ok-closed.ensures.same in
    subst (λ m. HasMadeSome m (g.F.Outputs.made c.place_all.new.outputs) files) same
    (c.place_all.ensures.some files (subst (λ m. AreWhole m (map (λ c. g.F.Outputs.closed c.file) c.in_ok-closed.closed.files.items) files) (sym same) (c.in_ok-closed.ensures.whole records trace)))
