use Rattle.std.proofs.Common.{◌<◌, ◌≤◌, None, get_or, length, map, option_map, sym, ◌∙◌, subst, arith, rules}
use Rattle.nm_files.specs.Files.{HoldsFile}
use Rattle.std.proofs.lemmas.Result.{err_from_is_err_and}
use Rattle.nm_files.specs.Folder.{IsClosedAs, IsOwnFault, chosen_file}
use Rattle.nm_files.specs.Names.{file_name}
use Rattle.nm_files.proofs.Folders.{element, one_closed}
use Rattle.nm_files.proofs.Made.{all_whole, whole_more}
use Rattle.nm_files.proofs.folder.Folder.close.Goals as goal

pub loop-number-preserved : goal.loop-number-preserved
loop-number-preserved g c =
    let n = c.loop-number.number in
    let t = c.args.self.now.topology.now in
    let folder = c.args.self.now.name.now in
    let chooses = g.C.Choice.chooses c.args.self.now.choice t in
    let seen = g.F.File.Sink.seen in
    let made = g.F.Outputs.made c.args.outputs.now in
    let low : n < length t.ifaces = search rules in
    let is = element t.ifaces n low in
    let same = c.loop-number.invariant.same in
    record {
      within = omega (arith, low);
      left = λ m far. c.in_ok-closed.ensures.others m (omega (arith, far)) ∙ c.loop-number.invariant.left m (omega (arith, far));
      whole = λ octets held.
          let count = c.requires in
          let there = held.each n is.0 (omega (arith, low, count)) is.1 in
          let now = subst (HoldsFile seen made (chooses n is.0) (octets n)) (sym (c.loop-number.invariant.left n (omega arith))) there in
          let is_closed = c.in_ok-closed.ensures.closed is.0 (chooses n is.0) (octets n) is.1
          (subst (λ m. HoldsFile seen m (chooses n is.0) (octets n) (get_or c.loop-number.files.files.items n None)) (sym same) now) in
          whole_more (λ c. g.F.Outputs.closed c.file) (chosen_file chooses folder octets) t.ifaces n is.0 made c.loop-number.all.files.items c.push.new.self.files.items c.in_ok-closed.closed is.1 c.in_ok-push.ensures
          (one_closed (λ c. g.F.Outputs.closed c.file) made chooses folder octets n is.0 c.in_ok-closed.closed
          (subst (λ m. IsClosedAs m (chooses n is.0) (file_name folder is.0, octets n) (option_map (λ c. g.F.Outputs.closed c.file) c.in_ok-closed.closed)) same is_closed))
          (c.loop-number.invariant.whole octets held);
      same = c.in_ok-closed.ensures.same ∙ same;
    }

pub returns-clause-whole : goal.returns-clause-whole
returns-clause-whole g c = λ octets held.
    let n = c.loop-number.number in
    let t = c.args.self.now.topology.now in
    let low = c.loop-number.invariant.within in
    let over : length t.ifaces ≤ n = search rules in
    all_whole (chosen_file (g.C.Choice.chooses c.args.self.now.choice t) c.args.self.now.name.now octets) t.ifaces n (g.F.Outputs.made c.args.outputs.now)
    (map (λ c. g.F.Outputs.closed c.file) c.loop-number.all.files.items) (omega (arith, low, over)) (c.loop-number.invariant.whole octets held)

pub returns-in_err-closed-clause-told : goal.returns-in_err-closed-clause-told
returns-in_err-closed-clause-told g c =
    let p = err_from_is_err_and c.from_residual.result c.from_residual.ensures.1 in
    let n = c.loop-number.number in
    rw (p.1, p.2) (n, subst (λ f. IsOwnFault n f c.in_err-closed.field-0.0) (c.loop-number.invariant.left n (omega arith)) c.in_err-closed.ensures.told)

pub returns-in_err-push-clause-told : goal.returns-in_err-push-clause-told
returns-in_err-push-clause-told g c =
    let p = err_from_is_err_and c.from_residual-in_err-push.result c.from_residual-in_err-push.ensures.1 in
    rw (p.1, p.2) (0, tt)
