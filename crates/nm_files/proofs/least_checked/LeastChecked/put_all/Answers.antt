use Rattle.std.proofs.Common.{◌<◌, ◌≤◌, ◌+◌, ◌∷◌, ◌++◌, [], Some, length, take, append-nil, refl, sym, ◌∙◌, ap, subst, arith, rules}
use Rattle.std.proofs.lemmas.List.{append_assoc, take_all}
use Rattle.std.proofs.lemmas.Option.{slice_get-get_or}
use Rattle.nm_files.specs.Least.{AreReadBelow}
use Rattle.nm_files.proofs.Records.{one_more}
use Rattle.nm_files.proofs.least_checked.LeastChecked.put_all.Goals as goal

pub loop-number-init : goal.loop-number-init
loop-number-init g c = record {
  within = omega arith;
  read = λ texts begun before read. subst (λ l. AreReadBelow texts g.B.Read.remaining begun l c.args.self.now) (sym (append-nil before)) read;
}

pub loop-number-preserved : goal.loop-number-preserved
loop-number-preserved g c =
    let n = c.loop-number.number in
    let records = c.args.records.now in
    let r = c.index-records-number.result in
    let low : n < length records = search rules in
    let at = slice_get-get_or records n r low ∙ ap (λ x. Some x) (sym c.index-records-number.is) in
    record {
      within = omega (arith, low);
      read = λ texts begun before read.
          subst (λ l. AreReadBelow texts g.B.Read.remaining begun l c.put.new.self)
          (append_assoc before (take n records) (r ∷ []) ∙ ap (λ l. before ++ l) (sym (one_more records n (n + 1) r at refl)))
          (c.in_ok-put.ensures texts begun (before ++ take n records) (c.loop-number.invariant.read texts begun before read));
    }

pub returns : goal.returns
returns g c = λ texts begun before read.
    let records = c.args.records.now in
    let over : length records ≤ c.loop-number.number = search rules in
    subst (λ l. AreReadBelow texts g.B.Read.remaining begun (before ++ l) c.loop-number.self) (take_all c.loop-number.number records over) (c.loop-number.invariant.read texts begun before read)
