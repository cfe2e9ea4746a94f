use Rattle.std.proofs.Common.{◌≡◌, ◌<◌, ◌+◌, ◌∷◌, ◌++◌, [], Some, false, get_or, true, length, take, append-nil, refl, sym, ◌∙◌, ap, subst, arith, rules}
use Rattle.std.proofs.lemmas.List.{append_assoc}
use Rattle.std.proofs.lemmas.Option.{slice_get-get_or}
use Rattle.std.proofs.lemmas.Result.{err_from_is_err_and}
use Rattle.nm_files.specs.Checked.{HaveRead}
use Rattle.nm_files.proofs.Records.{one_more}
use Rattle.nm_files.proofs.checked_files.CheckedFiles.put_all.Goals as goal

pub loop-number-init : goal.loop-number-init
loop-number-init g c = record {
  within = omega arith;
  looked = refl;
  read = λ texts before read. subst (λ l. HaveRead texts g.B.Read.remaining l c.args.self.now.files.items) (sym (append-nil before)) read;
}

pub loop-number-preserved : goal.loop-number-preserved
loop-number-preserved g c =
    let n = c.loop-number.number in
    let records = c.args.records.now in
    let r = c.index-records-number.result in
    let low : n < length records = search rules in
    let at = slice_get-get_or records n r low ∙ ap (λ x. Some x) (sym c.index-records-number.is) in
    record {
      within = omega (arith, low);
      looked = c.in_ok-put.ensures.looked ∙ c.loop-number.invariant.looked;
      read = λ texts before read.
          subst (λ l. HaveRead texts g.B.Read.remaining l c.put.new.self.files.items)
          (append_assoc before (take n records) (r ∷ []) ∙ ap (λ l. before ++ l) (sym (one_more records n (n + 1) r at refl)))
          (c.in_ok-put.ensures.read texts (before ++ take n records) (c.loop-number.invariant.read texts before read));
    }

pub returns-in_err-put-clause-looked : goal.returns-in_err-put-clause-looked
returns-in_err-put-clause-looked g c = c.in_err-put.ensures.looked ∙ c.loop-number.invariant.looked

pub returns-in_err-put-clause-unlike : goal.returns-in_err-put-clause-unlike
returns-in_err-put-clause-unlike g c = λ texts before read.
    let n = c.loop-number.number in
    let records = c.args.records.now in
    let r = c.index-records-number.result in
    let low : n < length records = search rules in
    let p = err_from_is_err_and c.from_residual.result c.from_residual.ensures.1 in
    let was = c.loop-number.invariant.read texts before read in
    rw (p.1, p.2) (record {
      number = n;
      missed = r;
      place = slice_get-get_or records n r low ∙ ap (λ x. Some x) (sym c.index-records-number.is);
      looked = subst (λ l. get_or l r.iface false ≡ true) c.loop-number.invariant.looked c.in_err-put.ensures.own;
      files = c.loop-number.self.files.items;
      same = c.loop-number.invariant.looked;
      read = was;
      unlike = c.in_err-put.ensures.unlike texts (before ++ take n records) was;
    })
