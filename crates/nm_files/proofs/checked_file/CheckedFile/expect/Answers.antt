use Rattle.std.proofs.Common.{◌≡◌, ◌<◌, ◌++◌, ◌-◌, drop, length, take, sym, ◌∙◌, ap, subst, append-nil, rules}
use Rattle.std.proofs.Math.Seq.{take-add}
use Rattle.std.proofs.lemmas.List.{append_assoc}
use Rattle.nm_files.specs.Checked.{HasRead}
use Rattle.nm_files.proofs.Checked.{all_from, at_first, unlike_here}
use Rattle.nm_files.proofs.checked_file.CheckedFile.expect.Goals as goal

pub loop-at-preserved : goal.loop-at-preserved
loop-at-preserved g c =
    let at = c.loop-at.at in
    let octets = c.args.octets.now in
    record {
      within = search rules;
      read = λ texts n before read.
          subst (λ l. HasRead texts g.B.Read.remaining n l c.read_same.new.self)
          (ap (λ l. (before ++ take at octets) ++ take c.in-Ok.count l) (all_from octets at) ∙ append_assoc before (take at octets) (take c.in-Ok.count (drop at octets)) ∙ ap (λ l. before ++ l) (sym (take-add at c.in-Ok.count octets)))
          (c.in-Ok.ensures.read texts n (before ++ take at octets) (c.loop-at.invariant.read texts n before read));
      records = c.in-Ok.ensures.records ∙ c.loop-at.invariant.records;
    }

pub returns-in-Ok-eq0-clause-unlike : goal.returns-in-Ok-eq0-clause-unlike
returns-in-Ok-eq0-clause-unlike g c = λ texts n before read.
    let at = c.loop-at.at in
    let octets = c.args.octets.now in
    let low : at < length octets = search rules in
    let zero : c.in-Ok-eq0.field-0 ≡ 0 = search rules in
    let was = c.loop-at.invariant.read texts n before read in
    let now = subst (λ l. HasRead texts g.B.Read.remaining n l c.read_same.new.self) (append-nil (before ++ take at octets))
    (subst (λ k. HasRead texts g.B.Read.remaining n ((before ++ take at octets) ++ take k (take (length octets - at) (drop at octets))) c.read_same.new.self) zero (c.in-Ok-eq0.ensures.read texts n (before ++ take at octets) was)) in
    rw c.differs.ensures (
      now.own,
      unlike_here (texts n) (g.B.Read.remaining c.read_same.new.self.reader) before octets at c.read_same.new.self.same low now.same now.rest
          (at_first (texts n) (before ++ take at octets) octets at (c.in-Ok-eq0.ensures.unlike texts n (before ++ take at octets) was zero)),
    )

pub returns-in-Err-clause-unlike : goal.returns-in-Err-clause-unlike
returns-in-Err-clause-unlike g c = λ texts n before read. (c.check_fault.ensures.unlike n texts before c.args.octets.now).0
