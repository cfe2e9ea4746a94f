use Rattle.std.proofs.Common.{◌≡◌, ◌<◌, ◌≤◌, ◌++◌, ◌∷◌, [], IfErr, None, Some, length, slice_get, slice_set, take, true, sym, ◌∙◌, ap, subst, arith, rules}
use Rattle.std.proofs.lemmas.Option.{slice_get-get_or, slice_get_within}
use Rattle.nm_pcap.specs.Format.{record_octets}
use Rattle.nm_files.specs.Checked.{HaveRead, IsUnlike, is_looked_at}
use Rattle.nm_files.specs.TraceFile.{octets_after}
use Rattle.nm_files.proofs.Checked.{both_ok, first_as_set, lesser_read, looked_set, looked_there, none_read, none_set, one_read, on_any_error, on_error, only_one}
use Rattle.nm_files.proofs.checked_files.CheckedFiles.put.Goals as goal

pub returns-then-number-len-clause-read : goal.returns-then-number-len-clause-read
returns-then-number-len-clause-read g c = λ texts before read.
    let files = c.args.self.now.files.items in
    let r = c.args.record.now in
    let far : length files ≤ r.iface = search rules in
    none_read texts g.B.Read.remaining before r files (λ file at. let low = slice_get_within files r.iface (Some file) at in absurd (omega (arith, far, low))) read

pub returns-in_default-clause-read : goal.returns-in_default-clause-read
returns-in_default-clause-read g c = λ texts before read.
    let files = c.args.self.now.files.items in
    let r = c.args.record.now in
    let k = c.index-number.result in
    let low : k < length files = search rules in
    let at = slice_get-get_or files k c.index_mut.result.now low ∙ ap (λ z. Some z) (sym c.index_mut.ensures.value) in
    let none : c.index_mut.result.now ≡ None = search rules in
    rw (none_set files k c.index_mut.result.now at) (none_read texts g.B.Read.remaining before r files (λ file is. only_one file (sym (sym (ap (slice_get files) c.index-number.ensures) ∙ at ∙ ap (λ z. Some z) none) ∙ is)) read)

pub returns-clause-looked : goal.returns-clause-looked
returns-clause-looked g c =
    let files = c.args.self.now.files.items in
    let k = c.index-number.result in
    let low : k < length files = search rules in
    let own : c.index_mut.result.now ≡ Some c.in-Some.file = search rules in
    looked_set files k c.in-Some.file c.put.new.self (slice_get-get_or files k c.index_mut.result.now low ∙ ap (λ z. Some z) (sym c.index_mut.ensures.value ∙ own))

pub returns-clause-read : goal.returns-clause-read
returns-clause-read g c = λ texts before read.
    let files = c.args.self.now.files.items in
    let k = c.index-number.result in
    let low : k < length files = search rules in
    let own : c.index_mut.result.now ≡ Some c.in-Some.file = search rules in
    let at = slice_get-get_or files k c.index_mut.result.now low ∙ ap (λ z. Some z) (sym c.index_mut.ensures.value ∙ own) in
    both_ok c.put.result (λ now count. one_read texts g.B.Read.remaining before c.args.record.now files k c.in-Some.file c.put.new.self c.index-number.ensures at read now count)
    (c.put.ensures.read texts k (octets_after k before) (read.each k c.in-Some.file at).0) c.put.ensures.records

pub returns-clause-unlike : goal.returns-clause-unlike
returns-clause-unlike g c = λ texts before read.
    let files = c.args.self.now.files.items in
    let r = c.args.record.now in
    let k = c.index-number.result in
    let low : k < length files = search rules in
    let own : c.index_mut.result.now ≡ Some c.in-Some.file = search rules in
    let at = slice_get-get_or files k c.index_mut.result.now low ∙ ap (λ z. Some z) (sym c.index_mut.ensures.value ∙ own) in
    subst (λ m. IfErr c.put.result (IsUnlike texts m (octets_after m before) (record_octets r))) c.index-number.ensures
    (c.put.ensures.unlike texts k (octets_after k before) (read.each k c.in-Some.file at).0)

pub returns-clause-own : goal.returns-clause-own
returns-clause-own g c =
    let files = c.args.self.now.files.items in
    let k = c.index-number.result in
    let low : k < length files = search rules in
    let own : c.index_mut.result.now ≡ Some c.in-Some.file = search rules in
    let at = slice_get-get_or files k c.index_mut.result.now low ∙ ap (λ z. Some z) (sym c.index_mut.ensures.value ∙ own) in
    on_error c.put.result (subst (λ m. is_looked_at files m ≡ true) c.index-number.ensures (looked_there files k c.in-Some.file at))

pub returns-clause-lesser : goal.returns-clause-lesser
returns-clause-lesser g c = λ texts before read.
    let files = c.args.self.now.files.items in
    let r = c.args.record.now in
    let left = g.B.Read.remaining in
    let new = c.put.new.self in
    on_any_error c.put.result (subst (HaveRead texts left (before ++ r ∷ [])) (sym (ap (λ m. take r.iface (slice_set files m (Some new))) c.index-number.ensures ∙ first_as_set files r.iface (Some new)))
    (lesser_read texts left before r files read))
