use Rattle.std.proofs.Common.{◌≡◌, ◌<◌, IfErr, IfSome, OnOk, Some, length, true, sym, ◌∙◌, ap, subst, rules}
use Rattle.std.proofs.lemmas.Option.{slice_get-get_or}
use Rattle.std.proofs.lemmas.Result.{on_ok_weaker}
use Rattle.nm_files.specs.Checked.{IsLonger, is_looked_at}
use Rattle.nm_files.specs.TraceFile.{octets_after}
use Rattle.nm_files.proofs.Checked.{looked_set, looked_there, on_error, still_read}
use Rattle.nm_files.proofs.checked_files.CheckedFiles.finish.Goals as goal

pub returns-clause-looked : goal.returns-clause-looked
returns-clause-looked g c =
    let files = c.args.self.now.files.items in
    let k = c.index-number.result in
    let low : k < length files = search rules in
    let own : c.index_mut.result.now ≡ Some c.in-Some.file = search rules in
    looked_set files k c.in-Some.file c.finish.new.self (slice_get-get_or files k c.index_mut.result.now low ∙ ap (λ z. Some z) (sym c.index_mut.ensures.value ∙ own))

pub returns-clause-whole : goal.returns-clause-whole
returns-clause-whole g c = λ texts records read.
    let files = c.args.self.now.files.items in
    let k = c.index-number.result in
    let low : k < length files = search rules in
    let own : c.index_mut.result.now ≡ Some c.in-Some.file = search rules in
    let at = slice_get-get_or files k c.index_mut.result.now low ∙ ap (λ z. Some z) (sym c.index_mut.ensures.value ∙ own) in
    on_ok_weaker c.finish.result (λ whole there. whole)
    (subst (λ m. OnOk c.finish.result (IfSome (texts m) (λ text. text ≡ octets_after m records))) c.index-number.ensures
    (c.finish.ensures.whole texts k (octets_after k records) (read.each k c.in-Some.file at).0))

pub returns-clause-longer : goal.returns-clause-longer
returns-clause-longer g c = λ texts records read.
    let files = c.args.self.now.files.items in
    let k = c.index-number.result in
    let low : k < length files = search rules in
    let own : c.index_mut.result.now ≡ Some c.in-Some.file = search rules in
    let at = slice_get-get_or files k c.index_mut.result.now low ∙ ap (λ z. Some z) (sym c.index_mut.ensures.value ∙ own) in
    subst (λ m. IfErr c.finish.result (IsLonger texts m (octets_after m records))) c.index-number.ensures
    (c.finish.ensures.longer texts k (octets_after k records) (read.each k c.in-Some.file at).0)

pub returns-clause-read : goal.returns-clause-read
returns-clause-read g c = λ texts records read.
    let files = c.args.self.now.files.items in
    let k = c.index-number.result in
    let low : k < length files = search rules in
    let own : c.index_mut.result.now ≡ Some c.in-Some.file = search rules in
    let at = slice_get-get_or files k c.index_mut.result.now low ∙ ap (λ z. Some z) (sym c.index_mut.ensures.value ∙ own) in
    still_read texts g.B.Read.remaining records files k c.in-Some.file c.finish.new.self at read
    (c.finish.ensures.read texts k (octets_after k records) (read.each k c.in-Some.file at).0) c.finish.ensures.counts.0

pub returns-clause-own : goal.returns-clause-own
returns-clause-own g c =
    let files = c.args.self.now.files.items in
    let k = c.index-number.result in
    let low : k < length files = search rules in
    let own : c.index_mut.result.now ≡ Some c.in-Some.file = search rules in
    let at = slice_get-get_or files k c.index_mut.result.now low ∙ ap (λ z. Some z) (sym c.index_mut.ensures.value ∙ own) in
    on_error c.finish.result (subst (λ m. is_looked_at files m ≡ true) c.index-number.ensures (looked_there files k c.in-Some.file at))
