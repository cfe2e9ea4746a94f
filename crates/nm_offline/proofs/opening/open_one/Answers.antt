use Rattle.std.proofs.Common.{◌≡◌, ℕ, [], IfSome, Some, slice_get, true, sym, ◌∙◌, ap, subst, rules}
use Rattle.std.specs.Io.Buffered.{reader_remaining}
use Rattle.std.proofs.lemmas.Result.{IfErr-weaker}
use Rattle.nm_base.specs.declared.fault.Fault.TheVariants.{Refused}
use Rattle.nm_files.specs.Checked.{DiffersIn, IsUnlike}
use Rattle.nm_files.specs.Names.{file_name}
use Rattle.nm_files.specs.declared.checked_file.CheckCause.TheVariants.{Differs}
use Rattle.nm_pcap.specs.Format.{file_header}
use Rattle.nm_topology.specs.PartValues.{IfaceValue}
use Rattle.nm_offline.specs.Input.{inputs_seen}
use Rattle.nm_offline.proofs.Verifying.{unlike_header}
use Rattle.nm_offline.proofs.opening.open_one.Goals as goal

pub returns-in-Ok-clause-read : goal.returns-in-Ok-clause-read
returns-in-Ok-clause-read g c = λ texts here read.
    let t = c.args.folder.now.topology.now in
    let n = c.iface_number-iface.result in
    let left = reader_remaining g.I.File.Read.remaining in
    let same : n ≡ c.args.number = search rules in
    let there : slice_get t.ifaces c.args.number ≡ Some c.iface.result.now = ap (slice_get t.ifaces) (sym same) ∙ c.iface.ensures in
    let asked : g.C.Choice.chooses c.args.folder.now.choice t c.args.number c.iface.result.now ≡ true = search rules in
    let has : IfSome ((inputs_seen g.I.Inputs.seen c.args.inputs.now).text (file_name c.args.folder.now.name.now c.iface.result.now)) (λ text. left c.in-Ok.reader ≡ Some text) = search rules in
    c.open-in-Ok.ensures.read texts (subst (λ k. IfSome (texts k) (λ text. left c.in-Ok.reader ≡ Some text)) (sym same) (subst (λ o. IfSome o (λ text. left c.in-Ok.reader ≡ Some text)) (sym (here c.iface.result.now there asked)) has)) read

pub returns-in-Ok-clause-unlike : goal.returns-in-Ok-clause-unlike
returns-in-Ok-clause-unlike g c = λ texts here.
    let t = c.args.folder.now.topology.now in
    let n = c.iface_number-iface.result in
    let left = reader_remaining g.I.File.Read.remaining in
    let same : n ≡ c.args.number = search rules in
    let there : slice_get t.ifaces c.args.number ≡ Some c.iface.result.now = ap (slice_get t.ifaces) (sym same) ∙ c.iface.ensures in
    let asked : g.C.Choice.chooses c.args.folder.now.choice t c.args.number c.iface.result.now ≡ true = search rules in
    let has : IfSome ((inputs_seen g.I.Inputs.seen c.args.inputs.now).text (file_name c.args.folder.now.name.now c.iface.result.now)) (λ text. left c.in-Ok.reader ≡ Some text) = search rules in
    IfErr-weaker c.open-in-Ok.result (IsUnlike texts n [] file_header)
    (λ f. (iface octet : ℕ) → f ≡ Refused (Differs iface octet) → (iface ≡ c.args.number) × ((x : IfaceValue) → slice_get t.ifaces c.args.number ≡ Some x → g.C.Choice.chooses c.args.folder.now.choice t c.args.number x ≡ true) × DiffersIn texts c.args.number [] file_header octet)
    (λ f unlike iface octet is. unlike_header t (g.C.Choice.chooses c.args.folder.now.choice t c.args.number) texts c.args.number c.iface.result.now f iface octet there asked is (subst (λ k. IsUnlike texts k [] file_header f) same unlike))
    (c.open-in-Ok.ensures.unlike texts (subst (λ k. IfSome (texts k) (λ text. left c.in-Ok.reader ≡ Some text)) (sym same) (subst (λ o. IfSome o (λ text. left c.in-Ok.reader ≡ Some text)) (sym (here c.iface.result.now there asked)) has)))

pub returns-clause-unlike : goal.returns-clause-unlike
returns-clause-unlike g c = λ texts here iface octet is.
    let t = c.args.folder.now.topology.now in
    let n = c.iface_number-iface.result in
    let same : n ≡ c.args.number = search rules in
    let there : slice_get t.ifaces c.args.number ≡ Some c.iface.result.now = ap (slice_get t.ifaces) (sym same) ∙ c.iface.ensures in
    let asked : g.C.Choice.chooses c.args.folder.now.choice t c.args.number c.iface.result.now ≡ true = search rules in
    unlike_header t (g.C.Choice.chooses c.args.folder.now.choice t c.args.number) texts c.args.number c.iface.result.now c.check_fault.result iface octet there asked is (c.check_fault.ensures.unlike c.args.number texts [] file_header).0
