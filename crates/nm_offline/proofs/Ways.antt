-- Records that go some ways.
use Rattle.std.proofs.Common.{◌≡◌, ℕ, false, true, cond, List, [], ◌∷◌, ◌++◌, ap, ◌∙◌}
use Rattle.std.proofs.lemmas.List.Elements.{filter-append}
use Rattle.nm_base.specs.declared.record.Record.{Record}
use Rattle.nm_command.specs.declared.ways.Ways.{Ways}
use Rattle.nm_pcap.specs.declared.form.Form.{Form}
use Rattle.nm_pcap.proofs.Forms.{written-nil}
use Rattle.nm_files.specs.TraceFile.{written_at}
use Rattle.nm_offline.specs.Traces.{goes, going}

pub going_both : (ways : Ways) (a b : List (Record (List ℕ))) → going ways (a ++ b) ≡ going ways a ++ going ways b
going_both ways a b = filter-append (λ r. goes ways r.dir) a b

-- of a record that goes another way nothing is written
pub nothing_going : (form : Form) (iface : ℕ) (ways : Ways) (r : Record (List ℕ)) → goes ways r.dir ≡ false → written_at form iface (going ways (r ∷ [])) ≡ []
nothing_going form iface ways r other = ap (λ b. written_at form iface (cond b (r ∷ []) [])) other ∙ written-nil form

pub one_going : (form : Form) (iface : ℕ) (ways : Ways) (r : Record (List ℕ)) → goes ways r.dir ≡ true → written_at form iface (going ways (r ∷ [])) ≡ written_at form iface (r ∷ [])
one_going form iface ways r there = ap (λ b. written_at form iface (cond b (r ∷ []) [])) there
