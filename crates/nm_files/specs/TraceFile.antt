-- The trace file of one interface.
use Rattle.std.specs.Prelude.{ℕ, ◌==◌, List, ◌++◌, filter, flat_map}
use Rattle.nm_base.specs.declared.record.Record.{Record}
use Rattle.nm_pcap.specs.declared.form.Form.{Form}
use Rattle.nm_pcap.specs.declared.form.Form.TheVariants.{Octets}
use Rattle.nm_pcap.specs.Format.{file_header, pcap, record_octets}
use Rattle.nm_pcap.specs.Writing.{written, ending}

-- the records at an interface, both ways, in their order
abbrev pub records_at : ℕ → List (Record (List ℕ)) → List (Record (List ℕ))
records_at iface records = filter (λ r. r.iface == iface) records

-- what is written of them, in a form
abbrev pub written_at : Form → ℕ → List (Record (List ℕ)) → List ℕ
written_at form iface records = written form (flat_map record_octets (records_at iface records))

-- the file of the interface's records, in a form
abbrev pub trace_file : Form → ℕ → List (Record (List ℕ)) → List ℕ
trace_file form iface records = written form (pcap (records_at iface records)) ++ ending form

-- its content once these records are written as they are
abbrev pub octets_after : ℕ → List (Record (List ℕ)) → List ℕ
octets_after iface records = file_header ++ written_at Octets iface records
