-- How many records an interface has in a trace, and how long their trace file is.
use Rattle.std.specs.Prelude.{ℕ, ◌==◌, List, length, ltb, if◌then◌else◌}
use Rattle.nm_base.specs.Count.{saturated}
use Rattle.nm_base.specs.declared.record.Record.{Record}
use Rattle.nm_model.specs.Lists.{keep_where}
use Rattle.nm_pcap.specs.declared.format.TheConstants.{FILE_HEADER_OCTETS}
use Rattle.nm_pcap.specs.Format.{pcap}
use Rattle.nm_topology.specs.TopologyValue.{TopologyValue}

-- how many records an interface has in a trace, and the length of their trace file; both stop at
-- the greatest of their type
abbrev pub totals_of : ℕ → List (Record (List ℕ)) → ℕ × ℕ
totals_of i records =
    let own = keep_where (λ r. r.iface == i) records in
    (saturated (length own), saturated (length (pcap own)))

-- the totals of an interface; one that isn't there has no record, and the file header alone
abbrev pub totals_at : TopologyValue → List (Record (List ℕ)) → ℕ → ℕ × ℕ
totals_at t trace i = if ltb i (length t.ifaces) then totals_of i trace else (0, FILE_HEADER_OCTETS)
