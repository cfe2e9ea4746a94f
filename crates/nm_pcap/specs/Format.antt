-- The octets of a trace file: the pcap savefile format 2.4 with nanosecond times, little-endian.
use Rattle.std.specs.Prelude.{ℕ, ◌/◌, ◌%◌, List, ◌++◌, length, flat_map}
use Rattle.byteorder.specs.Endian.{little_bytes}
use Rattle.nm_base.specs.declared.record.Record.{Record}

-- magic number, major and minor version, time zone, accuracy, snapshot length, link type (raw IP)
abbrev pub file_header : List ℕ
file_header =
    little_bytes 4 0xa1b23c4d ++ little_bytes 2 2 ++ little_bytes 2 4 ++ little_bytes 4 0
    ++ little_bytes 4 0
    ++ little_bytes 4 65535 ++ little_bytes 4 101

-- seconds, nanoseconds of the second, captured length, original length
abbrev pub record_header : ℕ → ℕ → List ℕ
record_header nanoseconds octets =
    little_bytes 4 (nanoseconds / 1000000000) ++ little_bytes 4 (nanoseconds % 1000000000)
    ++ little_bytes 4 octets
    ++ little_bytes 4 octets

abbrev pub record_octets : Record (List ℕ) → List ℕ
record_octets r = record_header r.time (length r.packet) ++ r.packet

-- the file of these records
abbrev pub pcap : List (Record (List ℕ)) → List ℕ
pcap records = file_header ++ flat_map record_octets records
