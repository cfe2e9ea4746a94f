-- How many packets arrived at an interface and how many it transmitted, with their octets.
use Rattle.std.specs.Prelude.{ℕ, ◌+◌, ◌*◌, ◌==◌, ◌&&◌, Bool, true, false, not, if◌then◌else◌, List, length, sum_by}
use Rattle.nm_base.specs.Count.{saturated}
use Rattle.nm_base.specs.declared.record.Dir.{Dir}
use Rattle.nm_base.specs.declared.record.Dir.TheVariants.{In, Out}
use Rattle.nm_base.specs.declared.record.Record.{Record}
use Rattle.nm_model.specs.Lists.{keep_where}
use Rattle.nm_pcap.specs.declared.format.TheConstants.{FILE_HEADER_OCTETS, RECORD_HEADER_OCTETS}
use Rattle.nm_sim.specs.declared.traffic.Amount.{Amount}
use Rattle.nm_sim.specs.declared.traffic.IfaceTraffic.{IfaceTraffic}

abbrev pub is_in : Dir → Bool
is_in In = true
is_in Out = false

-- a packet arrived at interface i, or it began to transmit one
abbrev pub came_to : ℕ → Record (List ℕ) → Bool
came_to i r = (r.iface == i) && is_in r.dir

abbrev pub went_from : ℕ → Record (List ℕ) → Bool
went_from i r = (r.iface == i) && not (is_in r.dir)

-- how many records are such, and the octets of their packets; both stop at the greatest of their
-- type
abbrev pub amount_of : (Record (List ℕ) → Bool) → List (Record (List ℕ)) → Amount
amount_of f records = record {
  packets = saturated (length (keep_where f records));
  octets = saturated (sum_by (λ r. length r.packet) (keep_where f records));
}

abbrev pub iface_traffic_of : ℕ → List (Record (List ℕ)) → IfaceTraffic
iface_traffic_of i records = record {
  came = amount_of (came_to i) records;
  went = amount_of (went_from i) records;
}

abbrev pub traffic_none : IfaceTraffic
traffic_none = record {
  came = record { packets = 0; octets = 0 };
  went = record { packets = 0; octets = 0 };
}

-- with one packet more, and with one record more at the interface
abbrev pub amount_after : Amount → ℕ → Amount
amount_after a octets = record {
  packets = saturated (a.packets + 1);
  octets = saturated (a.octets + octets);
}

abbrev pub came_after : IfaceTraffic → ℕ → IfaceTraffic
came_after x octets = record { came = amount_after x.came octets; went = x.went }

abbrev pub went_after : IfaceTraffic → ℕ → IfaceTraffic
went_after x octets = record { came = x.came; went = amount_after x.went octets }

abbrev pub traffic_after : IfaceTraffic → Record (List ℕ) → IfaceTraffic
traffic_after x r =
    if is_in r.dir then came_after x (length r.packet) else went_after x (length r.packet)

-- how many records these packets have, and the length of their trace file
abbrev pub totals_from : IfaceTraffic → ℕ × ℕ
totals_from x =
    let records = saturated (x.came.packets + x.went.packets) in
    let octets = saturated (x.came.octets + x.went.octets) in
    (records, saturated (records * RECORD_HEADER_OCTETS + octets + FILE_HEADER_OCTETS))
