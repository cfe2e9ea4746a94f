-- What contracts see of the records of a trace, of which the first were handed out.
use Rattle.std.specs.Prelude.{◌≡◌, ℕ, ◌≤◌, ◌==◌, true, List, [], length, drop, Option, Some, None}
use Rattle.std.specs.Option.{IfSome, IsSome}
use Rattle.nm_base.specs.Wanted.{is_wanted}
use Rattle.nm_base.specs.declared.record.Record.{Record}
use Rattle.nm_base.specs.declared.wanted.Wanted.{Wanted}
use Rattle.nm_base.specs.declared.wanted.Wanted.TheVariants.{All, Nothing, One}
use Rattle.nm_model.specs.Lists.{keep_where}
use Rattle.nm_topology.specs.TopologyValue.{TopologyValue}
use Rattle.nm_sim.specs.Tables.{AllAt}
use Rattle.nm_sim.specs.Traffic.{iface_traffic_of}
use Rattle.nm_sim.specs.declared.traffic.IfaceTraffic.{IfaceTraffic}
use Rattle.nm_sim.specs.declared.transmitted.Transmitted.{Transmitted}

-- which interfaces have kept records, and how many of those were handed out
pub record Keeping : Type 0 where
  pub wanted : Wanted
  pub handed : ℕ

-- the records of these interfaces
abbrev pub cut : Wanted → List (Record (List ℕ)) → List (Record (List ℕ))
cut All records = records
cut Nothing records = []
cut (One i) records = keep_where (λ r. r.iface == i) records

-- the records that are kept, which they are, the traffic of each interface, and for how many more
-- records there is memory
pub record RecordsValue : Type 0 where
  pub kept : List (Record (List ℕ))
  pub keeping : Keeping
  pub traffic : List IfaceTraffic
  pub spare : ℕ

-- they are those of this trace
pub record RecordsRepresent (t : TopologyValue) (r : RecordsValue)
    (trace : List (Record (List ℕ))) : Type 0 where
  pub kept : r.kept ≡ drop r.keeping.handed (cut r.keeping.wanted trace)
  pub few : r.keeping.handed ≤ length (cut r.keeping.wanted trace)
  pub count : length r.traffic ≡ length t.ifaces
  pub traffic : AllAt (λ i x. x ≡ iface_traffic_of i trace) r.traffic

-- these fields are of this transmission: its interface, and its packet
abbrev pub SaysTransmission : Option Transmitted → Option (ℕ × List ℕ) → Type 0
SaysTransmission None None = Unit {0}
SaysTransmission None (Some s) = ⊥
SaysTransmission (Some x) None = ⊥
SaysTransmission (Some x) (Some s) =
    (x.iface ≡ s.0) × (x.octets ≡ length s.1) × IfSome x.copy (λ other. other ≡ s.1)

-- it has a copy of the packet, if its record is wanted
abbrev pub HasWantedCopy : Wanted → Transmitted → Type 0
HasWantedCopy wanted x = is_wanted wanted x.iface ≡ true → IsSome x.copy
